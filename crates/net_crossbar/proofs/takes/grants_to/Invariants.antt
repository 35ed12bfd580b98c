use Rattle.std.proofs.Common.{◌≡◌, map, get_or, take}
use Rattle.net_build.specs.Columns.{no_wire}
use Rattle.net_gate.specs.declared.types.Serving.{Serving}
use Rattle.net_crossbar.proofs.takes.grants_to.Given as goal

abbrev pub invariant-loop-place : goal.invariant-loop-place
invariant-loop-place l = record {
  sofar : l.out ≡ map (λ (s : Serving). get_or s.grants l.head no_wire) (take l.place l.servings);
}
