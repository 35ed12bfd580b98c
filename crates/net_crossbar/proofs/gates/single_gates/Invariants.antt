use Rattle.std.proofs.Common.{◌≡◌, [], length, get_or}
use Rattle.net_build.specs.Columns.{no_wire}
use Rattle.net_build.specs.Values.{Adds}
use Rattle.net_gate.specs.Built.{AreServing}
use Rattle.net_crossbar.specs.Places.{AllAt}
use Rattle.net_crossbar.specs.Serving.{IsSingleGate}
use Rattle.net_crossbar.proofs.gates.single_gates.Given as goal

abbrev pub invariant-loop-place : goal.invariant-loop-place
invariant-loop-place l = record {
  adds : Adds l.fn.builder l.builder;
  long : length l.out ≡ l.place;
  servings : AllAt (λ k s. AreServing l.builder (length l.rows) l.widths s) l.out;
  gates : AllAt (λ k s. IsSingleGate l.builder l.rows (get_or l.wants k []) (get_or l.readies k no_wire) s) l.out;
}
