use Rattle.std.proofs.Common.{◌≡◌, map, take}
use Rattle.net_crossbar.specs.Heads.{valid_at}
use Rattle.net_crossbar.proofs.ends.valids.Given as goal

abbrev pub invariant-loop-place : goal.invariant-loop-place
invariant-loop-place l = record {
  sofar : l.out ≡ map (valid_at l.channel) (take l.place l.edges);
}
