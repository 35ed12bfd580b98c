use Rattle.std.proofs.Common.{◌≡◌, map, take}
use Rattle.net_crossbar.specs.Heads.{head_at}
use Rattle.net_crossbar.proofs.ends.heads.Given as goal

abbrev pub invariant-loop-place : goal.invariant-loop-place
invariant-loop-place l = record {
  sofar : l.out ≡ map (head_at l.channel) (take l.place l.edges);
}
