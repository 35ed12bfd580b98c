use Rattle.std.proofs.Common.{◌≡◌, map, take}
use Rattle.net_crossbar.specs.Heads.{ready_at}
use Rattle.net_crossbar.proofs.ends.readies.Given as goal

abbrev pub invariant-loop-place : goal.invariant-loop-place
invariant-loop-place l = record {
  sofar : l.out ≡ map (ready_at l.channel) (take l.place l.edges);
}
