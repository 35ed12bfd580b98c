use Rattle.std.proofs.Common.{◌≡◌, ◌≤◌, not, count_by, nat_eq, take}
use Rattle.sim_ports.proofs.source.busy_count.Given as goal

abbrev pub invariant-loop-beats : goal.invariant-loop-beats
invariant-loop-beats l = record {
  is : l.busy ≡ count_by (λ n. not (nat_eq n 0)) (take l.beats-index l.left);
  few : l.busy ≤ l.beats-index;
}
