use Rattle.std.proofs.Common.{◌≡◌, ◌≤◌, take, map, All}
use Rattle.dip_sets.specs.Assignments.{rounded}
use Rattle.dip_sets.proofs.assign.rounded_counts.Given as goal

abbrev pub invariant-loop-count : goal.invariant-loop-count
invariant-loop-count l = record {
  value : l.list ≡ map rounded (take l.count-index l.counts);
  small : All (λ count. count ≤ 1024) l.list;
}
