use Rattle.std.proofs.Common.{◌≡◌, ◌+◌, ◌++◌, List}
use Rattle.dip_sets.specs.Sets.{Pattern}
use Rattle.dip_sets.specs.Regions.{IsSplit}
use Rattle.dip_sets.proofs.region.split_region.Given as goal

abbrev pub invariant-loop-left : goal.invariant-loop-left
invariant-loop-left l = record {
  place : l.base + l.left ≡ l.start + l.size;
  split : (rest : List Pattern) → IsSplit l.base l.left rest → IsSplit l.start l.size (l.sets ++ rest);
}

abbrev pub decreases-loop-left : goal.decreases-loop-left
decreases-loop-left l = l.left
