use Rattle.std.proofs.Common.{◌≡◌, ◌≤◌, ◌++◌, map}
use Rattle.dip_sets.specs.Differences.{piece, places_of, pieces}
use Rattle.dip_sets.proofs.set.AddressSet.pieces.Given as goal

abbrev pub invariant-loop-place : goal.invariant-loop-place
invariant-loop-place l = record {
  within : l.place ≤ 48;
  list : l.sets ++ map (piece l.self l.other) (places_of l.place l.cut) ≡ pieces l.self l.other;
}

abbrev pub decreases-loop-place : goal.decreases-loop-place
decreases-loop-place l = l.place
