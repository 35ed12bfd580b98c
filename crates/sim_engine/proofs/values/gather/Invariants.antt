use Rattle.std.proofs.Common.{◌≡◌, ◌++◌, drop, get_or, length, map, take}
use Rattle.sim_engine.proofs.values.gather.Given as goal

abbrev pub invariant-loop-at : goal.invariant-loop-at
invariant-loop-at l = record {
  long : length l.into ≡ length l.places;
  so_far : take l.at l.into ++ map (λ k. get_or l.values k 0) (drop l.at l.places) ≡ map (λ k. get_or l.values k 0) l.places;
}
