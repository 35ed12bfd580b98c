use Rattle.std.proofs.Common.{ℕ, ◌+◌, ◌<◌}
use Rattle.sim_engine.specs.Ranks.{ReadsBelow, rank_at}
use Rattle.sim_engine.proofs.ranks.are_ranked.Given as goal

abbrev pub invariant-loop-place : goal.invariant-loop-place
invariant-loop-place l = (place : ℕ) → place < l.place → ReadsBelow l.netlist l.ranks place (rank_at l.ranks place + 1)
