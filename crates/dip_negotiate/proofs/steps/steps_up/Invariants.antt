use Rattle.std.proofs.Common.{◌≡◌, ◌-◌, drop, length}
use Rattle.dip_negotiate.specs.Places.{steps_up}
use Rattle.dip_negotiate.proofs.steps.steps_up.Given as goal

abbrev pub invariant-loop-turn : goal.invariant-loop-turn
invariant-loop-turn l = l.steps ≡ steps_up (drop (length l.order - l.turn) l.order) l.edges
