use Rattle.std.proofs.Common.{sym, subst}
use Rattle.tl_edge.specs.SoundPlans.{IsSound}
use Rattle.flow_choice.specs.Choosing.{chosen_moves}
use Rattle.flow_choice.proofs.Ordering.{any_order}
use Rattle.flow_choice.proofs.Listing.{chosen_apart}
use Rattle.flow_choice.proofs.laws.commute_law.Goals as goal

pub returns : goal.returns
returns c = λ plan s offers moves sound valid order.
    any_order s (chosen_moves s offers) moves (chosen_apart s offers plan valid (subst IsSound (sym valid.shape.plan) sound)) order
