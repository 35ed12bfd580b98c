-- Neither a buffer nor a crossbar has a choice of an id.
use Rattle.std.proofs.Common.{ℕ, ◌≡◌, List, Option, Some, None, refl, ap, ◌∙◌, slice_get}
use Rattle.std.specs.Option.{option_map_or}
use Rattle.tl_params.specs.declared.ops.Template.{Template}
use Rattle.tl_params.specs.declared.ops.Template.TheVariants.{Buffer, Width, Fragmenter, Shrinker, Xbar}
use Rattle.tl_edge.specs.declared.beat.ABeat.{ABeat}
use Rattle.tl_edge.specs.declared.beat.DBeat.{DBeat}
use Rattle.tl_edge.specs.declared.beat.Tag.{Tag}
use Rattle.tl_edge.specs.declared.plan.Leaf.{Leaf}
use Rattle.tl_edge.specs.declared.plan.Plan.{Plan}
use Rattle.flow_core.specs.Crossing.{Crossbar, Gates}
use Rattle.flow_core.specs.Leaves.LeafState.{BufferState}
use Rattle.flow_core.specs.Tags.{Held}
use Rattle.flow_core.specs.Network.{both}
use Rattle.flow_core.specs.Turns.{leaf_state, next_id}
use Rattle.flow_core.specs.Built.{network, bar_of, state_of, held_of, held_with}
use Rattle.flow_core.proofs.Moved.{held_get}

none_by : (t : Template) (bar : Crossbar) (own : Gates) → next_id (state_of t bar own) ≡ 0
none_by Buffer bar own = refl
none_by Width bar own = refl
none_by Fragmenter bar own = refl
none_by Shrinker bar own = refl
none_by Xbar bar own = refl

found : (plan : Plan) (L : Option Leaf) (G : Option Gates)
    → next_id (option_map_or (λ (held : Held). held.leaf) (both L G (λ leaf own. Some (held_of plan leaf own))) BufferState) ≡ 0
found plan None G = refl
found plan (Some leaf) None = refl
found plan (Some leaf) (Some own) = none_by leaf.template (bar_of plan leaf) own

pub no_new_id : (plan : Plan) (a : List (List (ABeat × Tag))) (d : List (List (DBeat × Tag))) (gates : List Gates) (l : ℕ) → next_id (leaf_state (network plan a d gates) l) ≡ 0
no_new_id plan a d gates l =
    ap (λ o. next_id (option_map_or (λ (held : Held). held.leaf) o BufferState)) (held_get plan plan.leaves gates l)
    ∙ found plan (slice_get plan.leaves l) (slice_get gates l)
