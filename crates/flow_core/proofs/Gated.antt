-- The gates of a network of buffers and crossbars are those that its leaves keep.
use Rattle.std.proofs.Common.{ℕ, ◌≡◌, List, Option, Some, None, refl, sym, ap, ◌∙◌}
use Rattle.std.specs.Prelude.{slice_get}
use Rattle.std.specs.Option.{option_and_then}
use Rattle.tl_params.specs.declared.ops.Template.{Template}
use Rattle.tl_params.specs.declared.ops.Template.TheVariants.{Buffer, Width, Fragmenter, Shrinker, Xbar}
use Rattle.tl_edge.specs.declared.beat.ABeat.{ABeat}
use Rattle.tl_edge.specs.declared.beat.DBeat.{DBeat}
use Rattle.tl_edge.specs.declared.beat.Tag.{Tag}
use Rattle.tl_edge.specs.declared.plan.Leaf.{Leaf}
use Rattle.tl_edge.specs.declared.plan.Plan.{Plan}
use Rattle.flow_core.specs.Crossing.{Crossbar, Gates}
use Rattle.flow_core.specs.Tags.{Held}
use Rattle.flow_core.specs.Network.{both}
use Rattle.flow_core.specs.Built.{network, bar_of, state_of, held_of, own_gates, kept_gates}
use Rattle.flow_core.specs.Gating.{gates_in, gates_of}
use Rattle.flow_core.proofs.Moved.{held_get}

gates_by : (t : Template) (bar : Crossbar) (own : Gates) → gates_in (state_of t bar own) ≡ own_gates t own
gates_by Buffer bar own = refl
gates_by Width bar own = refl
gates_by Fragmenter bar own = refl
gates_by Shrinker bar own = refl
gates_by Xbar bar own = refl

found : (plan : Plan) (L : Option Leaf) (G : Option Gates)
    → option_and_then (λ (held : Held). gates_in held.leaf) (both L G (λ leaf own. Some (held_of plan leaf own)))
    ≡ both L G (λ leaf own. own_gates leaf.template own)
found plan None G = refl
found plan (Some leaf) None = refl
found plan (Some leaf) (Some own) = gates_by leaf.template (bar_of plan leaf) own

pub gates_are : (plan : Plan) (a : List (List (ABeat × Tag))) (d : List (List (DBeat × Tag))) (gates : List Gates) (l : ℕ)
    → kept_gates plan gates l ≡ gates_of (network plan a d gates) l
gates_are plan a d gates l =
    sym (ap (option_and_then (λ (held : Held). gates_in held.leaf)) (held_get plan plan.leaves gates l)
    ∙ found plan (slice_get plan.leaves l) (slice_get gates l))
