-- The width adapter as a leaf of a plan.
use Rattle.std.specs.Prelude.{◌≡◌, ℕ, map}
use Rattle.tl_params.specs.declared.ops.Template.TheVariants.{Width}
use Rattle.tl_edge.specs.declared.plan.Plan.{Plan}
use Rattle.tl_edge.specs.Plans.{edge_at}
use Rattle.flow_core.specs.Leaves.{LeafState, first_edge}
use Rattle.flow_core.specs.Network.{network_at_start}
use Rattle.flow_core.specs.Turns.{leaf_state}
use Rattle.net_queue.specs.Leaves.{IsOfTemplate, LeafDone, LeafView, ins_at, outs_at}
use Rattle.net_queue.specs.Machines.{Machine}
use Rattle.net_widget.specs.Widgets.{widget_machine}

-- the adapter between the in edge and the out edge of a leaf of a plan
abbrev pub plan_widget : Plan → ℕ → Machine LeafState LeafView LeafDone
plan_widget plan leaf =
    widget_machine
    (first_edge (map (edge_at plan) (ins_at plan leaf)))
    (first_edge (map (edge_at plan) (outs_at plan leaf)))

-- it begins as the network has it at the start
abbrev pub PlanWidgetLaw : Type 0
PlanWidgetLaw =
    (plan : Plan) (leaf : ℕ) → IsOfTemplate plan leaf Width
    → (plan_widget plan leaf).idle ≡ leaf_state (network_at_start plan) leaf
