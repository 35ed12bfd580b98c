-- A crossbar of the network does in a cycle what its machine does, and goes to the machine's next state.
use Rattle.std.specs.Prelude.{ℕ}
use Rattle.tl_params.specs.declared.ops.Template.TheVariants.{Xbar}
use Rattle.tl_edge.specs.declared.plan.Plan.{Plan}
use Rattle.tl_edge.specs.SoundPlans.{IsSound}
use Rattle.flow_core.specs.Network.{State}
use Rattle.flow_core.specs.Leaves.{LeafState}
use Rattle.flow_choice.specs.Valid.{IsValid}
use Rattle.net_queue.specs.Leaves.{IsOfTemplate}
use Rattle.net_cycle.specs.Parts.{IsMachineAt}
use Rattle.net_xbar.specs.Crossings.{crossing}

-- by the policy of its plan, from whatever state the machine begins
abbrev pub CrossbarAtLaw : Type 0
CrossbarAtLaw =
    (plan : Plan) (state : State) (leaf : ℕ) (idle : LeafState) → IsSound plan → IsValid plan state
    → IsOfTemplate plan leaf Xbar → IsMachineAt state leaf (crossing plan.policy idle)
