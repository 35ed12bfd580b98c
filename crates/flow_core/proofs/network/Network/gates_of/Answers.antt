use Rattle.std.proofs.Common.{ap, ◌∙◌}
use Rattle.flow_core.specs.Gating.{gates_of}
use Rattle.flow_core.specs.Network.{State}
use Rattle.flow_core.proofs.Gated.{gates_are}
use Rattle.flow_core.proofs.network.Network.gates_of.Goals as goal

pub returns : goal.returns
returns c =
    c.kept_gates.ensures
    ∙ gates_are c.self.inside.plan.now c.self.inside.a c.self.inside.d c.self.inside.gates c.args.leaf
    ∙ ap (λ (state : State). gates_of state c.args.leaf) c.self.view_is
