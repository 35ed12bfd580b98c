use Rattle.std.proofs.Common.{sym, ap, ◌∙◌}
use Rattle.flow_core.specs.declared.moves.Move.TheVariants.{ForwardD}
use Rattle.flow_core.specs.Network.{State, is_enabled}
use Rattle.flow_core.proofs.Moved.{some_enabled_d}
use Rattle.flow_core.proofs.network.Network.may_forward_d.Goals as goal

pub returns-in-Some : goal.returns-in-Some
returns-in-Some c =
    c.has_room.ensures
    ∙ some_enabled_d c.self.inside.plan.now c.self.inside.a c.self.inside.d c.self.inside.gates c.args.leaf c.args.input c.args.output c.in-Some.passing (sym c.in-Some.ensures)
    ∙ ap (λ (state : State). is_enabled state (ForwardD c.args.leaf c.args.input c.args.output)) c.self.view_is
