use Rattle.std.proofs.Common.{sym, ap, ◌∙◌}
use Rattle.flow_core.specs.declared.moves.Move.TheVariants.{ForwardA}
use Rattle.flow_core.specs.Network.{State, is_enabled}
use Rattle.flow_core.proofs.Moved.{some_enabled_a}
use Rattle.flow_core.proofs.network.Network.may_forward_a.Goals as goal

pub returns-in-Some : goal.returns-in-Some
returns-in-Some c =
    c.has_room.ensures
    ∙ some_enabled_a c.self.inside.plan.now c.self.inside.a c.self.inside.d c.self.inside.gates c.args.leaf c.args.input c.args.output c.args.id c.in-Some.passing (sym c.in-Some.ensures)
    ∙ ap (λ (state : State). is_enabled state (ForwardA c.args.leaf c.args.input c.args.output c.args.id)) c.self.view_is
