use Rattle.std.proofs.Common.{sym, subst, IsTrue, ap, ◌∙◌}
use Rattle.flow_core.specs.declared.moves.Move.TheVariants.{Reply}
use Rattle.flow_core.specs.Network.{State, edge_of_port, is_enabled}
use Rattle.flow_core.specs.Built.{IsNetwork}
use Rattle.flow_core.proofs.Moved.{reply_carries}
use Rattle.flow_core.proofs.Standing.{stands_put_d}
use Rattle.flow_core.proofs.network.Network.reply.Goals as goal

pub invariant_of-self : goal.invariant_of-self
invariant_of-self c =
    let at = sym c.in-Some.ensures in
    let may = subst (λ (state : State). IsTrue (is_enabled state (Reply c.args.port c.args.beat c.args.tag))) (sym c.self.view_is) c.requires in
    subst (λ new. IsNetwork c.self.inside.plan.now c.self.inside.fixed c.self.inside.a new) (sym c.put.ensures)
    (stands_put_d c.self.inside.plan.now c.self.inside.fixed c.self.inside.a c.self.inside.d c.self.invariant c.in-Some.edge c.args.beat c.args.tag
    (reply_carries c.self.inside.plan.now c.self.inside.a c.self.inside.d c.self.inside.gates c.args.port c.in-Some.edge c.args.beat c.args.tag (ap (λ ports. edge_of_port ports c.args.port) (sym c.as_slice.ensures) ∙ at) may))
