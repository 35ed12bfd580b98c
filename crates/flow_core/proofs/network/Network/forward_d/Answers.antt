use Rattle.std.proofs.Common.{sym, subst, ap, ◌∙◌, IsTrue}
use Rattle.flow_core.specs.declared.moves.Move.TheVariants.{ForwardD}
use Rattle.flow_core.specs.Network.{State, is_enabled}
use Rattle.flow_core.specs.Built.{IsNetwork}
use Rattle.flow_core.proofs.Moved.{some_enabled_d}
use Rattle.flow_core.proofs.Standing.{stands_passed_d}
use Rattle.flow_core.proofs.network.Network.forward_d.Goals as goal

pub pass-requires : goal.pass-requires
pass-requires c =
    subst (λ b. IsTrue b)
    (sym (some_enabled_d c.self.inside.plan.now c.self.inside.a c.self.inside.d c.self.inside.gates c.args.leaf c.args.input c.args.output c.in-Some.passing (sym c.in-Some.ensures)
    ∙ ap (λ (state : State). is_enabled state (ForwardD c.args.leaf c.args.input c.args.output)) c.self.view_is))
    c.requires

pub invariant_of-self : goal.invariant_of-self
invariant_of-self c =
    subst (λ new. IsNetwork c.self.inside.plan.now c.self.inside.fixed c.self.inside.a new) (sym c.pass.ensures)
    (stands_passed_d c.self.inside.plan.now c.self.inside.fixed c.self.inside.a c.self.inside.d c.self.invariant
    c.self.inside.gates c.args.leaf c.args.input c.args.output c.in-Some.passing (sym c.in-Some.ensures))
