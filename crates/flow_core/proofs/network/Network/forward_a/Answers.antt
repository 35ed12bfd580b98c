use Rattle.std.proofs.Common.{sym, subst, ap, ◌∙◌, IsTrue}
use Rattle.flow_core.specs.declared.moves.Move.TheVariants.{ForwardA}
use Rattle.flow_core.specs.Network.{State, is_enabled}
use Rattle.flow_core.specs.Built.{IsNetwork}
use Rattle.flow_core.proofs.Moved.{some_enabled_a}
use Rattle.flow_core.proofs.Standing.{stands_passed_a}
use Rattle.flow_core.proofs.network.Network.forward_a.Goals as goal

pub pass-requires : goal.pass-requires
pass-requires c =
    subst (λ b. IsTrue b)
    (sym (some_enabled_a c.self.inside.plan.now c.self.inside.a c.self.inside.d c.self.inside.gates c.args.leaf c.args.input c.args.output c.args.id c.in-Some.passing (sym c.in-Some.ensures)
    ∙ ap (λ (state : State). is_enabled state (ForwardA c.args.leaf c.args.input c.args.output c.args.id)) c.self.view_is))
    c.requires

pub invariant_of-self : goal.invariant_of-self
invariant_of-self c =
    subst (λ new. IsNetwork c.self.inside.plan.now c.self.inside.fixed new c.self.inside.d) (sym c.pass.ensures)
    (stands_passed_a c.self.inside.plan.now c.self.inside.fixed c.self.inside.a c.self.inside.d c.self.invariant
    c.self.inside.gates c.args.leaf c.args.input c.args.output c.args.id c.in-Some.passing (sym c.in-Some.ensures))
