use Rattle.std.proofs.Common.{sym, subst}
use Rattle.flow_core.specs.Built.{IsNetwork}
use Rattle.flow_core.proofs.Standing.{stands_taken_d}
use Rattle.flow_core.proofs.network.Network.give_back.Goals as goal

pub invariant_of-self : goal.invariant_of-self
invariant_of-self c =
    subst (λ new. IsNetwork c.self.inside.plan.now c.self.inside.fixed c.self.inside.a new) (sym c.take.ensures)
    (stands_taken_d c.self.inside.plan.now c.self.inside.fixed c.self.inside.a c.self.inside.d c.self.invariant c.in-Some.edge)
