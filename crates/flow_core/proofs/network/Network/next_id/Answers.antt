use Rattle.std.proofs.Common.{sym, ap, ◌∙◌}
use Rattle.flow_core.specs.Network.{State}
use Rattle.flow_core.specs.Turns.{leaf_state, next_id}
use Rattle.flow_core.proofs.Unchosen.{no_new_id}
use Rattle.flow_core.proofs.network.Network.next_id.Goals as goal

pub returns : goal.returns
returns c = sym (ap (λ (state : State). next_id (leaf_state state c.args.leaf)) (sym c.self.view_is)
    ∙ no_new_id c.self.inside.plan.now c.self.inside.a c.self.inside.d c.self.inside.gates c.args.leaf)
