use Rattle.std.proofs.Common.{ap, ◌∙◌, None, get_or}
use Rattle.dip_rule.specs.Boxed.{stated_by}
use Rattle.dip_negotiate.specs.Negotiation.{down_pass}
use Rattle.dip_negotiate.specs.Demands.{seen}
use Rattle.dip_negotiate.proofs.Turned.{down_in_turn}
use Rattle.dip_negotiate.proofs.Lazily.{some_port}
use Rattle.dip_negotiate.proofs.lazy.Lazy.down_port.Goals as goal

pub returns-clause-only : goal.returns-clause-only
returns-clause-only g c =
    let rules = stated_by (goal.Rule-dyn g) c.args.self.now.rules.now in
    let is = c.requires.is.is_down in
    some_port (down_pass rules c.args.self.now.design.now.nodes c.args.self.now.edges.now) c.args.self.now.edges.now c.args.self.now.down_turns.steps
    (down_in_turn rules c.args.self.now.design.now c.args.self.now.edges.now c.requires.is.negotiable c.args.self.now.down_turns.steps is.steps)
    c.args.edge (seen c.args.self.now.down_turns.firsts c.args.self.now.down.items) is.known c.port_at.result
    (c.port_at.ensures ∙ ap (λ x. get_or (seen x c.deref.result.now) c.args.edge None) c.as_slice.ensures ∙ ap (λ x. get_or (seen c.args.self.now.down_turns.firsts x) c.args.edge None) c.deref.ensures.value)
