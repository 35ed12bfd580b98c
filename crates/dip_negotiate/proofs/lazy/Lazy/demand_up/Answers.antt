use Rattle.std.proofs.Common.{ap, ◌∙◌, Err}
use Rattle.dip_rule.specs.Boxed.{stated_by}
use Rattle.dip_negotiate.specs.Places.{sink_end}
use Rattle.dip_negotiate.specs.Negotiation.{up_pass, place_of}
use Rattle.dip_negotiate.specs.Demands.{PortDependsOn, seen}
use Rattle.dip_negotiate.proofs.Turned.{up_in_turn}
use Rattle.dip_negotiate.proofs.Shared.{up_shared}
use Rattle.dip_negotiate.proofs.Lazily.{up_refusal, shared_only}
use Rattle.dip_negotiate.proofs.Only.{depended_within}
use Rattle.dip_negotiate.proofs.lazy.Lazy.demand_up.Goals as goal

pub demand-requires-clause-in_turn : goal.demand-requires-clause-in_turn
demand-requires-clause-in_turn g c =
    rw (c.as_slice-nodes.ensures, c.as_slice-edges.ensures, c.as_slice-steps.ensures)
    (up_in_turn (stated_by (goal.Rule-dyn g) c.args.self.now.rules.now) c.args.self.now.design.now c.args.self.now.edges.now c.requires.is.negotiable c.args.self.now.up_turns.steps c.requires.is.is_up.steps)

pub demand-requires-clause-shared : goal.demand-requires-clause-shared
demand-requires-clause-shared g c =
    rw (c.as_slice-nodes.ensures, c.as_slice-edges.ensures, c.as_slice-firsts.ensures)
    (up_shared (stated_by (goal.Rule-dyn g) c.args.self.now.rules.now) c.args.self.now.design.now.nodes c.args.self.now.edges.now c.args.self.now.up_turns.firsts c.requires.is.is_up.firsts)

pub returns-in-Ok-clause-only : goal.returns-in-Ok-clause-only
returns-in-Ok-clause-only g c =
    let rules = stated_by (goal.Rule-dyn g) c.args.self.now.rules.now in
    let turns = up_in_turn rules c.args.self.now.design.now c.args.self.now.edges.now c.requires.is.negotiable c.args.self.now.up_turns.steps c.requires.is.is_up.steps in
    let firsts = c.args.self.now.up_turns.firsts in
    shared_only (λ e. place_of rules c.args.self.now.design.now.nodes (sink_end e)) c.args.self.now.edges.now firsts c.requires.is.is_up.firsts
    (PortDependsOn (up_pass rules c.args.self.now.design.now.nodes c.args.self.now.edges.now) c.args.self.now.edges.now c.args.edge)
    (seen firsts c.args.self.now.up.items) (seen firsts c.demand.new.ports.items)
    (rw (← c.as_slice-edges.ensures, ← c.as_slice-firsts.ensures) c.demand.ensures.known.long)
    (depended_within (up_pass rules c.args.self.now.design.now.nodes c.args.self.now.edges.now) c.args.self.now.edges.now c.args.self.now.up_turns.steps turns c.args.edge c.requires.edge)
    (rw (← c.as_slice-nodes.ensures, ← c.as_slice-edges.ensures, ← c.as_slice-firsts.ensures) c.demand.ensures.only)

pub returns-in-Ok-clause-ok : goal.returns-in-Ok-clause-ok
returns-in-Ok-clause-ok g c = rw (← c.as_slice-nodes.ensures, ← c.as_slice-edges.ensures, ← c.as_slice-firsts.ensures) c.in-Ok.ensures.ok

pub returns-in-Err-clause-only : goal.returns-in-Err-clause-only
returns-in-Err-clause-only g c =
    let rules = stated_by (goal.Rule-dyn g) c.args.self.now.rules.now in
    let turns = up_in_turn rules c.args.self.now.design.now c.args.self.now.edges.now c.requires.is.negotiable c.args.self.now.up_turns.steps c.requires.is.is_up.steps in
    let firsts = c.args.self.now.up_turns.firsts in
    shared_only (λ e. place_of rules c.args.self.now.design.now.nodes (sink_end e)) c.args.self.now.edges.now firsts c.requires.is.is_up.firsts
    (PortDependsOn (up_pass rules c.args.self.now.design.now.nodes c.args.self.now.edges.now) c.args.self.now.edges.now c.args.edge)
    (seen firsts c.args.self.now.up.items) (seen firsts c.demand.new.ports.items)
    (rw (← c.as_slice-edges.ensures, ← c.as_slice-firsts.ensures) c.demand.ensures.known.long)
    (depended_within (up_pass rules c.args.self.now.design.now.nodes c.args.self.now.edges.now) c.args.self.now.edges.now c.args.self.now.up_turns.steps turns c.args.edge c.requires.edge)
    (rw (← c.as_slice-nodes.ensures, ← c.as_slice-edges.ensures, ← c.as_slice-firsts.ensures) c.demand.ensures.only)

pub returns-in-Err-clause-refused : goal.returns-in-Err-clause-refused
returns-in-Err-clause-refused g c =
    let rules = stated_by (goal.Rule-dyn g) c.args.self.now.rules.now in
    up_refusal rules c.args.self.now.design.now c.args.self.now.edges.now c.args.edge c.in-Err.fault c.up_fault.result
    (λ e n q. rw (← c.requires.is.is_up.steps, ← c.as_slice-nodes.ensures, ← c.as_slice-edges.ensures, ← c.as_slice-steps.ensures) (c.demand.ensures.refused e n (c.in-Err.is ∙ ap Err q)))
    (λ e n q. rw (← c.as_slice-nodes.ensures) (c.up_fault.ensures.refused e n q))
    c.up_fault.ensures.memory
