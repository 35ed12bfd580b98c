use Rattle.std.proofs.Common.{ap, ◌∙◌, Err}
use Rattle.dip_rule.specs.Boxed.{stated_by}
use Rattle.dip_negotiate.specs.Places.{source_end}
use Rattle.dip_negotiate.specs.Negotiation.{down_pass, place_of}
use Rattle.dip_negotiate.specs.Demands.{PortDependsOn, seen}
use Rattle.dip_negotiate.proofs.Turned.{down_in_turn}
use Rattle.dip_negotiate.proofs.Shared.{down_shared}
use Rattle.dip_negotiate.proofs.Lazily.{down_refusal, shared_only}
use Rattle.dip_negotiate.proofs.Only.{depended_within}
use Rattle.dip_negotiate.proofs.lazy.Lazy.demand_down.Goals as goal

pub demand-requires-clause-in_turn : goal.demand-requires-clause-in_turn
demand-requires-clause-in_turn g c =
    rw (c.as_slice-nodes.ensures, c.as_slice-edges.ensures, c.as_slice-steps.ensures)
    (down_in_turn (stated_by (goal.Rule-dyn g) c.args.self.now.rules.now) c.args.self.now.design.now c.args.self.now.edges.now c.requires.is.negotiable c.args.self.now.down_turns.steps c.requires.is.is_down.steps)

pub demand-requires-clause-shared : goal.demand-requires-clause-shared
demand-requires-clause-shared g c =
    rw (c.as_slice-nodes.ensures, c.as_slice-edges.ensures, c.as_slice-firsts.ensures)
    (down_shared (stated_by (goal.Rule-dyn g) c.args.self.now.rules.now) c.args.self.now.design.now.nodes c.args.self.now.edges.now c.args.self.now.down_turns.firsts c.requires.is.is_down.firsts)

pub returns-in-Ok-clause-only : goal.returns-in-Ok-clause-only
returns-in-Ok-clause-only g c =
    let rules = stated_by (goal.Rule-dyn g) c.args.self.now.rules.now in
    let turns = down_in_turn rules c.args.self.now.design.now c.args.self.now.edges.now c.requires.is.negotiable c.args.self.now.down_turns.steps c.requires.is.is_down.steps in
    let firsts = c.args.self.now.down_turns.firsts in
    shared_only (λ e. place_of rules c.args.self.now.design.now.nodes (source_end e)) c.args.self.now.edges.now firsts c.requires.is.is_down.firsts
    (PortDependsOn (down_pass rules c.args.self.now.design.now.nodes c.args.self.now.edges.now) c.args.self.now.edges.now c.args.edge)
    (seen firsts c.args.self.now.down.items) (seen firsts c.demand.new.ports.items)
    (rw (← c.as_slice-edges.ensures, ← c.as_slice-firsts.ensures) c.demand.ensures.known.long)
    (depended_within (down_pass rules c.args.self.now.design.now.nodes c.args.self.now.edges.now) c.args.self.now.edges.now c.args.self.now.down_turns.steps turns c.args.edge c.requires.edge)
    (rw (← c.as_slice-nodes.ensures, ← c.as_slice-edges.ensures, ← c.as_slice-firsts.ensures) c.demand.ensures.only)

pub returns-in-Ok-clause-ok : goal.returns-in-Ok-clause-ok
returns-in-Ok-clause-ok g c = rw (← c.as_slice-nodes.ensures, ← c.as_slice-edges.ensures, ← c.as_slice-firsts.ensures) c.in-Ok.ensures.ok

pub returns-in-Err-clause-only : goal.returns-in-Err-clause-only
returns-in-Err-clause-only g c =
    let rules = stated_by (goal.Rule-dyn g) c.args.self.now.rules.now in
    let turns = down_in_turn rules c.args.self.now.design.now c.args.self.now.edges.now c.requires.is.negotiable c.args.self.now.down_turns.steps c.requires.is.is_down.steps in
    let firsts = c.args.self.now.down_turns.firsts in
    shared_only (λ e. place_of rules c.args.self.now.design.now.nodes (source_end e)) c.args.self.now.edges.now firsts c.requires.is.is_down.firsts
    (PortDependsOn (down_pass rules c.args.self.now.design.now.nodes c.args.self.now.edges.now) c.args.self.now.edges.now c.args.edge)
    (seen firsts c.args.self.now.down.items) (seen firsts c.demand.new.ports.items)
    (rw (← c.as_slice-edges.ensures, ← c.as_slice-firsts.ensures) c.demand.ensures.known.long)
    (depended_within (down_pass rules c.args.self.now.design.now.nodes c.args.self.now.edges.now) c.args.self.now.edges.now c.args.self.now.down_turns.steps turns c.args.edge c.requires.edge)
    (rw (← c.as_slice-nodes.ensures, ← c.as_slice-edges.ensures, ← c.as_slice-firsts.ensures) c.demand.ensures.only)

pub returns-in-Err-clause-refused : goal.returns-in-Err-clause-refused
returns-in-Err-clause-refused g c =
    let rules = stated_by (goal.Rule-dyn g) c.args.self.now.rules.now in
    down_refusal rules c.args.self.now.design.now c.args.self.now.edges.now c.args.edge c.in-Err.fault c.down_fault.result
    (λ e n q. rw (← c.requires.is.is_down.steps, ← c.as_slice-nodes.ensures, ← c.as_slice-edges.ensures, ← c.as_slice-steps.ensures) (c.demand.ensures.refused e n (c.in-Err.is ∙ ap Err q)))
    (λ e n q. rw (← c.as_slice-nodes.ensures) (c.down_fault.ensures.refused e n q))
    c.down_fault.ensures.memory
