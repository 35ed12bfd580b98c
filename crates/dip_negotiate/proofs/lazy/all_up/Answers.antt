use Rattle.std.proofs.Common.{ap, ◌∙◌, Err}
use Rattle.dip_rule.specs.Boxed.{stated_by}
use Rattle.dip_negotiate.proofs.Turned.{up_in_turn}
use Rattle.dip_negotiate.proofs.Shared.{up_shared}
use Rattle.dip_negotiate.proofs.Lazily.{up_fault}
use Rattle.dip_negotiate.proofs.lazy.all_up.Goals as goal

pub all_ports-requires-clause-in_turn : goal.all_ports-requires-clause-in_turn
all_ports-requires-clause-in_turn g c =
    rw (c.as_slice-nodes.ensures, c.as_slice-steps.ensures)
    (up_in_turn (stated_by (goal.Rule-dyn g) c.args.rules.now) c.args.design.now c.args.edges.now c.requires.negotiable c.args.turns.now.steps c.requires.is.steps)

pub all_ports-requires-clause-shared : goal.all_ports-requires-clause-shared
all_ports-requires-clause-shared g c =
    rw (c.as_slice-nodes.ensures, c.as_slice-firsts.ensures)
    (up_shared (stated_by (goal.Rule-dyn g) c.args.rules.now) c.args.design.now.nodes c.args.edges.now c.args.turns.now.firsts c.requires.is.firsts)

pub returns-in-Ok-clause-ok : goal.returns-in-Ok-clause-ok
returns-in-Ok-clause-ok g c = rw (← c.requires.is.steps, ← c.as_slice-nodes.ensures, ← c.as_slice-steps.ensures) c.in-Ok.ensures.ok

pub returns-in-Err-clause-err : goal.returns-in-Err-clause-err
returns-in-Err-clause-err g c =
    up_fault (stated_by (goal.Rule-dyn g) c.args.rules.now) c.args.design.now c.args.edges.now c.in-Err.fault c.up_fault.result
    (λ e n q. rw (← c.requires.is.steps, ← c.as_slice-nodes.ensures, ← c.as_slice-steps.ensures) (c.all_ports.ensures.refused e n (c.in-Err.is ∙ ap Err q)))
    (λ e n q. rw (← c.as_slice-nodes.ensures) (c.up_fault.ensures.refused e n q))
    c.up_fault.ensures.memory
