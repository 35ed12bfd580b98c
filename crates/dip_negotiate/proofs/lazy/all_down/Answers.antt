use Rattle.std.proofs.Common.{ap, ◌∙◌, Err}
use Rattle.dip_rule.specs.Boxed.{stated_by}
use Rattle.dip_negotiate.proofs.Turned.{down_in_turn}
use Rattle.dip_negotiate.proofs.Shared.{down_shared}
use Rattle.dip_negotiate.proofs.Lazily.{down_fault}
use Rattle.dip_negotiate.proofs.lazy.all_down.Goals as goal

pub all_ports-requires-clause-in_turn : goal.all_ports-requires-clause-in_turn
all_ports-requires-clause-in_turn g c =
    rw (c.as_slice-nodes.ensures, c.as_slice-steps.ensures)
    (down_in_turn (stated_by (goal.Rule-dyn g) c.args.rules.now) c.args.design.now c.args.edges.now c.requires.negotiable c.args.turns.now.steps c.requires.is.steps)

pub all_ports-requires-clause-shared : goal.all_ports-requires-clause-shared
all_ports-requires-clause-shared g c =
    rw (c.as_slice-nodes.ensures, c.as_slice-firsts.ensures)
    (down_shared (stated_by (goal.Rule-dyn g) c.args.rules.now) c.args.design.now.nodes c.args.edges.now c.args.turns.now.firsts c.requires.is.firsts)

pub returns-in-Ok-clause-ok : goal.returns-in-Ok-clause-ok
returns-in-Ok-clause-ok g c = rw (← c.requires.is.steps, ← c.as_slice-nodes.ensures, ← c.as_slice-steps.ensures) c.in-Ok.ensures.ok

pub returns-in-Err-clause-err : goal.returns-in-Err-clause-err
returns-in-Err-clause-err g c =
    down_fault (stated_by (goal.Rule-dyn g) c.args.rules.now) c.args.design.now c.args.edges.now c.in-Err.fault c.down_fault.result
    (λ e n q. rw (← c.requires.is.steps, ← c.as_slice-nodes.ensures, ← c.as_slice-steps.ensures) (c.all_ports.ensures.refused e n (c.in-Err.is ∙ ap Err q)))
    (λ e n q. rw (← c.as_slice-nodes.ensures) (c.down_fault.ensures.refused e n q))
    c.down_fault.ensures.memory
