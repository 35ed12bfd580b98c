use Rattle.std.proofs.Common.{◌≡◌, Err, Ok, ap, sym, ◌∙◌}
use Rattle.dip_rule.specs.Boxed.{stated_by}
use Rattle.dip_negotiate.specs.declared.demands.PassFault.TheVariants.{Refused}
use Rattle.dip_negotiate.specs.Demands.{seen}
use Rattle.dip_negotiate.proofs.Passing.{all_gathered, all_go_on, all_stopped}
use Rattle.dip_negotiate.proofs.demands.all_ports.Goals as goal

pub ask_marked-requires-clause-goes_on : goal.ask_marked-requires-clause-goes_on
ask_marked-requires-clause-goes_on g c =
    let pass = g.P.Negotiated.pass (stated_by (goal.Rule-dyn g) c.args.rules.now) c.args.nodes.now c.args.edges.now in
    all_go_on pass c.args.edges.now c.args.steps.now c.requires.in_turn g.P.Negotiated.unknown (seen c.args.firsts.now c.args.ports.items) c.requires.known c.deref.result.now
    (c.deref.ensures.value ∙ c.in-Ok.ensures)

pub returns-in-Err-clause-refused : goal.returns-in-Err-clause-refused
returns-in-Err-clause-refused g c refused number e =
    let pass = g.P.Negotiated.pass (stated_by (goal.Rule-dyn g) c.args.rules.now) c.args.nodes.now c.args.edges.now in
    let q : c.in-Err.fault ≡ Refused refused number = cc in
    all_stopped pass c.args.edges.now c.args.steps.now c.requires.in_turn g.P.Negotiated.unknown (seen c.args.firsts.now c.ask_marked.new.ports.items) c.ask_marked.ensures.known c.deref.result.now
    (c.deref.ensures.value ∙ c.in-Ok.ensures) refused number (c.ask_marked.ensures.refused refused number (c.in-Err.is ∙ ap Err q))

pub returns-in-Ok-kept_ports-clause-ok : goal.returns-in-Ok-kept_ports-clause-ok
returns-in-Ok-kept_ports-clause-ok g c =
    let pass = g.P.Negotiated.pass (stated_by (goal.Rule-dyn g) c.args.rules.now) c.args.nodes.now c.args.edges.now in
    let is = all_gathered pass c.args.edges.now c.args.steps.now c.requires.in_turn g.P.Negotiated.unknown (seen c.args.firsts.now c.ask_marked.new.ports.items) c.ask_marked.ensures.known c.deref.result.now
    (c.deref.ensures.value ∙ c.in-Ok.ensures) c.in-Ok-ask_marked.ensures.ok in
    is ∙ ap Ok (sym c.in-Ok-kept_ports.ensures.value)
