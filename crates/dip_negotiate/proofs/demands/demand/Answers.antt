use Rattle.std.proofs.Common.{◌≡◌, sym, ap, ◌∙◌, subst, true}
use Rattle.dip_rule.specs.Boxed.{stated_by}
use Rattle.dip_negotiate.specs.Demands.{PortDependsOn, keeps, KeepsOnly, seen}
use Rattle.dip_negotiate.specs.Turns.{AreMarked, marked, SameFirst, StopsAt}
use Rattle.dip_negotiate.proofs.Only.{demand_refused, depended_kept, only_depended}
use Rattle.dip_negotiate.proofs.demands.demand.Goals as goal

pub returns-then-keeps-clause-ok : goal.returns-then-keeps-clause-ok
returns-then-keeps-clause-ok g c =
    let pass = g.P.Negotiated.pass (stated_by (goal.Rule-dyn g) c.args.rules.now) c.args.nodes.now c.args.edges.now in
    let old = seen c.args.firsts.now c.args.ports.now.items in
    let is_kept : keeps old c.args.edge ≡ true = ap (λ x. keeps (seen c.args.firsts.now x) c.args.edge) (sym c.deref.ensures.value) ∙ sym c.keeps.ensures ∙ c.if-keeps.true in
    depended_kept pass c.args.edges.now c.args.steps.now c.requires.in_turn c.args.edge old c.requires.known is_kept

pub returns-clause-only : goal.returns-clause-only
returns-clause-only g c =
    let pass = g.P.Negotiated.pass (stated_by (goal.Rule-dyn g) c.args.rules.now) c.args.nodes.now c.args.edges.now in
    let old = seen c.args.firsts.now c.args.ports.now.items in
    let new = seen c.args.firsts.now c.ask_marked.new.ports.items in
    let marks = subst (λ x. AreMarked pass c.args.edges.now (seen c.args.firsts.now x) (PortDependsOn pass c.args.edges.now c.args.edge) c.in-Ok.marks.items) c.deref-2.ensures.value c.in-Ok.ensures in
    only_depended pass c.args.edges.now c.args.steps.now c.requires.in_turn c.args.edge old new c.in-Ok.marks.items marks (SameFirst c.args.firsts.now)
    (subst (λ ms. KeepsOnly (SameFirst c.args.firsts.now) (λ k. marked ms k ≡ true) old new) c.deref-3.ensures.value c.ask_marked.ensures.only)

pub returns-clause-refused : goal.returns-clause-refused
returns-clause-refused g c refused number e =
    let pass = g.P.Negotiated.pass (stated_by (goal.Rule-dyn g) c.args.rules.now) c.args.nodes.now c.args.edges.now in
    let old = seen c.args.firsts.now c.args.ports.now.items in
    let new = seen c.args.firsts.now c.ask_marked.new.ports.items in
    let marks = subst (λ x. AreMarked pass c.args.edges.now (seen c.args.firsts.now x) (PortDependsOn pass c.args.edges.now c.args.edge) c.in-Ok.marks.items) c.deref-2.ensures.value c.in-Ok.ensures in
    demand_refused pass c.args.edges.now c.args.steps.now c.requires.in_turn c.args.edge old new c.in-Ok.marks.items marks g.P.Negotiated.unknown c.ask_marked.ensures.known c.ask_marked.ensures.stays
    refused number (subst (λ ms. StopsAt pass c.args.steps.now ms new refused number) c.deref-3.ensures.value (c.ask_marked.ensures.refused refused number e))
