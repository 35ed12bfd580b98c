use Rattle.std.proofs.Common.{◌<◌, List, length, arith, ap, sym, subst}
use Rattle.std.specs.Prelude.{All}
use Rattle.dip_graph.specs.declared.edges.Edge.{Edge}
use Rattle.dip_rule.specs.Boxed.{stated_by}
use Rattle.dip_plan.proofs.Whole.{ends_exist, few_edges}
use Rattle.dip_plan.proofs.accepted.check.Goals as goal

pub plan_of-requires-clause-edges : goal.plan_of-requires-clause-edges
plan_of-requires-clause-edges g c =
    let few = few_edges (stated_by (goal.Rule-dyn g) c.args.rules.now)
    c.args.design.now c.in_ok-agreed.agreed c.requires.bound c.in_ok-agreed.ensures.passes c.in_ok-agreed.ensures.value in
    let same = ap length c.as_slice-2.ensures in
    omega arith

pub plan_of-requires-clause-to : goal.plan_of-requires-clause-to
plan_of-requires-clause-to g c =
    subst (λ (es : List Edge). All (λ (edge : Edge). edge.to < length c.args.design.now.nodes) es) (sym c.as_slice-2.ensures)
    (ends_exist (stated_by (goal.Rule-dyn g) c.args.rules.now)
    c.args.design.now c.in_ok-agreed.agreed c.requires.bound c.in_ok-agreed.ensures.passes c.in_ok-agreed.ensures.value).0

pub plan_of-requires-clause-from : goal.plan_of-requires-clause-from
plan_of-requires-clause-from g c =
    subst (λ (es : List Edge). All (λ (edge : Edge). edge.from < length c.args.design.now.nodes) es) (sym c.as_slice-2.ensures)
    (ends_exist (stated_by (goal.Rule-dyn g) c.args.rules.now)
    c.args.design.now c.in_ok-agreed.agreed c.requires.bound c.in_ok-agreed.ensures.passes c.in_ok-agreed.ensures.value).1
