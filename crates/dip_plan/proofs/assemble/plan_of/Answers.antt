use Rattle.std.proofs.Common.{◌<◌, ℕ, List, length, ap, sym, ◌∙◌, subst}
use Rattle.std.specs.Prelude.{All}
use Rattle.dip_rule.specs.Boxed.{stated_by}
use Rattle.dip_plan.specs.Building.{sources_by, sinks_by}
use Rattle.dip_plan.specs.DesignPlans.{plan_edges}
use Rattle.dip_plan.proofs.Lists.{to_length, from_length, to_short, from_short, whole}
use Rattle.dip_plan.proofs.assemble.plan_of.Goals as goal

pub leaves_by-requires-clause-ins : goal.leaves_by-requires-clause-ins
leaves_by-requires-clause-ins g c =
    ap length c.as_slice.ensures.value ∙ ap length c.in_ok-ins.ensures ∙ to_length c.args.edges.now 0 (length c.as_slice-nodes.result.now)

pub leaves_by-requires-clause-outs : goal.leaves_by-requires-clause-outs
leaves_by-requires-clause-outs g c =
    ap length c.as_slice-2.ensures.value ∙ ap length c.in_ok-outs.ensures ∙ from_length c.args.edges.now 0 (length c.as_slice-nodes.result.now)

pub sources_by-requires-clause-lists : goal.sources_by-requires-clause-lists
sources_by-requires-clause-lists g c =
    ap length c.as_slice-5.ensures.value ∙ ap length c.in_ok-outs.ensures ∙ from_length c.args.edges.now 0 (length c.as_slice-nodes.result.now)

pub sources_by-requires-clause-short : goal.sources_by-requires-clause-short
sources_by-requires-clause-short g c =
    subst (λ (xs : List (List ℕ)). All (λ (ns : List ℕ). length ns < 4294967296) xs) (sym (c.as_slice-5.ensures.value ∙ c.in_ok-outs.ensures))
    (from_short 4294967296 c.args.edges.now 0 (length c.as_slice-nodes.result.now) c.requires.edges)

pub sinks_by-requires-clause-lists : goal.sinks_by-requires-clause-lists
sinks_by-requires-clause-lists g c =
    ap length c.as_slice-6.ensures.value ∙ ap length c.in_ok-ins.ensures ∙ to_length c.args.edges.now 0 (length c.as_slice-nodes.result.now)

pub sinks_by-requires-clause-short : goal.sinks_by-requires-clause-short
sinks_by-requires-clause-short g c =
    subst (λ (xs : List (List ℕ)). All (λ (ns : List ℕ). length ns < 4294967296) xs) (sym (c.as_slice-6.ensures.value ∙ c.in_ok-ins.ensures))
    (to_short 4294967296 c.args.edges.now 0 (length c.as_slice-nodes.result.now) c.requires.edges)

pub returns : goal.returns
returns g c =
    whole (stated_by (goal.Rule-dyn g) c.args.rules.now)
    c.args.design.now c.args.edges.now c.args.solution.now c.as_slice-nodes.result.now c.as_slice.result.now c.as_slice-2.result.now c.in_ok-copy.field-0
    c.in_ok-leaves_by.field-0 c.in_ok-plan_edges.field-0 c.in_ok-sources_by.field-0 c.in_ok-sinks_by.field-0
    c.as_slice-nodes.ensures (c.as_slice.ensures.value ∙ c.in_ok-ins.ensures) (c.as_slice-2.ensures.value ∙ c.in_ok-outs.ensures) c.in_ok-copy.ensures
    c.in_ok-leaves_by.ensures
    (c.in_ok-plan_edges.ensures ∙ ap (λ ds. plan_edges ds c.as_slice-4.result.now) c.as_slice-3.ensures ∙ ap (plan_edges c.args.solution.now.down) c.as_slice-4.ensures)
    (c.in_ok-sources_by.ensures ∙ ap (sources_by 0 c.as_slice-nodes.result.now) (c.as_slice-5.ensures.value ∙ sym c.as_slice-2.ensures.value))
    (c.in_ok-sinks_by.ensures ∙ ap (sinks_by 0 c.as_slice-nodes.result.now) (c.as_slice-6.ensures.value ∙ sym c.as_slice.ensures.value))
