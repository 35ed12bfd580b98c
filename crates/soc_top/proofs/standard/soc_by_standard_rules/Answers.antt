use denote.Param.Object.{read_made}
use Rattle.std.proofs.Common.{◌∙◌}
use Rattle.tl_params.specs.declared.ports.DownPort.{DownPort}
use Rattle.tl_params.specs.declared.ports.UpPort.{UpPort}
use Rattle.dip_rule.specs.Stated.{StatedAnswer}
use Rattle.tl_rules.proofs.StandardKinds.{same_sides, same_kinds}
use Rattle.soc_top.proofs.Arms.{answered_by, completed}
use Rattle.soc_top.proofs.standard.soc_by_standard_rules.OwnLists as own
use Rattle.soc_top.proofs.standard.soc_by_standard_rules.Goals as goal

pub returns-7-clause-answered : goal.returns-7-clause-answered
returns-7-clause-answered g c =
    let buffer = same_sides
    (read_made own.own-2 own.entry-2-1 own.at-2-1 own.same-2-1 (StatedAnswer DownPort) (λ j y. j.1.says_down y) _ _ _ c.boxed_standard_rules-into_dyn_box.ensures.1)
    (read_made own.own-2 own.entry-2-1 own.at-2-1 own.same-2-1 (StatedAnswer UpPort) (λ j y. j.1.says_up y) _ _ _ c.boxed_standard_rules-into_dyn_box.ensures.1) in
    let width = same_sides
    (read_made own.own-2 own.entry-2-2 own.at-2-2 own.same-2-2 (StatedAnswer DownPort) (λ j y. j.1.says_down y) _ _ _ c.boxed_standard_rules-into_dyn_box-2.ensures.1)
    (read_made own.own-2 own.entry-2-2 own.at-2-2 own.same-2-2 (StatedAnswer UpPort) (λ j y. j.1.says_up y) _ _ _ c.boxed_standard_rules-into_dyn_box-2.ensures.1) in
    let fragmenter = same_sides
    (read_made own.own-2 own.entry-2-3 own.at-2-3 own.same-2-3 (StatedAnswer DownPort) (λ j y. j.1.says_down y) _ _ _ c.boxed_standard_rules-into_dyn_box-3.ensures.1)
    (read_made own.own-2 own.entry-2-3 own.at-2-3 own.same-2-3 (StatedAnswer UpPort) (λ j y. j.1.says_up y) _ _ _ c.boxed_standard_rules-into_dyn_box-3.ensures.1) in
    let shrinker = same_sides
    (read_made own.own-2 own.entry-2-4 own.at-2-4 own.same-2-4 (StatedAnswer DownPort) (λ j y. j.1.says_down y) _ _ _ c.boxed_standard_rules-into_dyn_box-4.ensures.1)
    (read_made own.own-2 own.entry-2-4 own.at-2-4 own.same-2-4 (StatedAnswer UpPort) (λ j y. j.1.says_up y) _ _ _ c.boxed_standard_rules-into_dyn_box-4.ensures.1) in
    let xbar = same_sides
    (read_made own.own-2 own.entry-2-5 own.at-2-5 own.same-2-5 (StatedAnswer DownPort) (λ j y. j.1.says_down y) _ _ _ c.boxed_standard_rules-into_dyn_box-5.ensures.1)
    (read_made own.own-2 own.entry-2-5 own.at-2-5 own.same-2-5 (StatedAnswer UpPort) (λ j y. j.1.says_up y) _ _ _ c.boxed_standard_rules-into_dyn_box-5.ensures.1) in
    answered_by (c.in_Continue-boxed_standard_rules-rules.ensures ∙ same_kinds buffer width fragmenter shrinker xbar) c.soc.ensures.answered

pub returns-7-clause-completed : goal.returns-7-clause-completed
returns-7-clause-completed g c = completed _ _ _ _ _ _ (returns-7-clause-answered g c)
