use Rattle.std.proofs.Common.{◌∙◌, sym}
use Rattle.soc_design.proofs.Counting.{top_passes, some_there}
use Rattle.soc_design.proofs.limits.heading_within.Goals as goal

pub returns-clause-passes : goal.returns-clause-passes
returns-clause-passes c = top_passes _ c.in-Some.heading c.tables_in.result.now _ (sym c.in_ok-heading.ensures ∙ c.in-Some.is) c.tables_in.ensures c.if-is_empty.ensures

pub returns-clause-some : goal.returns-clause-some
returns-clause-some c = some_there c.tables_in.result.now _ c.tables_in.ensures c.if-is_empty.ensures
