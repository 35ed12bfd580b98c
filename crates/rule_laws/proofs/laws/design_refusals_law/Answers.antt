use Rattle.rule_laws.proofs.Never.{never_refused_up}
use Rattle.rule_laws.proofs.Refused.{each_is_refused_down}
use Rattle.rule_laws.proofs.Small.{each_has_small_pieces}
use Rattle.rule_laws.proofs.laws.design_refusals_law.Goals as goal

pub returns : goal.returns
returns c = record { never = never_refused_up; down = each_is_refused_down; fit = each_has_small_pieces }
