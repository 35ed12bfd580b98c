use Rattle.rule_laws.proofs.Refusing.{each_refuses_down, each_refuses_up}
use Rattle.rule_laws.proofs.laws.rule_refusals_law.Goals as goal

pub returns : goal.returns
returns c = record { up = each_refuses_up; down = each_refuses_down }
