use Rattle.flow_choice.proofs.Worked.{turns_example, cycle_example, passed_example, straight_example, burst_example}
use Rattle.flow_choice.proofs.laws.choice_examples_law.Goals as goal

pub returns-clause-turns : goal.returns-clause-turns
returns-clause-turns c = turns_example

pub returns-clause-cycle : goal.returns-clause-cycle
returns-clause-cycle c = cycle_example

pub returns-clause-passed : goal.returns-clause-passed
returns-clause-passed c = passed_example

pub returns-clause-straight : goal.returns-clause-straight
returns-clause-straight c = straight_example

pub returns-clause-bursts : goal.returns-clause-bursts
returns-clause-bursts c = burst_example
