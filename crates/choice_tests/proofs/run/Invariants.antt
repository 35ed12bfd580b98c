use Rattle.flow_choice.specs.Numbered.{IsNumbered}
use Rattle.choice_tests.proofs.run.Given as goal

abbrev pub invariant-loop-line : goal.invariant-loop-line
invariant-loop-line l =
    (goal.iterator-loop-line).can_next l.line-iterator ×
    (goal.iterator-loop-line).is_finite l.line-iterator ×
    IsNumbered l.lowest.plan × IsNumbered l.round.plan
