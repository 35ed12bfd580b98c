use Rattle.net_width.proofs.TwoBuses.{two_narrowing, two_widening}
use Rattle.net_width.proofs.turning.buses_of.Goals as goal

pub returns-then-from-to-clause-two : goal.returns-then-from-to-clause-two
returns-then-from-to-clause-two c = two_widening c.args.from c.args.to c.log_of-one.result c.log_of-other.result c.if-from-to.true c.log_of-one.ensures.value c.log_of-other.ensures.value c.log_of-other.ensures.small

pub returns-else-from-to-clause-two : goal.returns-else-from-to-clause-two
returns-else-from-to-clause-two c = two_narrowing c.args.from c.args.to c.log_of-one.result c.log_of-other.result c.if-from-to.false c.requires.differ c.log_of-one.ensures.value c.log_of-other.ensures.value c.log_of-one.ensures.small
