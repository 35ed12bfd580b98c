use Rattle.net_slots.proofs.Ranges.{many_sizes}
use Rattle.net_slots.proofs.lengths.size_count.Goals as goal

pub returns-then-width-ge4-clause-within : goal.returns-then-width-ge4-clause-within
returns-then-width-ge4-clause-within c = many_sizes c.args.width c.if-width-ge4.true
