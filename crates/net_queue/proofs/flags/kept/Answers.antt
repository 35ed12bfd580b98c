use Rattle.net_build.proofs.Folded.{alone_tells}
use Rattle.net_queue.proofs.flags.kept.Goals as goal

pub returns-clause-tells : goal.returns-clause-tells
returns-clause-tells c = alone_tells _ _ c.args.valid c.args.pop c.in_ok-stays.stays c.in_ok-kept.kept c.in_ok-kept.ensures.adds c.in_ok-stays.ensures.tells c.in_ok-kept.ensures.tells
