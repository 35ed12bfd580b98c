use Rattle.net_build.proofs.Folded.{alone_tells}
use Rattle.net_build.proofs.folds.alone.Goals as goal

pub returns-clause-tells : goal.returns-clause-tells
returns-clause-tells c = alone_tells _ _ c.args.wire c.args.seen c.in_ok-free.free c.in_ok-mine.mine c.in_ok-mine.ensures.adds c.in_ok-free.ensures.tells c.in_ok-mine.ensures.tells
