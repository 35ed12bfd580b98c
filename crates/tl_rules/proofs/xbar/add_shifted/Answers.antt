use Rattle.std.proofs.Common.{arith}
use Rattle.tl_rules.proofs.Crossing.{ids_bound}
use Rattle.tl_rules.proofs.xbar.add_shifted.Goals as goal

pub shifted_master-requires-clause-start : goal.shifted_master-requires-clause-start
shifted_master-requires-clause-start c =
    let bound = ids_bound c.args.port.now c.as_slice-master-items.result.now c.master-item.result c.loop-master.master-index c.requires.usable c.as_slice-master-items.ensures c.loop-master-test.true c.master-item.is in
    omega (arith, bound.0, c.requires.by)

pub shifted_master-requires-clause-end : goal.shifted_master-requires-clause-end
shifted_master-requires-clause-end c =
    let bound = ids_bound c.args.port.now c.as_slice-master-items.result.now c.master-item.result c.loop-master.master-index c.requires.usable c.as_slice-master-items.ensures c.loop-master-test.true c.master-item.is in
    omega (arith, bound.1, c.requires.by)
