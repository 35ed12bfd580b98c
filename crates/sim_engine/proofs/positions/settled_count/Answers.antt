use Rattle.std.proofs.Common.{arith, below_more}
use Rattle.sim_engine.proofs.positions.settled_count.Goals as goal

pub loop-at-preserved : goal.loop-at-preserved
loop-at-preserved c = below_more _ _ c.loop-at.invariant (c.reads_cells.ensures c.if-not-reads_cells.false)

pub returns-clause-settled : goal.returns-clause-settled
returns-clause-settled c = λ row b. c.loop-at.invariant row (omega arith)
