use Rattle.net_queue.proofs.Filled.{both_tells}
use Rattle.net_crossbar.proofs.wants.asks_range.Goals as goal

pub returns-clause-asks : goal.returns-clause-asks
returns-clause-asks c = record {
  bit = c.in_ok-wire.ensures.bit;
  tells = λ range h. both_tells _ _ c.args.valid c.in_ok-ranged.ranged c.in_ok-wire.wire _ c.in_ok-wire.ensures.adds (c.in_ok-ranged.ensures.tells range h) c.in_ok-wire.ensures.tells;
}
