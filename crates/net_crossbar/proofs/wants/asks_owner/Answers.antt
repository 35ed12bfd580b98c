use Rattle.net_queue.proofs.Filled.{both_tells}
use Rattle.net_crossbar.proofs.wants.asks_owner.Goals as goal

pub returns-clause-asks : goal.returns-clause-asks
returns-clause-asks c = record {
  bit = c.in_ok-wire.ensures.bit;
  tells = both_tells _ _ c.args.valid c.in_ok-owned.owned c.in_ok-wire.wire _ c.in_ok-wire.ensures.adds c.in_ok-owned.ensures.tells c.in_ok-wire.ensures.tells;
}
