use Rattle.std.proofs.Common.{◌≡◌, ◌++◌, drop}
use Rattle.sim_run.specs.Offering.{driver_offers}
use Rattle.sim_run.proofs.offering.fill_sources.Given as goal

abbrev pub invariant-loop-port : goal.invariant-loop-port
invariant-loop-port l = record {
  offers : l.offers.items ++ driver_offers l.stalls l.cycle l.port (drop l.port l.drivers) ≡ driver_offers l.stalls l.cycle 0 l.drivers;
  long : l.offers.len ≡ l.port;
  room : l.offers.cap ≡ l.fn.offers.cap;
}
