use Rattle.std.proofs.Common.{◌≡◌, ◌++◌, drop, map}
use Rattle.sim_run.specs.Offering.{server_offers}
use Rattle.sim_run.proofs.offering.fill_sinks.Given as goal

abbrev pub invariant-loop-port : goal.invariant-loop-port
invariant-loop-port g l = record {
  offers : l.offers.items ++ server_offers l.stalls l.cycle l.port (drop l.port (map (λ driver. driver.port) l.drivers)) ≡ server_offers l.stalls l.cycle 0 (map (λ driver. driver.port) l.drivers);
  long : l.offers.len ≡ l.port;
  room : l.offers.cap ≡ l.fn.offers.cap;
}
