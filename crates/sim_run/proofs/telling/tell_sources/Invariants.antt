use Rattle.std.proofs.Common.{◌≡◌, ◌≤◌, ◌+◌, ◌*◌, ◌++◌, length, drop}
use Rattle.sim_events.specs.Reading.{source_events_from}
use Rattle.sim_run.specs.Telling.{AllHear, AllHeard}
use Rattle.sim_run.proofs.Heard.{AreUntold}
use Rattle.sim_run.proofs.telling.tell_sources.Given as goal

abbrev pub invariant-loop-port : goal.invariant-loop-port
invariant-loop-port l = record {
  heard : AllHeard l.cycle l.offers l.outputs l.port l.fn.drivers l.drivers;
  untold : AreUntold l.port l.fn.drivers l.drivers;
  same : length l.drivers ≡ length l.fn.drivers;
  events : AllHear l.cycle l.offers l.outputs l.port l.fn.drivers
      → l.shown.items ++ source_events_from l.cycle l.port (drop l.port l.offers) (drop (7 * l.port) l.outputs)
      ≡ l.fn.shown.items ++ source_events_from l.cycle 0 l.offers l.outputs;
  long : l.shown.len ≤ l.fn.shown.len + 2 * l.port;
  room : l.shown.cap ≡ l.fn.shown.cap;
}
