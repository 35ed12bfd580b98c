use Rattle.std.proofs.Common.{◌≡◌, ◌≤◌, ◌+◌, ◌*◌, ◌++◌, length, drop, map}
use Rattle.sim_ports.specs.Prepared.{ArePrepared}
use Rattle.sim_ports.specs.Sinks.{sinking}
use Rattle.sim_events.specs.Reading.{sink_events_from}
use Rattle.sim_run.specs.Telling.{AllMayServe, AllServed}
use Rattle.sim_run.proofs.Heard.{AreUntold}
use Rattle.sim_run.proofs.telling.tell_sinks.Given as goal

abbrev pub invariant-loop-port : goal.invariant-loop-port
invariant-loop-port g l = record {
  served : AllMayServe l.cycle l.offers l.outputs
      (map (λ s. sinking ((goal.Device-dyn g (s.device.vtable, s.device.value)).meaning s.device.value) s.port) l.fn.drivers)
      → AllServed l.cycle l.offers l.outputs l.port
      (map (λ s. sinking ((goal.Device-dyn g (s.device.vtable, s.device.value)).meaning s.device.value) s.port) l.fn.drivers)
      (map (λ s. sinking ((goal.Device-dyn g (s.device.vtable, s.device.value)).meaning s.device.value) s.port) l.drivers);
  prepared : ArePrepared l.prepared
      (map (λ s. sinking ((goal.Device-dyn g (s.device.vtable, s.device.value)).meaning s.device.value) s.port) l.drivers);
  untold : AreUntold l.port l.fn.drivers l.drivers;
  same : length l.drivers ≡ length l.fn.drivers;
  events : AllMayServe l.cycle l.offers l.outputs
      (map (λ s. sinking ((goal.Device-dyn g (s.device.vtable, s.device.value)).meaning s.device.value) s.port) l.fn.drivers)
      → l.shown.items ++ sink_events_from l.cycle l.port (drop l.port l.offers) (drop (9 * l.port) l.outputs)
      ≡ l.fn.shown.items ++ sink_events_from l.cycle 0 l.offers l.outputs;
  long : l.shown.len ≤ l.fn.shown.len + 2 * l.port;
  room : l.shown.cap ≡ l.fn.shown.cap;
}
