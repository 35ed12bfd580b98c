use Rattle.std.proofs.Common.{◌≡◌, ◌+◌, length, drop, map}
use Rattle.std.specs.Vec.Iter.{into_iter_items, into_iter_len}
use Rattle.sim_ports.specs.Sinks.{sinking}
use Rattle.sim_drive.specs.Opening.{addresses_of, answering}
use Rattle.sim_drive.proofs.Freshly.{AreFirst}
use Rattle.sim_drive.proofs.sinks.sink_drivers.Given as goal

abbrev pub invariant-loop-port : goal.invariant-loop-port
invariant-loop-port g l = record {
  first : AreFirst (answering l.plan l.settings
      (map (λ d. ((goal.Device-dyn g (d.vtable, d.value)).meaning d.value).says) l.fn.devices.items) (addresses_of l.prepared)) l.port
      (map (λ s. sinking ((goal.Device-dyn g (s.device.vtable, s.device.value)).meaning s.device.value) s.port) l.drivers.items);
  rest : into_iter_items l.unused ≡ drop l.port l.fn.devices.items;
  left : into_iter_len l.unused + l.port ≡ length l.fn.devices.items;
}
