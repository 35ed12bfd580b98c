use Rattle.std.proofs.Common.{◌∙◌, ap, arith, get_or, length, map, refl, sym}
use Rattle.std.specs.Vec.Iter.{into_iter_items}
use Rattle.sim_ports.specs.declared.prepared.Prepared.{Prepared}
use Rattle.sim_ports.specs.declared.role.Role.TheVariants.{Ram}
use Rattle.sim_ports.specs.Sinks.{sinking}
use Rattle.sim_drive.proofs.Drivers.{there_is}
use Rattle.sim_drive.proofs.Freshly.{fresh_more, none_yet, one_gone, says_there}
use Rattle.sim_drive.proofs.sinks.sink_drivers.Goals as goal

pub loop-port-init : goal.loop-port-init
loop-port-init g c = record {
  first = none_yet (λ s. sinking ((goal.Device-dyn g (s.device.vtable, s.device.value)).meaning s.device.value) s.port) _ c.in_ok-drivers.drivers.items c.in_ok-drivers.ensures.items;
  rest = c.into_iter-unused.ensures.rest;
  left = omega (arith, c.args.devices.ok.0, c.into_iter-unused.ensures.len);
}

pub loop-port-preserved : goal.loop-port-preserved
loop-port-preserved g c =
    let port = c.loop-port.port in
    let i = c.loop-port.invariant in
    let parts = rw c.in-Some.is at c.next.ensures.cases in
    let says = says_there (λ d. ((goal.Device-dyn g (d.vtable, d.value)).meaning d.value).says) c.args.devices.items (into_iter_items c.next.new.self) port c.in-Some.device (sym parts.0 ∙ i.rest) in
    record {
      first = fresh_more (λ s. sinking ((goal.Device-dyn g (s.device.vtable, s.device.value)).meaning s.device.value) s.port) c.args.plan.now c.args.settings.now
          (map (λ d. ((goal.Device-dyn g (d.vtable, d.value)).meaning d.value).says) c.args.devices.items) c.args.prepared.now port
          c.loop-port.drivers.items c.push.new.self.items c.in_ok-prepared_sink.field-0 c.index-sinks-port.result ((goal.Device-dyn g (c.in-Some.device.vtable, c.in-Some.device.value)).meaning c.in-Some.device.value)
          c.width_at-width.result (get_or c.args.settings.now port (record { role = Ram; delay = 0 })) c.as_slice-addresses.result.now c.index-prepared-port.result i.first
          (there_is c.args.plan.now.sinks c.as_slice-sinks.result.now port c.index-sinks-port.result c.as_slice-sinks.ensures c.loop-port-test.true c.index-sinks-port.is)
          c.in_ok-prepared_sink.ensures.is c.in_ok-prepared_sink.ensures.has says.0 refl (c.as_slice-addresses.ensures ∙ ap (λ (p : Prepared). p.addresses) (sym c.index-prepared-port.is)) (omega (arith, c.requires.prepared, ap length c.as_slice-sinks.ensures, c.loop-port-test.true))
          c.index-prepared-port.is c.width_at-width.ensures.is c.in_ok-push.ensures.items;
      rest = says.1;
      left = one_gone _ _ _ _ parts.1 i.left;
    }
