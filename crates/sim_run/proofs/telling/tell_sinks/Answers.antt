use Rattle.std.proofs.Common.{◌≡◌, ◌++◌, ◌∙◌, ◌*◌, ◌<◌, ap, length, get_or, drop, arith, None, false}
use Rattle.std.proofs.lemmas.List.{length-set}
use Rattle.sim_ports.specs.Sinks.{sinking}
use Rattle.sim_events.specs.declared.types.SinkOffer.{SinkOffer}
use Rattle.sim_events.specs.declared.types.SinkView.{SinkView}
use Rattle.sim_events.specs.Passing.{sink_events}
use Rattle.sim_events.specs.Reading.{sink_view}
use Rattle.sim_run.proofs.Heard.{from_place, may_there, one_left, one_prepared, one_served, one_told, prepared_there, served_alike, with_view}
use Rattle.sim_run.proofs.telling.tell_sinks.Goals as goal

pub tell_sink-requires-clause-prepared : goal.tell_sink-requires-clause-prepared
tell_sink-requires-clause-prepared g c =
    prepared_there (λ s. sinking ((goal.Device-dyn g (s.device.vtable, s.device.value)).meaning s.device.value) s.port) c.args.prepared.now
    c.loop-port.port c.loop-port.drivers c.index-drivers-port.result c.index-prepared-port.result c.loop-port.invariant.prepared
    (omega (arith, c.loop-port.invariant.same, c.requires.long, c.loop-port-test.true)) c.index-prepared-port.is

pub loop-port-preserved : goal.loop-port-preserved
loop-port-preserved g c =
    let p = c.loop-port.port in
    let i = c.loop-port.invariant in
    let cycle = c.args.cycle in
    let offers = c.args.offers.now in
    let outputs = c.args.outputs.now in
    let none : SinkOffer = record { takes = false; beat = None } in
    let view : c.sink_view-view.result ≡ sink_view (drop (9 * p) outputs) = c.sink_view-view.ensures ∙ ap sink_view (from_place outputs (9 * p)) in
    let within : p < length c.loop-port.drivers = omega (arith, i.same, c.requires.long, c.loop-port-test.true) in
    record {
      served = λ m. one_served cycle offers outputs (λ s. sinking ((goal.Device-dyn g (s.device.vtable, s.device.value)).meaning s.device.value) s.port) p c.args.drivers.now c.loop-port.drivers c.tell_sink.new.driver c.index-drivers-port.result (i.served m) i.untold within
          (served_alike _ _ (λ v. sink_events cycle p (get_or offers p none) v) _ _ (c.tell_sink.ensures.served
          (with_view (sinking ((goal.Device-dyn g ((get_or c.loop-port.drivers p c.index-drivers-port.result).device.vtable, (get_or c.loop-port.drivers p c.index-drivers-port.result).device.value)).meaning (get_or c.loop-port.drivers p c.index-drivers-port.result).device.value) (get_or c.loop-port.drivers p c.index-drivers-port.result).port) (λ v. sink_events cycle p (get_or offers p none) v) _ _ view
          (may_there (λ s. sinking ((goal.Device-dyn g (s.device.vtable, s.device.value)).meaning s.device.value) s.port) cycle offers outputs p c.args.drivers.now c.loop-port.drivers c.index-drivers-port.result m i.untold within))) view);
      prepared = one_prepared (λ s. sinking ((goal.Device-dyn g (s.device.vtable, s.device.value)).meaning s.device.value) s.port) c.args.prepared.now
          p c.loop-port.drivers c.tell_sink.new.driver c.index-prepared-port.result i.prepared within c.index-prepared-port.is c.tell_sink.ensures.prepared;
      untold = one_told p c.args.drivers.now c.loop-port.drivers c.tell_sink.new.driver i.untold;
      same = length-set c.loop-port.drivers p c.tell_sink.new.driver ∙ i.same;
      events = λ m. one_left cycle offers outputs p none c.loop-port.shown.items c.tell_sink.new.shown.items _ c.loop-port-test.true (i.events m)
          (c.tell_sink.ensures.events
          (with_view (sinking ((goal.Device-dyn g ((get_or c.loop-port.drivers p c.index-drivers-port.result).device.vtable, (get_or c.loop-port.drivers p c.index-drivers-port.result).device.value)).meaning (get_or c.loop-port.drivers p c.index-drivers-port.result).device.value) (get_or c.loop-port.drivers p c.index-drivers-port.result).port) (λ v. sink_events cycle p (get_or offers p none) v) _ _ view
          (may_there (λ s. sinking ((goal.Device-dyn g (s.device.vtable, s.device.value)).meaning s.device.value) s.port) cycle offers outputs p c.args.drivers.now c.loop-port.drivers c.index-drivers-port.result m i.untold within))
          ∙ ap (λ (v : SinkView). c.loop-port.shown.items ++ sink_events cycle p (get_or offers p none) v) view);
      long = omega (arith, i.long, c.tell_sink.ensures.long);
      room = c.tell_sink.ensures.room ∙ i.room;
    }
