use Rattle.std.proofs.Common.{◌≡◌, ◌∙◌, ap, arith, length, map, refl}
use Rattle.std.proofs.lemmas.List.{length-map}
use Rattle.tl_edge.proofs.Ways.{ends_law}
use Rattle.sim_ports.specs.Sinks.{sinking}
use Rattle.sim_drive.specs.Opening.{addresses_of}
use Rattle.sim_drive.specs.Preparing.{all_addresses}
use Rattle.sim_drive.specs.Setting.{setup_of}
use Rattle.sim_drive.proofs.Freshly.{fresh_from}
use Rattle.sim_drive.proofs.Going.{are_prepared, asked_in, as_many_prepared, begins, ready_first}
use Rattle.sim_drive.proofs.run.run_of.Goals as goal

pub sink_drivers-requires-clause-prepared : goal.sink_drivers-requires-clause-prepared
sink_drivers-requires-clause-prepared g c =
    ap length c.as_slice-3.ensures.value
    ∙ as_many_prepared c.args.plan.now c.args.stimulus.requests c.in_ok-prepared.prepared.items (c.in_ok-prepared.ensures ∙ ap (all_addresses c.args.plan.now) c.as_slice.ensures)

pub room_for_events-requires-clause-few_sources : goal.room_for_events-requires-clause-few_sources
room_for_events-requires-clause-few_sources g c = omega (arith, c.len.ensures, ends_law.sources c.args.plan.now c.requires.sound)

pub room_for_events-requires-clause-few_sinks : goal.room_for_events-requires-clause-few_sinks
room_for_events-requires-clause-few_sinks g c = omega (arith, c.len-2.ensures, ends_law.sinks c.args.plan.now c.requires.sound)

pub returns-clause-ready : goal.returns-clause-ready
returns-clause-ready g c =
    let plan = c.args.plan.now in
    let sinks = map (λ s. sinking ((goal.Device-dyn g (s.device.vtable, s.device.value)).meaning s.device.value) s.port) c.in_ok-sinks.sinks.items in
    let says = map (λ d. ((goal.Device-dyn g (d.vtable, d.value)).meaning d.value).says) c.args.devices.items in
    let setup = setup_of plan c.args.stimulus says in
    let listed : addresses_of c.in_ok-prepared.prepared.items ≡ all_addresses plan c.args.stimulus.requests = c.in_ok-prepared.ensures ∙ ap (all_addresses plan) c.as_slice.ensures in
    let fresh = fresh_from setup c.as_slice-2.result.now c.in_ok-prepared.prepared.items c.as_slice-3.result.now sinks c.as_slice-2.ensures c.as_slice-3.ensures.value listed c.in_ok-sinks.ensures in
    ready_first setup c.args.netlist _ sinks c.requires.sound (asked_in setup c.in_ok-source_drivers.field-0.items c.in_ok-source_drivers.ensures) fresh
    (length-map c.in_ok-sinks.sinks.items (λ s. sinking ((goal.Device-dyn g (s.device.vtable, s.device.value)).meaning s.device.value) s.port)) c.in_ok-buffers_for.ensures
    (omega (arith, c.in_ok-room_for_events.ensures.room, c.len.ensures, c.len-2.ensures)) c.requires.well c.in_ok-engine_of.ensures
    (are_prepared setup c.in_ok-prepared.prepared.items sinks refl listed fresh) (omega arith)

pub returns-clause-is : goal.returns-clause-is
returns-clause-is g c =
    let plan = c.args.plan.now in
    let sinks = map (λ s. sinking ((goal.Device-dyn g (s.device.vtable, s.device.value)).meaning s.device.value) s.port) c.in_ok-sinks.sinks.items in
    let says = map (λ d. ((goal.Device-dyn g (d.vtable, d.value)).meaning d.value).says) c.args.devices.items in
    let setup = setup_of plan c.args.stimulus says in
    let listed : addresses_of c.in_ok-prepared.prepared.items ≡ all_addresses plan c.args.stimulus.requests = c.in_ok-prepared.ensures ∙ ap (all_addresses plan) c.as_slice.ensures in
    let fresh = fresh_from setup c.as_slice-2.result.now c.in_ok-prepared.prepared.items c.as_slice-3.result.now sinks c.as_slice-2.ensures c.as_slice-3.ensures.value listed c.in_ok-sinks.ensures in
    record {
      few = c.requires.few;
      ran = refl;
      stands = begins setup c.args.netlist c.in_ok-engine_of.field-0 c.args.stimulus.stalls c.in_ok-source_drivers.field-0.items sinks c.requires.sound c.requires.well c.requires.implements c.in_ok-engine_of.ensures refl
          (asked_in setup c.in_ok-source_drivers.field-0.items c.in_ok-source_drivers.ensures) fresh;
      bytes = refl;
    }
