use Rattle.std.proofs.Common.{◌∙◌, ◌+◌, ◌%◌, ◌^◌, ap, length, List, refl, sym}
use Rattle.std.proofs.lemmas.List.{length-map}
use Rattle.tl_edge.specs.declared.beat.Event.{Event}
use Rattle.sim_ports.specs.Sinks.{sinking}
use Rattle.sim_run.proofs.Fitting.{whole_back}
use Rattle.sim_drive.specs.Totals.{data_returned}
use Rattle.sim_drive.proofs.Going.{data_on, prepared_now, ready_on, shows_on, stands_on}
use Rattle.sim_drive.proofs.run.Run.cycle.Goals as goal

pub run_cycle-requires-clause-prepared : goal.run_cycle-requires-clause-prepared
run_cycle-requires-clause-prepared g c =
    let f = λ (s : _). sinking ((goal.Device-dyn g (s.device.vtable, s.device.value)).meaning s.device.value) s.port in
    prepared_now f c.args.self.now.prepared.items _ c.args.self.now.sinks.items _ c.as_slice.ensures.value c.as_mut_slice-2.ensures.value c.requires.ready.prepared

pub returns-clause-ready : goal.returns-clause-ready
returns-clause-ready g c =
    let f = λ (s : _). sinking ((goal.Device-dyn g (s.device.vtable, s.device.value)).meaning s.device.value) s.port in
    let old = c.args.self.now in
    let sources = whole_back c.run_cycle.new.sources old.sources.items old.sources.len (c.run_cycle.ensures.same_sources ∙ ap length c.as_mut_slice.ensures.value) (sym c.as_mut_slice.ensures.len ∙ ap length c.as_mut_slice.ensures.value) in
    let sinks = whole_back c.run_cycle.new.sinks old.sinks.items old.sinks.len (c.run_cycle.ensures.same_sinks ∙ ap length c.as_mut_slice-2.ensures.value) (sym c.as_mut_slice-2.ensures.len ∙ ap length c.as_mut_slice-2.ensures.value) in
    ready_on old _ _ _ (length c.run_cycle.new.sources) (length c.run_cycle.new.sinks) c.requires.ready c.requires.left
    (ap length sources) (ap length sinks) (c.run_cycle.ensures.same_sources ∙ ap length c.as_mut_slice.ensures.value) (c.run_cycle.ensures.same_sinks ∙ ap length c.as_mut_slice-2.ensures.value)
    c.run_cycle.ensures.fits c.run_cycle.ensures.netlist c.run_cycle.ensures.room
    (prepared_now f _ old.prepared.items c.run_cycle.new.sinks _ (sym c.as_slice.ensures.value) sinks c.run_cycle.ensures.prepared) (length-map _ f ∙ ap length sinks) refl refl

pub returns-clause-is : goal.returns-clause-is
returns-clause-is g c = λ setup netlist cycle r good.
    let f = λ (s : _). sinking ((goal.Device-dyn g (s.device.vtable, s.device.value)).meaning s.device.value) s.port in
    let old = c.args.self.now in
    let shown = shows_on f setup netlist cycle old.ran old.engine c.run_cycle.new.engine old.stalls _ old.sources.items _ old.sinks.items _ r.ran c.as_slice-2.ensures c.as_mut_slice.ensures.value c.as_mut_slice-2.ensures.value r.stands good c.run_cycle.new.shown.items c.run_cycle.ensures.events in
    record {
      few = r.few;
      ran = ap (λ n. n + 1) r.ran;
      stands = stands_on f setup netlist cycle old.ran old.engine c.run_cycle.new.engine old.stalls _ old.sources.items _ old.sinks.items _ r.ran c.as_slice-2.ensures c.as_mut_slice.ensures.value c.as_mut_slice-2.ensures.value r.stands good
          c.run_cycle.new.sources _ c.run_cycle.new.sinks _
          (whole_back c.run_cycle.new.sources old.sources.items old.sources.len (c.run_cycle.ensures.same_sources ∙ ap length c.as_mut_slice.ensures.value) (sym c.as_mut_slice.ensures.len ∙ ap length c.as_mut_slice.ensures.value))
          (whole_back c.run_cycle.new.sinks old.sinks.items old.sinks.len (c.run_cycle.ensures.same_sinks ∙ ap length c.as_mut_slice-2.ensures.value) (sym c.as_mut_slice-2.ensures.len ∙ ap length c.as_mut_slice-2.ensures.value))
          c.run_cycle.ensures.stands;
      bytes = data_on setup cycle old.sum _ c.run_cycle.new.shown.items r.bytes shown
          (c.with_data-self.ensures ∙ ap (λ (es : List Event). (old.sum + data_returned es) % 2 ^ 64) c.as_slice-3.ensures.value);
    }

pub returns-clause-events : goal.returns-clause-events
returns-clause-events g c = λ setup netlist cycle r good.
    let f = λ (s : _). sinking ((goal.Device-dyn g (s.device.vtable, s.device.value)).meaning s.device.value) s.port in
    let old = c.args.self.now in
    shows_on f setup netlist cycle old.ran old.engine c.run_cycle.new.engine old.stalls _ old.sources.items _ old.sinks.items _ r.ran c.as_slice-2.ensures c.as_mut_slice.ensures.value c.as_mut_slice-2.ensures.value r.stands good c.run_cycle.new.shown.items c.run_cycle.ensures.events
