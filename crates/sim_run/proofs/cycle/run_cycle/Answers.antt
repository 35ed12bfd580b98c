use Rattle.std.proofs.Common.{◌∙◌, ap, map, refl}
use Rattle.sim_ports.specs.Sinks.{sinking}
use Rattle.sim_run.specs.Offering.{server_offers}
use Rattle.sim_run.proofs.Cycled.{all_serving, are_offering, may_hear, may_serve, ports_of, read, stands_next, told_more}
use Rattle.sim_run.proofs.cycle.run_cycle.Goals as goal

pub tell_all-requires-clause-offering : goal.tell_all-requires-clause-offering
tell_all-requires-clause-offering g c =
    are_offering c.args.stalls.now c.args.cycle c.args.sources.now c.turn.new.self.sources.items c.turn.ensures.sources

pub tell_all-requires-clause-serving : goal.tell_all-requires-clause-serving
tell_all-requires-clause-serving g c =
    all_serving c.args.stalls.now c.args.cycle _ c.turn.new.self.sinks.items c.turn.ensures.sinks

pub returns-clause-stands : goal.returns-clause-stands
returns-clause-stands g c = λ setup netlist stands good.
    stands_next setup netlist c.args.cycle c.args.engine.now c.turn.new.engine c.args.stalls.now c.args.sources.now
    (map (λ s. sinking ((goal.Device-dyn g (s.device.vtable, s.device.value)).meaning s.device.value) s.port) c.args.sinks.now)
    c.turn.new.self.sources.items c.turn.new.self.sinks.items c.turn.new.self.outputs.items stands good c.turn.ensures.sources
    (c.turn.ensures.sinks ∙ ap (server_offers c.args.stalls.now c.args.cycle 0) (ports_of (λ s. sinking ((goal.Device-dyn g (s.device.vtable, s.device.value)).meaning s.device.value) s.port) (λ s. s.port) (λ s. refl) c.args.sinks.now))
    c.turn.ensures.cycle
    c.tell_all.new.sources (map (λ s. sinking ((goal.Device-dyn g (s.device.vtable, s.device.value)).meaning s.device.value) s.port) c.tell_all.new.sinks)
    (told_more (λ s. sinking ((goal.Device-dyn g (s.device.vtable, s.device.value)).meaning s.device.value) s.port) c.args.cycle c.turn.new.self.sources.items c.turn.new.self.sinks.items c.turn.new.self.outputs.items c.args.sources.now c.tell_all.new.sources c.args.sinks.now c.tell_all.new.sinks
    c.turn.ensures.as_many_sources c.turn.ensures.as_many_sinks c.tell_all.ensures.same_sources c.tell_all.ensures.same_sinks c.tell_all.ensures.heard (c.tell_all.ensures.served
    (may_serve setup netlist c.args.cycle c.args.engine.now c.turn.new.engine c.args.stalls.now c.args.sources.now
    (map (λ s. sinking ((goal.Device-dyn g (s.device.vtable, s.device.value)).meaning s.device.value) s.port) c.args.sinks.now)
    c.turn.new.self.sources.items c.turn.new.self.sinks.items c.turn.new.self.outputs.items stands good c.turn.ensures.sources
    (c.turn.ensures.sinks ∙ ap (server_offers c.args.stalls.now c.args.cycle 0) (ports_of (λ s. sinking ((goal.Device-dyn g (s.device.vtable, s.device.value)).meaning s.device.value) s.port) (λ s. s.port) (λ s. refl) c.args.sinks.now))
    c.turn.ensures.cycle)))

pub returns-clause-events : goal.returns-clause-events
returns-clause-events g c = λ setup netlist stands good.
    c.tell_all.ensures.events
    (may_hear setup netlist c.args.cycle c.args.engine.now c.turn.new.engine c.args.stalls.now c.args.sources.now
    (map (λ s. sinking ((goal.Device-dyn g (s.device.vtable, s.device.value)).meaning s.device.value) s.port) c.args.sinks.now)
    c.turn.new.self.sources.items c.turn.new.self.sinks.items c.turn.new.self.outputs.items stands good c.turn.ensures.sources
    (c.turn.ensures.sinks ∙ ap (server_offers c.args.stalls.now c.args.cycle 0) (ports_of (λ s. sinking ((goal.Device-dyn g (s.device.vtable, s.device.value)).meaning s.device.value) s.port) (λ s. s.port) (λ s. refl) c.args.sinks.now))
    c.turn.ensures.cycle)
    (may_serve setup netlist c.args.cycle c.args.engine.now c.turn.new.engine c.args.stalls.now c.args.sources.now
    (map (λ s. sinking ((goal.Device-dyn g (s.device.vtable, s.device.value)).meaning s.device.value) s.port) c.args.sinks.now)
    c.turn.new.self.sources.items c.turn.new.self.sinks.items c.turn.new.self.outputs.items stands good c.turn.ensures.sources
    (c.turn.ensures.sinks ∙ ap (server_offers c.args.stalls.now c.args.cycle 0) (ports_of (λ s. sinking ((goal.Device-dyn g (s.device.vtable, s.device.value)).meaning s.device.value) s.port) (λ s. s.port) (λ s. refl) c.args.sinks.now))
    c.turn.ensures.cycle)
    ∙ read setup netlist c.args.cycle c.args.engine.now c.turn.new.engine c.args.stalls.now c.args.sources.now
    (map (λ s. sinking ((goal.Device-dyn g (s.device.vtable, s.device.value)).meaning s.device.value) s.port) c.args.sinks.now)
    c.turn.new.self.sources.items c.turn.new.self.sinks.items c.turn.new.self.outputs.items stands good c.turn.ensures.sources
    (c.turn.ensures.sinks ∙ ap (server_offers c.args.stalls.now c.args.cycle 0) (ports_of (λ s. sinking ((goal.Device-dyn g (s.device.vtable, s.device.value)).meaning s.device.value) s.port) (λ s. s.port) (λ s. refl) c.args.sinks.now))
    c.turn.ensures.cycle
