use Rattle.std.proofs.Common.{List, map, refl, sym, subst}
use Rattle.sim_ports.specs.Sinks.{sinking}
use Rattle.sim_ports.specs.Sources.{Sending}
use Rattle.sim_events.specs.Setups.{events_until}
use Rattle.sim_run.specs.Standing.{AreTold}
use Rattle.sim_drive.proofs.Going.{come_to}
use Rattle.sim_drive.proofs.run.Run.finish.Goals as goal

pub returns-clause-totals : goal.returns-clause-totals
returns-clause-totals g c = λ setup netlist cycle r.
    let sinks = map (λ s. sinking ((goal.Device-dyn g (s.device.vtable, s.device.value)).meaning s.device.value) s.port) c.args.self.sinks.items in
    come_to setup netlist cycle c.args.self sinks _ r refl refl c.state.ensures
    (λ t. c.requests_begun.ensures setup (events_until setup cycle) sinks r.few (subst (λ (ds : List Sending). AreTold setup (events_until setup cycle) ds sinks) (sym c.as_slice.ensures.value) t))
    (λ t. c.requests_returned.ensures setup (events_until setup cycle) sinks r.few (subst (λ (ds : List Sending). AreTold setup (events_until setup cycle) ds sinks) (sym c.as_slice-2.ensures.value) t))
