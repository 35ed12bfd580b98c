use Rattle.std.proofs.Common.{ap}
use Rattle.sim_ports.specs.Sinks.{Serving, Sinking}
use Rattle.sim_ports.proofs.Roomy.{serves_reply}
use Rattle.sim_ports.proofs.sink.SinkDriver.replied.Goals as goal

pub returns-clause-said : goal.returns-clause-said
returns-clause-said g c = λ first history event h s.
    serves_reply first history event _ _ h s
    (ap (λ (port : Serving). let sink : Sinking = record { device = (goal.Device-dyn g (c.args.self.now.device.vtable, c.args.self.now.device.value)).meaning c.args.self.now.device.value; port = port } in sink) c.replied.ensures)
