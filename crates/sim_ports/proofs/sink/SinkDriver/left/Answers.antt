use Rattle.sim_ports.proofs.Roomy.{serves_leave}
use Rattle.sim_ports.proofs.sink.SinkDriver.left.Goals as goal

pub returns-clause-said : goal.returns-clause-said
returns-clause-said g c = λ first history event cycle what s.
    serves_leave first history event _ _ c.args.cycle c.args.beat.now cycle what s c.leave.ensures.now
