use Rattle.flow_choice.specs.Choosing.{sink_moves}
use Rattle.flow_choice.proofs.Adding.{one_added}
use Rattle.flow_choice.proofs.cycle.add_sinks.Goals as goal

pub loop-port-preserved : goal.loop-port-preserved
loop-port-preserved c =
    one_added (sink_moves c.args.network.now c.args.offers.now) c.loop-port.list _ c.add_sink.new.list c.loop-port.port _ c.loop-port-test.true c.loop-port.invariant (c.in_ok-add_sink.ensures)
