use Rattle.flow_choice.specs.Choosing.{source_moves}
use Rattle.flow_choice.proofs.Adding.{one_added}
use Rattle.flow_choice.proofs.cycle.add_sources.Goals as goal

pub loop-port-preserved : goal.loop-port-preserved
loop-port-preserved c =
    one_added (source_moves c.args.network.now c.args.offers.now) c.loop-port.list _ c.add_source.new.list c.loop-port.port _ c.loop-port-test.true c.loop-port.invariant (c.in_ok-add_source.ensures)
