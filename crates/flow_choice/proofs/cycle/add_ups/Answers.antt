use Rattle.flow_choice.specs.Choosing.{chosen_up}
use Rattle.flow_choice.proofs.Adding.{one_added, up_added}
use Rattle.flow_choice.proofs.cycle.add_ups.Goals as goal

pub loop-input-preserved : goal.loop-input-preserved
loop-input-preserved c =
    one_added (chosen_up c.args.network.now c.args.leaf) c.loop-input.list _ c.add_first.new.list c.loop-input.input _ c.loop-input-test.true c.loop-input.invariant
    (up_added c.args.network.now c.args.leaf c.loop-input.input _ _ c.loop-input.list c.add_first.new.list c.input_turn-next.ensures c.output_count-outputs.ensures (c.in_ok-add_first.ensures))
