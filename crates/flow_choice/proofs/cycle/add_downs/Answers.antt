use Rattle.flow_choice.specs.Choosing.{chosen_down}
use Rattle.flow_choice.proofs.Adding.{one_added, down_added}
use Rattle.flow_choice.proofs.cycle.add_downs.Goals as goal

pub loop-output-preserved : goal.loop-output-preserved
loop-output-preserved c =
    one_added (chosen_down c.args.network.now c.args.leaf) c.loop-output.list _ c.add_first.new.list c.loop-output.output _ c.loop-output-test.true c.loop-output.invariant
    (down_added c.args.network.now c.args.leaf c.loop-output.output _ _ _ c.loop-output.list c.add_first.new.list c.next_id-id.ensures c.output_turn-next.ensures c.input_count-inputs.ensures (c.in_ok-add_first.ensures))
