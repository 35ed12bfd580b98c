use Rattle.tl_edge.specs.Beats.{a_beat}
use Rattle.tl_edge.proofs.Active.{beats_step}
use Rattle.tl_edge.proofs.request.a_beats.Goals as goal

pub loop-number-preserved : goal.loop-number-preserved
loop-number-preserved c =
    beats_step (a_beat c.args.width c.args.request.now) c.loop-number.list c.push.new.self c.a_beat.result c.loop-number.number _ _ c.loop-number-test.true c.a_beat.ensures c.in_ok-push.ensures.ok c.loop-number.invariant
