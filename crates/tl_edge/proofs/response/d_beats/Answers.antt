use Rattle.tl_edge.specs.Beats.{d_beat}
use Rattle.tl_edge.proofs.Active.{beats_step}
use Rattle.tl_edge.proofs.response.d_beats.Goals as goal

pub loop-number-preserved : goal.loop-number-preserved
loop-number-preserved c =
    beats_step (d_beat c.args.width c.args.request.now.address c.args.response.now) c.loop-number.list c.push.new.self c.d_beat.result c.loop-number.number _ _ c.loop-number-test.true c.d_beat.ensures c.in_ok-push.ensures.ok
    c.loop-number.invariant
