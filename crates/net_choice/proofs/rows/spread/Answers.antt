use Rattle.net_choice.proofs.Switched.{same_all, same_more}
use Rattle.net_choice.proofs.rows.spread.Goals as goal

pub loop-place-preserved : goal.loop-place-preserved
loop-place-preserved c = record { rest = same_more c.loop-place.out _ c.args.wire c.args.count c.loop-place._place c.loop-place-test.true c.loop-place.invariant.rest c.in_ok-push.ensures.ok }

pub returns : goal.returns
returns c = same_all c.loop-place.out c.args.wire c.args.count c.loop-place._place c.loop-place-test.false c.loop-place.invariant.rest
