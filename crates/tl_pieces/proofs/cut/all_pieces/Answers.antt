use Rattle.tl_edge.proofs.Active.{beats_step}
use Rattle.tl_pieces.specs.Cutting.{piece_at}
use Rattle.tl_pieces.proofs.cut.all_pieces.Goals as goal

pub loop-number-preserved : goal.loop-number-preserved
loop-number-preserved c = beats_step (piece_at c.args.most c.args.request.now) c.loop-number.pieces c.push.new.self c.in_ok-piece_at.field-0 c.loop-number.number _ _ c.loop-number-test.true c.in_ok-piece_at.ensures c.in_ok-push.ensures.ok c.loop-number.invariant
