use Rattle.net_paths.proofs.Prefixed.{moves_alone}
use Rattle.net_paths.proofs.ids.move_id.Goals as goal

pub returns-then-block-eq0-2-clause-moves : goal.returns-then-block-eq0-2-clause-moves
returns-then-block-eq0-2-clause-moves c = λ range h. moves_alone _ c.args.id c.in_ok-alone.alone c.args.block _ c.if-block-eq0-2.true c.from.ensures c.in_ok-alone.ensures.value range h
