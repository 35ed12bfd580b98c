use Rattle.net_paths.proofs.Prefixed.{back_low, back_never, back_none, positive_of}
use Rattle.net_paths.proofs.ids.move_back.Goals as goal

pub returns-then-block-id-clause-moves : goal.returns-then-block-id-clause-moves
returns-then-block-id-clause-moves c = λ range h. back_never _ c.args.id c.args.block c.requires.id c.if-block-id.true range h

pub returns-then-block-eq0-2-clause-moves : goal.returns-then-block-eq0-2-clause-moves
returns-then-block-eq0-2-clause-moves c = λ range h. back_none _ c.args.id c.in_ok-none.none c.args.block c.if-block-eq0-2.true c.in_ok-none.ensures.value range h

pub returns-clause-moves : goal.returns-clause-moves
returns-clause-moves c = λ range h. back_low _ _ c.args.id c.in_ok-low.low c.args.block c.in_ok-low.ensures.adds (positive_of c.args.block.bits c.if-block-eq0-2.false) c.in_ok-low.ensures.value range h
