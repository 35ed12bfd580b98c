use Rattle.net_build.proofs.Steps.{wire_adds}
use Rattle.net_paths.proofs.Prefixed.{block_all, block_none, block_some}
use Rattle.net_paths.proofs.ids.has_id.Goals as goal

pub returns-then-block-id-clause-tells : goal.returns-then-block-id-clause-tells
returns-then-block-id-clause-tells c = λ range h. block_all _ c.args.id c.in_ok-wire.wire c.args.block _ (wire_adds _ _ c.args.id c.in_ok-wire.ensures.adds c.requires.id) c.if-block-id.true c.from-prefix.ensures c.in_ok-wire.ensures.tells range h

pub returns-then-fits-clause-tells : goal.returns-then-fits-clause-tells
returns-then-fits-clause-tells c = λ range h. block_some _ c.args.id c.in_ok-wire-2.wire c.args.block _ c.from-prefix.ensures c.in_ok-wire-2.ensures.tells range h

pub returns-clause-tells : goal.returns-clause-tells
returns-clause-tells c = λ range h. block_none _ c.args.id c.in_ok-wire-3.wire c.args.block _ (wire_adds _ _ c.args.id c.in_ok-wire-3.ensures.adds c.requires.id) c.if-block-id.false c.from-prefix.ensures _ c.fits.ensures c.if-fits.false c.in_ok-wire-3.ensures.tells range h
