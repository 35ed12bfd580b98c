use Rattle.net_build.proofs.Steps.{adds_adds, bit_adds}
use Rattle.net_crossbar.proofs.Moves.{row_adds}
use Rattle.net_crossbar.proofs.Putting.{returned_made}
use Rattle.net_crossbar.proofs.puts.put_returned.Goals as goal

pub fit_row-requires-clause-like : goal.fit_row-requires-clause-like
fit_row-requires-clause-like c = (row_adds _ _ 5 c.args.like.now c.in_ok-moved.ensures.adds c.requires.like).wires

pub returns-clause-adds : goal.returns-clause-adds
returns-clause-adds c = adds_adds _ _ _ c.in_ok-moved.ensures.adds c.in_ok-items.ensures.adds

pub returns-clause-puts : goal.returns-clause-puts
returns-clause-puts c = returned_made _ _ c.args.block c.args.like.now _ c.in_ok-moved.moved c.args.serving.now c.in_ok-items.items c.as_slice.ensures c.in_ok-items.ensures.adds
    (bit_adds _ _ c.args.serving.now.valid (adds_adds _ _ _ c.in_ok-moved.ensures.adds c.in_ok-items.ensures.adds) c.requires.serving.valid) c.in_ok-moved.ensures.moves c.in_ok-items.ensures.alike c.in_ok-items.ensures.keeps
