use Rattle.std.proofs.Common.{arith}
use Rattle.net_crossbar.proofs.Moves.{set_first, set_moves, set_wires}
use Rattle.net_crossbar.proofs.moved.moved_row.Goals as goal

pub returns-clause-row : goal.returns-clause-row
returns-clause-row c = set_wires _ _ 7 3 c.args.row.now c.in_ok-out.out c.in_ok-id.id c.in_ok-out.ensures c.in_ok-id.ensures.adds c.requires.row c.in_ok-id.ensures.wire (omega arith)

pub returns-clause-moves : goal.returns-clause-moves
returns-clause-moves c = set_moves _ 3 c.args.block c.args.row.now _ c.in_ok-out.out c.in_ok-id.id c.as_slice.ensures c.in_ok-out.ensures c.in_ok-id.ensures.moves

pub returns-clause-first : goal.returns-clause-first
returns-clause-first c = set_first 3 c.args.row.now c.in_ok-out.out c.in_ok-id.id c.in_ok-out.ensures (omega arith)
