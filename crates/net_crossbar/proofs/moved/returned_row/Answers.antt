use Rattle.std.proofs.Common.{arith}
use Rattle.net_crossbar.proofs.Moves.{set_returns, set_wires}
use Rattle.net_crossbar.proofs.moved.returned_row.Goals as goal

pub returns-clause-row : goal.returns-clause-row
returns-clause-row c = set_wires _ _ 5 2 c.args.row.now c.in_ok-out.out c.in_ok-id.id c.in_ok-out.ensures c.in_ok-id.ensures.adds c.requires.row c.in_ok-id.ensures.wire (omega arith)

pub returns-clause-moves : goal.returns-clause-moves
returns-clause-moves c = set_returns _ 2 c.args.block c.args.row.now _ c.in_ok-out.out c.in_ok-id.id c.as_slice.ensures c.in_ok-out.ensures c.in_ok-id.ensures.moves
