use Rattle.std.proofs.Common.{arith}
use Rattle.net_build.proofs.Steps.{adds_adds}
use Rattle.net_crossbar.proofs.Counted.{request_tells, row_wire, table_adds}
use Rattle.net_crossbar.proofs.rests.request_rest.Goals as goal

pub rest_of-requires-clause-table : goal.rest_of-requires-clause-table
rest_of-requires-clause-table c = table_adds _ _ c.args.bytes c.args.table.now (adds_adds _ _ _ c.in_ok-four.ensures.adds c.in_ok-carries.ensures.adds) c.requires.table

pub rest_of-requires-clause-size : goal.rest_of-requires-clause-size
rest_of-requires-clause-size c = row_wire _ _ c.args.row.now 2 _ (adds_adds _ _ _ c.in_ok-four.ensures.adds c.in_ok-carries.ensures.adds) c.requires.wires (omega (arith, c.requires.long))

pub returns-clause-value : goal.returns-clause-value
returns-clause-value c = request_tells _ _ _ c.args.bytes c.args.row.now c.in_ok-four.four c.in_ok-carries.carries c.in_ok-wire.wire c.in_ok-carries.ensures.adds c.in_ok-wire.ensures.adds c.requires.long c.in_ok-four.ensures.value c.in_ok-carries.ensures.value c.in_ok-wire.ensures.value
