use Rattle.net_build.proofs.Steps.{adds_adds}
use Rattle.net_crossbar.proofs.Joined.{edge_rows_adds, leaf_is, requests_later, wires_are}
use Rattle.net_crossbar.proofs.crossbar.build_crossbar.Goals as goal

pub responses_between-requires-clause-ins : goal.responses_between-requires-clause-ins
responses_between-requires-clause-ins c = edge_rows_adds _ _ _ 5 c.args.ins.now c.in_ok-requests.ensures.adds c.requires.ins.1

pub responses_between-requires-clause-outs : goal.responses_between-requires-clause-outs
responses_between-requires-clause-outs c = edge_rows_adds _ _ _ 5 c.args.outs.now c.in_ok-requests.ensures.adds c.requires.outs.1

pub returns-clause-adds : goal.returns-clause-adds
returns-clause-adds c = adds_adds _ _ _ c.in_ok-requests.ensures.adds c.in_ok-responses.ensures.adds

pub returns-clause-wires : goal.returns-clause-wires
returns-clause-wires c =
    let g1 = c.in_ok-responses.ensures.adds in
    let g = adds_adds _ _ _ c.in_ok-requests.ensures.adds g1 in
    wires_are _ c.args.round c.args.bytes c.args.plan.now c.args.numbers.now c.args.ranges.now c.in_ok-prefixes.prefixes _ c.args.ins.now c.args.outs.now _
    c.as_slice-blocks.ensures c.in_ok-prefixes.ensures.long c.in_ok-prefixes.ensures.blocks c.requires.long c.requires.numbers
    (edge_rows_adds _ _ _ 7 c.args.ins.now g c.requires.ins.0) (edge_rows_adds _ _ _ 5 c.args.outs.now g c.requires.outs.1)
    (requests_later _ _ c.args.round c.args.bytes c.args.plan.now c.args.numbers.now _ _ _ _ _ _ _ g1 c.in_ok-requests.ensures.requests) c.in_ok-responses.ensures.responses

pub returns-clause-leaf : goal.returns-clause-leaf
returns-clause-leaf c =
    let g1 = c.in_ok-responses.ensures.adds in
    let g = adds_adds _ _ _ c.in_ok-requests.ensures.adds g1 in
    leaf_is _ c.args.round c.args.bytes c.args.plan.now c.args.numbers.now c.args.ranges.now c.in_ok-prefixes.prefixes _ c.args.ins.now c.args.outs.now _
    c.as_slice-blocks.ensures c.in_ok-prefixes.ensures.long c.in_ok-prefixes.ensures.blocks c.requires.long c.requires.numbers
    (edge_rows_adds _ _ _ 7 c.args.ins.now g c.requires.ins.0) (edge_rows_adds _ _ _ 5 c.args.outs.now g c.requires.outs.1)
    (requests_later _ _ c.args.round c.args.bytes c.args.plan.now c.args.numbers.now _ _ _ _ _ _ _ g1 c.in_ok-requests.ensures.requests) c.in_ok-responses.ensures.responses
