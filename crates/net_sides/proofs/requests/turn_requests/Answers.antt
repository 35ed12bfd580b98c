use Rattle.net_build.proofs.Steps.{adds_adds, bit_later, later_later, wire_later}
use Rattle.net_turns.proofs.Laned.{alone_driven}
use Rattle.net_sides.proofs.Asked.{are_requests}
use Rattle.net_sides.proofs.Parts.{begins_zero, can_down_later, put_into_later, request_cycle_later}
use Rattle.net_sides.proofs.requests.turn_requests.Goals as goal

pub request_cycle-requires-clause-can : goal.request_cycle-requires-clause-can
request_cycle-requires-clause-can c = can_down_later _ _ c.args.buses c.args.widens c.args.above.now c.args.below.now _ c.in_ok-done.ensures.opens c.requires.can

pub returns-clause-adds : goal.returns-clause-adds
returns-clause-adds c = alone_driven _ _ _ _ c.in_ok-done.done c.in_ok-done.ensures.opens c.in_ok-cycle.ensures.adds c.in_ok-drive.ensures.drives

pub returns-clause-bits : goal.returns-clause-bits
returns-clause-bits c =
    let l = c.in_ok-drive.ensures.drives.later in
    (bit_later _ _ c.in_ok-cycle.cycle.turn.flow.take l c.in_ok-cycle.ensures.wires.take, bit_later _ _ c.in_ok-cycle.cycle.begins l c.in_ok-cycle.ensures.wires.begins)

pub returns-clause-into : goal.returns-clause-into
returns-clause-into c = put_into_later _ _ c.args.below.now c.in_ok-cycle.cycle.put c.in_ok-drive.ensures.drives.later c.in_ok-cycle.ensures.wires.put

pub returns-clause-requests : goal.returns-clause-requests
returns-clause-requests c =
    let l = c.in_ok-drive.ensures.drives.later in
    are_requests _ c.args.buses c.args.widens c.args.above.now c.args.below.now c.in_ok-done.done c.in_ok-cycle.cycle c.requires.can.two
    (request_cycle_later _ _ c.args.buses c.args.widens c.args.above.now c.args.below.now c.in_ok-done.done c.in_ok-cycle.cycle l c.in_ok-cycle.ensures.cycle)
    c.in_ok-drive.ensures.becomes (begins_zero _ _ c.in_ok-done.done (later_later _ _ _ c.in_ok-cycle.ensures.adds.later l) c.in_ok-done.ensures.undriven)
