use Rattle.net_build.proofs.Steps.{bit_later, later_later, wire_later}
use Rattle.net_turns.proofs.Laned.{alone_driven}
use Rattle.net_sides.proofs.Answered.{are_responses}
use Rattle.net_sides.proofs.Parts.{begins_zero, can_up_later, put_into_later, response_cycle_later}
use Rattle.net_sides.proofs.responses.turn_responses.Goals as goal

pub response_cycle-requires-clause-can : goal.response_cycle-requires-clause-can
response_cycle-requires-clause-can c = can_up_later _ _ c.args.buses c.args.widens c.args.below.now c.args.above.now _ c.in_ok-done.ensures.opens c.requires.can

pub response_cycle-requires-clause-kept : goal.response_cycle-requires-clause-kept
response_cycle-requires-clause-kept c =
    let l = c.in_ok-done.ensures.opens.later in
    (bit_later _ _ c.args.kept.known l c.requires.kept.0, wire_later _ _ c.args.kept.address l c.requires.kept.1)

pub returns-clause-adds : goal.returns-clause-adds
returns-clause-adds c = alone_driven _ _ _ _ c.in_ok-done.done c.in_ok-done.ensures.opens c.in_ok-cycle.ensures.adds c.in_ok-drive.ensures.drives

pub returns-clause-bit : goal.returns-clause-bit
returns-clause-bit c = bit_later _ _ c.in_ok-cycle.cycle.turn.flow.take c.in_ok-drive.ensures.drives.later c.in_ok-cycle.ensures.wires.take

pub returns-clause-into : goal.returns-clause-into
returns-clause-into c = put_into_later _ _ c.args.above.now c.in_ok-cycle.cycle.put c.in_ok-drive.ensures.drives.later c.in_ok-cycle.ensures.wires.put

pub returns-clause-responses : goal.returns-clause-responses
returns-clause-responses c =
    let l = c.in_ok-drive.ensures.drives.later in
    are_responses _ c.args.buses c.args.widens c.args.kept c.args.below.now c.args.above.now c.in_ok-done.done c.in_ok-cycle.cycle c.requires.can.two
    (response_cycle_later _ _ c.args.buses c.args.widens c.args.kept c.args.below.now c.args.above.now c.in_ok-done.done c.in_ok-cycle.cycle l c.in_ok-cycle.ensures.cycle)
    c.in_ok-drive.ensures.becomes (begins_zero _ _ c.in_ok-done.done (later_later _ _ _ c.in_ok-cycle.ensures.adds.later l) c.in_ok-done.ensures.undriven)
