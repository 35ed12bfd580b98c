use Rattle.net_build.proofs.Steps.{adds_adds, bit_made, wire_adds}
use Rattle.net_shrink.proofs.Followed.{request_follows}
use Rattle.net_shrink.proofs.lengths.rest_of_request.Goals as goal

pub less-requires-clause-wires : goal.less-requires-clause-wires
less-requires-clause-wires c = (wire_adds _ _ c.args.op c.in_ok-limit.ensures.adds c.requires.op.wire, c.in_ok-limit.ensures.wire.0)

pub beats_after-requires-clause-wires : goal.beats_after-requires-clause-wires
beats_after-requires-clause-wires c =
    (bit_made _ c.in_ok-carries.carries c.in_ok-carries.ensures.wire.0 c.in_ok-carries.ensures.wire.1, wire_adds _ _ c.args.size (adds_adds _ _ _ c.in_ok-limit.ensures.adds c.in_ok-carries.ensures.adds) c.requires.size)

pub returns-clause-adds : goal.returns-clause-adds
returns-clause-adds c = adds_adds _ _ _ c.in_ok-limit.ensures.adds (adds_adds _ _ _ c.in_ok-carries.ensures.adds c.in_ok-rest.ensures.adds)

pub returns-clause-follows : goal.returns-clause-follows
returns-clause-follows c = request_follows _ _ _ c.args.bus c.args.op c.args.size c.in_ok-limit.limit c.in_ok-carries.carries c.in_ok-rest.rest c.in_ok-carries.ensures.adds c.in_ok-rest.ensures.adds c.in_ok-limit.ensures.value c.in_ok-carries.ensures.value c.in_ok-rest.ensures.follow
