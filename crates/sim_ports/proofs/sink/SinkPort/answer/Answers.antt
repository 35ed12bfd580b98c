use Rattle.std.proofs.Common.{◌≤◌, arith}
use Rattle.sim_ports.proofs.Roomy.{room_there, rooms_kept, space_kept}
use Rattle.sim_ports.proofs.sink.SinkPort.answer.Goals as goal

pub serve-requires-clause-room : goal.serve-requires-clause-room
serve-requires-clause-room g c =
    let small : c.args.head.now.size ≤ 8 = omega (arith, c.requires.whole.fields.size, c.requires.whole.asked.shape.small) in
    room_there c.args.head.now.op c.args.head.now.size _ c.self.inside.rooms _ _ c.self.invariant.2 small c.place_of.ensures c.as_mut_slice.ensures.value

pub invariant_of-self : goal.invariant_of-self
invariant_of-self g c =
    let small : c.args.head.now.size ≤ 8 = omega (arith, c.requires.whole.fields.size, c.requires.whole.asked.shape.small) in (
      c.self.invariant.0,
      space_kept c.self.inside.taken c.self.inside.count c.self.inside.passed c.self.inside.due _ c.self.inside.replies _ _ c.self.invariant.1
          c.as_mut_slice-2.ensures.value c.write_beats-self-inside.ensures.length c.write_beats-self-inside.ensures.bound,
      rooms_kept c.args.head.now.op c.args.head.now.size _ c.self.inside.rooms _ _ _ c.self.invariant.2 small c.place_of.ensures c.as_mut_slice.ensures.value
          c.serve.ensures.large,
    )
