use Rattle.net_build.specs.Built.{Built}
use Rattle.net_build.proofs.Shown.{output_sound, output_adds}
use Rattle.net_build.proofs.builder.Builder.output.Goals as goal

pub invariant_of-self-2 : goal.invariant_of-self-2
invariant_of-self-2 c =
    let b : Built = record { name = c.self.inside.name; made = c.self.inside.made.items; outputs = c.self.inside.outputs } in
    rw c.in_ok-push.ensures.ok (output_sound b c.args.name c.args.wire c.self.invariant (rw c.self.view_is c.requires.name) (rw c.self.view_is c.requires.wire))

pub returns : goal.returns
returns c =
    let b : Built = record { name = c.self.inside.name; made = c.self.inside.made.items; outputs = c.self.inside.outputs } in
    record { adds = rw (← c.self.view_is, c.in_ok-push.ensures.ok) (output_adds b (record { name = c.args.name; net = c.args.wire.number })) }
