use Rattle.net_build.specs.Built.{Built}
use Rattle.net_build.proofs.Driven.{ready, put_sound, put_drives, put_next}
use Rattle.net_build.proofs.builder.Builder.put.Goals as goal

pub invariant_of-self : goal.invariant_of-self
invariant_of-self c =
    let b : Built = record { name = c.self.inside.name; made = c.self.inside.made.items; outputs = c.self.inside.outputs } in
    let x = c.index_mut.result.now in
    let r = ready b c.args.self.now c.args.register c.args.before x c.self.view_is c.requires.register.register c.requires.register.waits c.requires.wire.1 c.index_mut.ensures.value in
    put_sound b c.args.register c.args.before x c.self.invariant r (rw c.self.view_is c.requires.wire.0) (rw c.self.view_is c.requires.low)

pub returns-clause-drives : goal.returns-clause-drives
returns-clause-drives c =
    let b : Built = record { name = c.self.inside.name; made = c.self.inside.made.items; outputs = c.self.inside.outputs } in
    let x = c.index_mut.result.now in
    let r = ready b c.args.self.now c.args.register c.args.before x c.self.view_is c.requires.register.register c.requires.register.waits c.requires.wire.1 c.index_mut.ensures.value in
    rw (← c.self.view_is) (put_drives b c.args.register c.args.before x r)

pub returns-clause-next : goal.returns-clause-next
returns-clause-next c =
    let b : Built = record { name = c.self.inside.name; made = c.self.inside.made.items; outputs = c.self.inside.outputs } in
    let x = c.index_mut.result.now in
    let r = ready b c.args.self.now c.args.register c.args.before x c.self.view_is c.requires.register.register c.requires.register.waits c.requires.wire.1 c.index_mut.ensures.value in
    put_next b c.args.register c.args.before x r
