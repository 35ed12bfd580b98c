use Rattle.std.proofs.Common.{◌+◌, ◌<◌, length, refl, arith}
use Rattle.sim_ports.proofs.Replaced.{replaced_more}
use Rattle.sim_ports.proofs.memory.replace_flagged.Goals as goal

pub loop-place-preserved : goal.loop-place-preserved
loop-place-preserved c =
    let h : c.args.start + c.loop-place.place < length c.loop-place.bytes = omega arith in
    let more = replaced_more c.args.start c.loop-place.place _ _ c.args.flags.now c.args.others.now c.args.bytes.now c.loop-place.bytes
    c.loop-place.invariant h refl refl in
    rw c.chosen.ensures more
