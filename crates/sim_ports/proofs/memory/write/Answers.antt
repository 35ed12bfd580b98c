use Rattle.std.proofs.Common.{true, length, replicate}
use Rattle.std.proofs.lemmas.List.{length-replicate}
use Rattle.sim_ports.specs.Layout.{IsReplaced}
use Rattle.sim_ports.proofs.Replaced.{kept_after, replaced_whole}
use Rattle.sim_ports.proofs.memory.write.Goals as goal

pub returns : goal.returns
returns c =
    let whole = replaced_whole c.start_of-start.result c.args.others.now c.args.bytes.now c.start_of-start.ensures.within in
    let now : IsReplaced c.start_of-start.result (length c.args.others.now) (replicate (length c.args.others.now) true)
    c.args.others.now c.args.bytes.now c.replace.new.bytes = rw c.replace.ensures whole in
    kept_after c.requires.runs.high (length c.args.bytes.now) c.start_of-start.result c.args.address
    (replicate (length c.args.others.now) true) c.args.others.now c.args.bytes.now c.replace.new.bytes c.args.runs.now
    c.requires.runs.spaced c.start_of-start.ensures.place c.requires.has c.requires.some (length-replicate _ _) now
