use Rattle.std.proofs.Common.{length}
use Rattle.sim_ports.proofs.Replaced.{kept_after}
use Rattle.sim_ports.proofs.memory.write_flagged.Goals as goal

pub returns : goal.returns
returns c =
    kept_after c.requires.runs.high (length c.args.bytes.now) c.start_of-start.result c.args.address
    c.args.flags.now c.args.others.now c.args.bytes.now c.replace_flagged.new.bytes c.args.runs.now
    c.requires.runs.spaced c.start_of-start.ensures.place c.requires.has c.requires.some c.requires.flags
    c.replace_flagged.ensures
