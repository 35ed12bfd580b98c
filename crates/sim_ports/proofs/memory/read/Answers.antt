use Rattle.std.proofs.Common.{◌≡◌, ◌+◌, ◌-◌, length, ◌∙◌, sym, arith}
use Rattle.sim_ports.proofs.Replaced.{read_row}
use Rattle.sim_ports.proofs.memory.read.Goals as goal

pub returns : goal.returns
returns c =
    let row = read_row c.requires.runs.high c.start_of-start.result c.args.address _ c.args.runs.now c.args.bytes.now
    c.requires.runs.spaced c.start_of-start.ensures.place c.requires.has c.start_of-start.ensures.within in
    let count : c.start_of-start.result + length c.args.into.now - c.start_of-start.result ≡ length c.args.into.now = omega arith in
    let part = rw count at c.copy_from_slice.ensures.after in
    part ∙ sym row
