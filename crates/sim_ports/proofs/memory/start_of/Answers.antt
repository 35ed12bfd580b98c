use Rattle.std.proofs.Common.{rules}
use Rattle.sim_ports.proofs.Replaced.{row_within}
use Rattle.sim_ports.proofs.memory.start_of.Goals as goal

pub returns-clause-within : goal.returns-clause-within
returns-clause-within c =
    row_within c.requires.runs.high c.args.end c.unwrap_or.result c.args.address c.args.count c.args.runs.now
    c.requires.runs.spaced (search rules) c.requires.has c.requires.some
