use Rattle.std.proofs.Common.{sym, arith}
use Rattle.toml_shape.proofs.Failing.{none_beyond, past_number}
use Rattle.toml_shape.proofs.entries.first_past.Goals as goal

pub returns-then-tables-most-clause-value : goal.returns-then-tables-most-clause-value
returns-then-tables-most-clause-value c = sym (past_number c.args.most c.args.entry c.args.tables.now (omega arith))

pub returns-else-tables-most-clause-value : goal.returns-else-tables-most-clause-value
returns-else-tables-most-clause-value c = sym (none_beyond c.args.most 0 c.args.entry c.args.tables.now (omega arith))
