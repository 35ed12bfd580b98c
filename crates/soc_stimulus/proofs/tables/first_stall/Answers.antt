use Rattle.std.proofs.Common.{refl}
use Rattle.toml_shape.proofs.Counting.{count_behind}
use Rattle.soc_stimulus.proofs.tables.first_stall.Goals as goal

pub returns-clause-value : goal.returns-clause-value
returns-clause-value c = count_behind 1 1 c.tables_in.result.now _ refl c.tables_in.ensures
