use Rattle.toml_shape.proofs.Counting.{count_behind}
use Rattle.soc_stimulus.proofs.tables.first_device.Goals as goal

pub returns-clause-value : goal.returns-clause-value
returns-clause-value c = count_behind _ _ c.tables_in.result.now _ c.first_stall.ensures.value c.tables_in.ensures
