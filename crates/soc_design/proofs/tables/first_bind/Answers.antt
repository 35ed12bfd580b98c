use Rattle.toml_shape.proofs.Counting.{count_behind}
use Rattle.soc_design.proofs.tables.first_bind.Goals as goal

pub returns-clause-value : goal.returns-clause-value
returns-clause-value c = count_behind _ _ c.tables_in.result.now _ c.first_node.ensures.value c.tables_in.ensures
