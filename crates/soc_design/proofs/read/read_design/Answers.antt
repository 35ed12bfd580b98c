use Rattle.toml.specs.View.{table_view}
use Rattle.soc_design.proofs.WellStated.{if_stated}
use Rattle.soc_design.proofs.read.read_design.Goals as goal

pub returns-in-Some-clause-stated : goal.returns-in-Some-clause-stated
returns-in-Some-clause-stated c =
    if_stated (table_view c.in-Some.table) c.design_in.result c.design_in.ensures.ok c.design_in.ensures.passes c.design_in.ensures.modules c.design_in.ensures.some_node
    c.design_in.ensures.nodes c.design_in.ensures.binds
