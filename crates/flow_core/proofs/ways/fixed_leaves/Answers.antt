use Rattle.flow_core.proofs.Sizes.{few_above}
use Rattle.flow_core.proofs.ways.fixed_leaves.Goals as goal

pub fixed_of-requires-clause-ids : goal.fixed_of-requires-clause-ids
fixed_of-requires-clause-ids c = few_above c.args.plan.now c.requires c.leaf-item.result
