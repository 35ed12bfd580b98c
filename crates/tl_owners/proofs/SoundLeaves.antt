-- A leaf by itself in a sound plan.
use Rattle.tl_edge.specs.declared.plan.Leaf.{Leaf}
use Rattle.tl_edge.specs.declared.plan.Plan.{Plan}
use Rattle.tl_edge.specs.Plans.{ins_of, outs_of}
use Rattle.tl_edge.specs.SoundPlans.{HasShape, Carries, MovesIds}

-- a leaf has the edges that it needs, carries what they agree on, and moves their ids as stated
pub record IsSoundLeaf (plan : Plan) (leaf : Leaf) : Type 0 where
  pub shape : HasShape leaf.template leaf.ins leaf.outs
  pub carries : Carries leaf.template leaf.args (ins_of plan leaf) (outs_of plan leaf)
  pub ids : MovesIds leaf.template leaf.args (ins_of plan leaf) (outs_of plan leaf)
