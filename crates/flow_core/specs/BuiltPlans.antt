-- Which plans are built: of the sound ones those whose leaves are all buffers and crossbars, and no others.
use Rattle.std.specs.Prelude.{◌≡◌, ◌⊎◌, All}
use Rattle.tl_params.specs.declared.ops.Template.TheVariants.{Buffer, Xbar}
use Rattle.tl_edge.specs.declared.plan.Leaf.{Leaf}
use Rattle.tl_edge.specs.declared.plan.Plan.{Plan}
use Rattle.tl_edge.specs.SoundPlans.{IsSound}
use Rattle.flow_core.specs.Built.{IsBuilt}

-- a leaf is a buffer or a crossbar
abbrev pub IsSimple : Leaf → Type 0
IsSimple leaf = (leaf.template ≡ Buffer) ⊎ (leaf.template ≡ Xbar)

-- a sound plan is built where each leaf is a buffer or a crossbar, whatever else it has; and in what is built each is
pub record BuiltLaw : Type 0 where
  pub enough : (plan : Plan) → IsSound plan → All IsSimple plan.leaves → IsBuilt plan
  pub needed : (plan : Plan) → IsBuilt plan → All IsSimple plan.leaves
