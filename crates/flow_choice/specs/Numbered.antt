-- Plans whose ports, leaves, inputs and outputs have numbers of 32 bits, as moves name them.
use Rattle.std.specs.Prelude.{ℕ, ◌<◌, ◌^◌, length, All}
use Rattle.tl_edge.specs.declared.plan.Leaf.{Leaf}
use Rattle.tl_edge.specs.declared.plan.Plan.{Plan}
use Rattle.tl_edge.specs.SoundPlans.{IsSound}

-- so many have numbers of 32 bits
abbrev pub HaveNumbers : ℕ → Type 0
HaveNumbers count = count < 2 ^ 32

-- the ports and leaves of a plan have, and the inputs and outputs of each leaf
pub record IsNumbered (plan : Plan) : Type 0 where
  pub sources : HaveNumbers (length plan.sources)
  pub sinks : HaveNumbers (length plan.sinks)
  pub leaves : HaveNumbers (length plan.leaves)
  pub inputs : All (λ (leaf : Leaf). HaveNumbers (length leaf.ins)) plan.leaves
  pub outputs : All (λ (leaf : Leaf). HaveNumbers (length leaf.outs)) plan.leaves

-- so it is with every sound plan
abbrev pub NumberedLaw : Type 0
NumberedLaw = (plan : Plan) → IsSound plan → IsNumbered plan
