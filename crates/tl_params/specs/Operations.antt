-- The sizes of operations, and the templates of nodes.
use Rattle.std.specs.Prelude.{ℕ, ◌≡◌, ◌≤◌, max, Bool, true, false}
use Rattle.dip_sets.specs.SizeRanges.{SizeRange}
use Rattle.tl_params.specs.declared.ops.Op.{Op}
use Rattle.tl_params.specs.declared.ops.Op.TheVariants.{PutFull, PutPartial, Arithmetic, Logical, Get, Intent}
use Rattle.tl_params.specs.declared.ops.Ops.{Ops}
use Rattle.tl_params.specs.declared.ops.Template.{Template}
use Rattle.tl_params.specs.declared.ops.Template.TheVariants.{Buffer, Width, Fragmenter, Shrinker, Xbar}

-- the sizes of one operation
abbrev pub sizes_of : Ops → Op → SizeRange
sizes_of ops Get = ops.get
sizes_of ops PutFull = ops.put_full
sizes_of ops PutPartial = ops.put_partial
sizes_of ops Arithmetic = ops.arithmetic
sizes_of ops Logical = ops.logical
sizes_of ops Intent = ops.intent

-- the greatest size of any operation, 0 where there is none
abbrev pub largest : Ops → ℕ
largest ops =
    max
    (max (max ops.get.max (max ops.put_full.max ops.put_partial.max)) (max ops.arithmetic.max ops.logical.max))
    ops.intent.max

-- a size is the largest of all operations: none has a larger one, and some operation has it; 0 where none has any
pub record IsLargest (ops : Ops) (bytes : ℕ) : Type 0 where
  pub bound : (op : Op) → (sizes_of ops op).max ≤ bytes
  pub attained : (op : Op) × ((sizes_of ops op).max ≡ bytes)

-- all inputs and outputs of a nexus belong together; those of another node in pairs
abbrev pub is_nexus : Template → Bool
is_nexus Buffer = false
is_nexus Width = false
is_nexus Fragmenter = false
is_nexus Shrinker = false
is_nexus Xbar = true
