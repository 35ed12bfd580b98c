-- What the engine computes: a cell as a step of the machine, and the values of all nets after some steps.
-- Only functions that aren't public cite it.
use Rattle.std.specs.Prelude.{◌≢◌, ℕ, zero, suc, ◌+◌, ◌-◌, ◌*◌, ◌/◌, ◌%◌, ◌^◌, ◌<◌, nat_lt, ◌==◌, if◌then◌else◌, List, [], ◌∷◌, slice_index, slice_set, bit_and, bit_or, bit_xor}
use Rattle.net_cells.specs.declared.netlist.CellOp.{CellOp}
use Rattle.net_cells.specs.declared.netlist.CellOp.TheVariants as op
use Rattle.net_cells.specs.Rules.{width_at}
use Rattle.sim_engine.specs.declared.steps.Kind.{Kind}
use Rattle.sim_engine.specs.declared.steps.Kind.TheVariants.{Const, Not, And, Or, Xor, Add, Sub, Eq, Less, Mux, Concat, Select}
use Rattle.sim_engine.specs.declared.steps.Step.{Step}

-- Three nets, the operands of an operator; net 0 stands where it has fewer.
abbrev pub three : CellOp → List ℕ
three (op.Const value) = 0 ∷ 0 ∷ 0 ∷ []
three (op.Not x) = x ∷ 0 ∷ 0 ∷ []
three (op.And x y) = x ∷ y ∷ 0 ∷ []
three (op.Or x y) = x ∷ y ∷ 0 ∷ []
three (op.Xor x y) = x ∷ y ∷ 0 ∷ []
three (op.Add x y) = x ∷ y ∷ 0 ∷ []
three (op.Sub x y) = x ∷ y ∷ 0 ∷ []
three (op.Eq x y) = x ∷ y ∷ 0 ∷ []
three (op.Less x y) = x ∷ y ∷ 0 ∷ []
three (op.Mux c x y) = c ∷ x ∷ y ∷ []
three (op.Concat x y) = x ∷ y ∷ 0 ∷ []
three (op.Select x hi lo) = x ∷ 0 ∷ 0 ∷ []

-- the operator alone
abbrev pub operator_kind : CellOp → Kind
operator_kind (op.Const value) = Const
operator_kind (op.Not x) = Not
operator_kind (op.And x y) = And
operator_kind (op.Or x y) = Or
operator_kind (op.Xor x y) = Xor
operator_kind (op.Add x y) = Add
operator_kind (op.Sub x y) = Sub
operator_kind (op.Eq x y) = Eq
operator_kind (op.Less x y) = Less
operator_kind (op.Mux c x y) = Mux
operator_kind (op.Concat x y) = Concat
operator_kind (op.Select x hi lo) = Select

-- by how many bits an operand is moved
abbrev pub shift_of : List ℕ → CellOp → ℕ
shift_of ws (op.Concat x y) = width_at ws y
shift_of ws (op.Select x hi lo) = lo
shift_of ws _ = 0

-- the low 32 bits of a constant's value, and for another operator what is given
abbrev pub low_part : CellOp → ℕ → ℕ
low_part (op.Const value) place = value % 2 ^ 32
low_part _ place = place

-- the high 32 bits of a constant's value, and for another operator what is given
abbrev pub high_part : CellOp → ℕ → ℕ
high_part (op.Const value) place = value / 2 ^ 32
high_part _ place = place

-- the step of an operator of so many bits, whose operands stand at these places
abbrev pub step_for : List ℕ → ℕ → CellOp → ℕ → ℕ → ℕ → Step
step_for ws width o x y z = record {
  x = low_part o x;
  y = high_part o y;
  z = z;
  shift = shift_of ws o % 64;
  short = 64 - width;
  kind = operator_kind o;
}

-- the greatest number of 64 bits, less so many
abbrev pub mask : ℕ → ℕ
mask short = (2 ^ 64 - 1) / 2 ^ (short % 64)

-- The value of a step of this kind, in 64 bits, where its operands have these. A constant has its own.
abbrev pub kind_value : Kind → Step → ℕ → ℕ → ℕ → ℕ
kind_value Const s x y z = s.y * 2 ^ 32 + s.x
kind_value Not s x y z = mask s.short - x
kind_value And s x y z = bit_and x y
kind_value Or s x y z = bit_or x y
kind_value Xor s x y z = bit_xor x y
kind_value Add s x y z = bit_and ((x + y) % 2 ^ 64) (mask s.short)
kind_value Sub s x y z = bit_and ((x + (2 ^ 64 - y)) % 2 ^ 64) (mask s.short)
kind_value Eq s x y z = if x == y then 1 else 0
kind_value Less s x y z = if nat_lt x y then 1 else 0
kind_value Mux s x y z = if x == 1 then y else z
kind_value Concat s x y z = bit_or (x * 2 ^ (s.shift % 64) % 2 ^ 64) y
kind_value Select s x y z = bit_and (x / 2 ^ (s.shift % 64)) (mask s.short)

-- the value of a step, from all values
abbrev pub step_value : Step → List ℕ → ℕ
step_value s values = kind_value s.kind s (slice_index values s.x) (slice_index values s.y) (slice_index values s.z)

-- what a step reads is among so many values
pub record IsAmong (many : ℕ) (s : Step) : Type 0 where
  pub x : s.kind ≢ Const → s.x < many
  pub y : s.kind ≢ Const → s.y < many
  pub z : s.kind ≢ Const → s.z < many

-- The values after so many of some steps, the first of which has this number. A step's value is put at its number,
-- counted from a place on.
abbrev pub evaluated : (ℕ → Step) → ℕ → ℕ → ℕ → List ℕ → List ℕ
evaluated step at from zero values = values
evaluated step at from (suc count) values =
    evaluated step at (from + 1) count (slice_set values (at + from) (step_value (step from) values))
