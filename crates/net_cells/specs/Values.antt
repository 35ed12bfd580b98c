-- The values of a netlist's nets: in one cycle, and over a run.
use Rattle.std.specs.Prelude.{◌≡◌, ℕ, ◌+◌, ◌-◌, ◌*◌, ◌/◌, ◌%◌, ◌^◌, ◌<◌, nat_lt, ◌==◌, if◌then◌else◌, List, [], ◌∷◌, ◌++◌, length, map, Some, slice_get, slice_index, bit_and, bit_or, bit_xor}
use Rattle.net_cells.specs.declared.netlist.Reg.{Reg}
use Rattle.net_cells.specs.declared.netlist.Cell.{Cell}
use Rattle.net_cells.specs.declared.netlist.CellOp.{CellOp}
use Rattle.net_cells.specs.declared.netlist.CellOp.TheVariants.{Const, Not, And, Or, Xor, Add, Sub, Eq, Less, Mux, Concat, Select}
use Rattle.net_cells.specs.declared.netlist.Netlist.{Netlist}
use Rattle.net_cells.specs.Rules.{widths, width_at, sources}

-- The value of an operator of so many bits, among nets of these widths that have the values v.
abbrev pub op_value : List ℕ → ℕ → CellOp → (ℕ → ℕ) → ℕ
op_value ws width (Const value) v = value
op_value ws width (Not x) v = 2 ^ width - 1 - v x
op_value ws width (And x y) v = bit_and (v x) (v y)
op_value ws width (Or x y) v = bit_or (v x) (v y)
op_value ws width (Xor x y) v = bit_xor (v x) (v y)
op_value ws width (Add x y) v = (v x + v y) % 2 ^ width
op_value ws width (Sub x y) v = (v x + 2 ^ width - v y) % 2 ^ width
op_value ws width (Eq x y) v = if v x == v y then 1 else 0
op_value ws width (Less x y) v = if nat_lt (v x) (v y) then 1 else 0
op_value ws width (Mux c x y) v = if v c == 1 then v x else v y
op_value ws width (Concat x y) v = v x * 2 ^ width_at ws y + v y
op_value ws width (Select x hi lo) v = v x / 2 ^ lo % 2 ^ width

-- v gives each net a value of its width.
abbrev pub FitsAll : List ℕ → (ℕ → ℕ) → Type 0
FitsAll ws v = (net : ℕ) → net < length ws → v net < 2 ^ width_at ws net

-- These are the values of all nets in one cycle, where the inputs and then the registers have the given ones: each
-- has its width, and each cell's equation holds.
pub record AreValues (n : Netlist) (given : List ℕ) (v : ℕ → ℕ) : Type 0 where
  pub fits : FitsAll (widths n) v
  pub given_ones : (net : ℕ) → net < length given → v net ≡ slice_index given net
  pub cells : (k : ℕ) (c : Cell) → slice_get n.cells k ≡ Some c → v (sources n + k) ≡ op_value (widths n) c.width c.op v

-- What the registers hold after a cycle with these values.
abbrev pub next_registers : Netlist → (ℕ → ℕ) → List ℕ
next_registers n v = map (λ (r : Reg). v r.next) n.regs

-- What they hold at the start.
abbrev pub first_registers : Netlist → List ℕ
first_registers n = map (λ (r : Reg). 0) n.regs

-- one value for each input, of its width
pub record AreInputs (n : Netlist) (inputs : List ℕ) : Type 0 where
  pub long : length inputs ≡ length n.inputs
  pub fit : (k : ℕ) → k < length inputs → slice_index inputs k < 2 ^ width_at (widths n) k

-- The values of each cycle of a run, from what the registers hold at its start and the inputs of each cycle, of which
-- there are as many as the netlist has.
abbrev pub IsRunFrom : Netlist → List ℕ → List (List ℕ) → List (ℕ → ℕ) → Type 0
IsRunFrom n registers [] [] = Unit {0}
IsRunFrom n registers [] (v ∷ vs) = ⊥
IsRunFrom n registers (i ∷ is) [] = ⊥
IsRunFrom n registers (i ∷ is) (v ∷ vs) =
    (length i ≡ length n.inputs) × AreValues n (i ++ registers) v × IsRunFrom n (next_registers n v) is vs

-- The values of each cycle of a run that starts with all registers at 0.
abbrev pub IsRun : Netlist → List (List ℕ) → List (ℕ → ℕ) → Type 0
IsRun n inputs values = IsRunFrom n (first_registers n) inputs values
