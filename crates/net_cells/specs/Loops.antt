-- Which nets depend on which through cells, and that a netlist without a loop has exactly one assignment of values.
use Rattle.std.specs.Prelude.{◌≡◌, ℕ, ◌+◌, ◌^◌, ◌<◌, List, [], ◌∷◌, length, Some, slice_get, slice_index, All, Contains}
use Rattle.net_cells.specs.declared.netlist.Cell.{Cell}
use Rattle.net_cells.specs.declared.netlist.CellOp.{CellOp}
use Rattle.net_cells.specs.declared.netlist.CellOp.TheVariants.{Const, Not, And, Or, Xor, Add, Sub, Eq, Less, Mux, Concat, Select}
use Rattle.net_cells.specs.declared.netlist.Netlist.{Netlist}
use Rattle.net_cells.specs.Rules.{IsWellFormed, sources, widths, width_at}
use Rattle.net_cells.specs.Values.{AreInputs, AreValues, IsRunFrom, first_registers}

-- the nets that an operator reads
abbrev pub operands : CellOp → List ℕ
operands (Const value) = []
operands (Not x) = x ∷ []
operands (And x y) = x ∷ y ∷ []
operands (Or x y) = x ∷ y ∷ []
operands (Xor x y) = x ∷ y ∷ []
operands (Add x y) = x ∷ y ∷ []
operands (Sub x y) = x ∷ y ∷ []
operands (Eq x y) = x ∷ y ∷ []
operands (Less x y) = x ∷ y ∷ []
operands (Mux c x y) = c ∷ x ∷ y ∷ []
operands (Concat x y) = x ∷ y ∷ []
operands (Select x hi lo) = x ∷ []

-- A net is the net of a cell that reads another.
pub record Reads (n : Netlist) (net other : ℕ) : Type 0 where
  pub place : ℕ
  pub cell : Cell
  pub here : net ≡ sources n + place
  pub is : slice_get n.cells place ≡ Some cell
  pub operand : Contains (operands cell.op) other

-- From a net over others to a last one, each of which the one before it reads.
abbrev pub IsPath : Netlist → ℕ → List ℕ → ℕ → Type 0
IsPath n net [] last = Reads n net last
IsPath n net (next ∷ others) last = Reads n net next × IsPath n next others last

-- A net depends on another through cells.
abbrev pub DependsOn : Netlist → ℕ → ℕ → Type 0
DependsOn n net other = (between : List ℕ) × IsPath n net between other

-- No net depends on itself through cells.
abbrev pub HasNoLoop : Netlist → Type 0
HasNoLoop n = (net : ℕ) → DependsOn n net net → ⊥

-- values of the inputs and registers, each of its width
pub record AreGiven (n : Netlist) (given : List ℕ) : Type 0 where
  pub long : length given ≡ sources n
  pub fit : (net : ℕ) → net < length given → slice_index given net < 2 ^ width_at (widths n) net

-- There are values of a cycle, and no others: all give each net the same.
pub record HasOneCycle (n : Netlist) (given : List ℕ) : Type 0 where
  pub value : ℕ → ℕ
  pub is : AreValues n given value
  pub only : (v : ℕ → ℕ) → AreValues n given v → (net : ℕ) → net < length (widths n) → v net ≡ value net

-- Where no net depends on itself through cells, there is exactly one assignment of values for each given ones.
abbrev pub EachCycleIsOne : Type 0
EachCycleIsOne =
    (n : Netlist) → IsWellFormed n → HasNoLoop n → (given : List ℕ) → AreGiven n given → HasOneCycle n given

-- the same values of each net in each of as many cycles
abbrev pub AreSame : Netlist → List (ℕ → ℕ) → List (ℕ → ℕ) → Type 0
AreSame n [] [] = Unit {0}
AreSame n [] (u ∷ us) = ⊥
AreSame n (v ∷ vs) [] = ⊥
AreSame n (v ∷ vs) (u ∷ us) = ((net : ℕ) → net < length (widths n) → v net ≡ u net) × AreSame n vs us

-- There is a run with these inputs, and no other.
pub record HasOneRun (n : Netlist) (registers : List ℕ) (inputs : List (List ℕ)) : Type 0 where
  pub values : List (ℕ → ℕ)
  pub is : IsRunFrom n registers inputs values
  pub only : (others : List (ℕ → ℕ)) → IsRunFrom n registers inputs others → AreSame n others values

-- Where no net depends on itself through cells, there is exactly one run from the start for inputs that fit.
abbrev pub EachRunIsOne : Type 0
EachRunIsOne =
    (n : Netlist) → IsWellFormed n → HasNoLoop n → (inputs : List (List ℕ)) → All (AreInputs n) inputs
    → HasOneRun n (first_registers n) inputs
