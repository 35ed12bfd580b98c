-- In which orders the cells can be evaluated. Only functions that aren't public cite it.
use Rattle.std.specs.Prelude.{◌≡◌, ◌≢◌, ℕ, ◌+◌, ◌-◌, ◌<◌, ◌≤◌, nat_lt, cond, List, [], ◌∷◌, ◌++◌, length, Some, slice_get, slice_index, slice_index_or, Contains, All, AllPairs}
use Rattle.net_cells.specs.declared.netlist.Cell.{Cell}
use Rattle.net_cells.specs.declared.netlist.CellOp.TheVariants as op
use Rattle.net_cells.specs.declared.netlist.Netlist.{Netlist}
use Rattle.net_cells.specs.Rules.{sources, widths}
use Rattle.net_cells.specs.Loops.{DependsOn, operands}
use Rattle.sim_engine.specs.declared.steps.Step.{Step}
use Rattle.sim_engine.specs.Steps.{step_for, three}

-- the net is an input or a register, or the net of one of these cells
abbrev pub IsKnown : Netlist → List ℕ → ℕ → Type 0
IsKnown n done net = sources n ≤ net → Contains done (net - sources n)

-- all nets that the cell at a place reads are known
abbrev pub IsReady : Netlist → List ℕ → ℕ → Type 0
IsReady n done place =
    (c : Cell) → slice_get n.cells place ≡ Some c → (net : ℕ) → Contains (operands c.op) net → IsKnown n done net

-- Behind the cells that are done, each of these reads only inputs, registers and cells before it.
abbrev pub AreReadyInTurn : Netlist → List ℕ → List ℕ → Type 0
AreReadyInTurn n done [] = Unit {0}
AreReadyInTurn n done (place ∷ places) = IsReady n done place × AreReadyInTurn n (done ++ place ∷ []) places

-- An order in which the cells can be evaluated: it has each of them once, by their places in the netlist.
pub record IsOrder (n : Netlist) (order : List ℕ) : Type 0 where
  pub exist : All (λ place. place < length n.cells) order
  pub ordered : AreReadyInTurn n [] order
  pub every : (place : ℕ) → place < length n.cells → Contains order place
  pub once : AllPairs (λ a b. a ≢ b) order

-- An order has as many cells as the netlist.
abbrev pub EachCellOnce : Type 0
EachCellOnce = (n : Netlist) (order : List ℕ) → IsOrder n order → length order ≡ length n.cells

-- at which place of the order each cell stands
pub record ArePositions (n : Netlist) (order positions : List ℕ) : Type 0 where
  pub long : length positions ≡ length n.cells
  pub within : All (λ position. position < length order) positions
  pub right : (place : ℕ) → place < length n.cells → slice_index order (slice_index positions place) ≡ place

-- the cell at a place
abbrev pub cell_at : Netlist → ℕ → Cell
cell_at n place = slice_index_or n.cells place (record { width = 0; op = op.Const 0 })

-- Where a net stands among the values, by the positions of the cells: behind the inputs and the registers, whose
-- number is the first argument, the cells stand in their order.
abbrev pub position : ℕ → List ℕ → ℕ → ℕ
position first positions net = cond (nat_lt net first) net (first + slice_index positions (net - first))

-- the step of the cell at a place, by the positions of the cells
abbrev pub step_at : Netlist → List ℕ → ℕ → Step
step_at n positions place =
    let cell = cell_at n place in
    step_for (widths n) cell.width cell.op (position (sources n) positions (slice_index (three cell.op) 0))
    (position (sources n) positions (slice_index (three cell.op) 1))
    (position (sources n) positions (slice_index (three cell.op) 2))

-- the cell at a place reads no input and no register
abbrev pub ReadsCells : Netlist → ℕ → Type 0
ReadsCells n place = (net : ℕ) → Contains (operands (cell_at n place).op) net → sources n ≤ net

-- the cells in so many places at the front of an order read no input and no register
abbrev pub AreSettled : Netlist → List ℕ → ℕ → Type 0
AreSettled n order count = (row : ℕ) → row < count → ReadsCells n (slice_index order row)

-- a net depends on itself through cells
abbrev pub HasLoop : Netlist → Type 0
HasLoop n = (net : ℕ) × DependsOn n net net
