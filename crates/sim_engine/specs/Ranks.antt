-- Ranks of the cells, by which most are seen to be on no loop. Only functions that aren't public cite it.
use Rattle.std.specs.Prelude.{ℕ, ◌+◌, ◌-◌, ◌<◌, ◌≤◌, List, length, slice_index_or, All}
use Rattle.net_cells.specs.declared.netlist.Netlist.{Netlist}
use Rattle.net_cells.specs.Rules.{sources}
use Rattle.sim_engine.specs.Orders.{cell_at}
use Rattle.sim_engine.specs.Steps.{three}

-- the rank of the cell at a place, 0 where none is given
abbrev pub rank_at : List ℕ → ℕ → ℕ
rank_at ranks place = slice_index_or ranks place 0

-- the net is an input or a register, or the net of a cell whose rank is less than a bound
abbrev pub IsBelow : ℕ → List ℕ → ℕ → ℕ → Type 0
IsBelow first ranks bound net = first ≤ net → rank_at ranks (net - first) < bound

-- each cell that the cell at a place reads has a rank less than a bound
abbrev pub ReadsBelow : Netlist → List ℕ → ℕ → ℕ → Type 0
ReadsBelow n ranks place bound = All (IsBelow (sources n) ranks bound) (three (cell_at n place).op)

-- No cell reads one of a higher rank.
abbrev pub AreRanked : Netlist → List ℕ → Type 0
AreRanked n ranks = (place : ℕ) → place < length n.cells → ReadsBelow n ranks place (rank_at ranks place + 1)
