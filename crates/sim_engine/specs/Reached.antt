-- The search for the cells that a cell depends on. Only functions that aren't public cite it.
use Rattle.std.specs.Prelude.{◌≡◌, ℕ, ◌+◌, ◌-◌, ◌<◌, ◌≤◌, Bool, true, false, List, length, slice_index_or, Contains, All}
use Rattle.std.specs.List.{sum_by}
use Rattle.net_cells.specs.declared.netlist.Netlist.{Netlist}
use Rattle.net_cells.specs.Rules.{sources}
use Rattle.net_cells.specs.Loops.{DependsOn}
use Rattle.sim_engine.specs.declared.loops.Reach.{Reach}

-- whether the cell at a place is found
abbrev pub is_found : List Bool → ℕ → Bool
is_found seen place = slice_index_or seen place false

-- 1 for a cell that isn't found
abbrev pub unseen : Bool → ℕ
unseen true = 0
unseen false = 1

-- A state of the search: the cells that are found, each of which the cell at the start depends on.
pub record IsReach (n : Netlist) (start : ℕ) (seen : List Bool) (found : List ℕ) : Type 0 where
  pub long : length seen ≡ length n.cells
  pub listed : (place : ℕ) → is_found seen place ≡ true → Contains found place
  pub marked : (place : ℕ) → Contains found place → is_found seen place ≡ true
  pub exist : All (λ place. place < length n.cells) found
  pub depends : All (λ place. DependsOn n (sources n + start) (sources n + place)) found
  pub rest : sum_by unseen seen + length found ≡ length n.cells

-- the first list stands at the front of the second
pub record Extends (old new : List ℕ) : Type 0 where
  pub long : length old ≤ length new
  pub same : (k d : ℕ) → k < length old → slice_index_or new k d ≡ slice_index_or old k d

-- the search stands so
abbrev pub HasReached : Netlist → ℕ → Reach → Type 0
HasReached n start r = IsReach n start r.seen.items r.found.items

-- the net isn't a cell's, or it is one that the cell at the start depends on
abbrev pub MayFind : Netlist → ℕ → ℕ → Type 0
MayFind n start net = sources n ≤ net → (net - sources n < length n.cells) × DependsOn n (sources n + start) net

-- the search has come from one state to another, and the cell is found
pub record Finds (n : Netlist) (start : ℕ) (old new : Reach) (place : ℕ) : Type 0 where
  pub reaches : HasReached n start new
  pub extends : Extends old.found.items new.found.items
  pub found : Contains new.found.items place
