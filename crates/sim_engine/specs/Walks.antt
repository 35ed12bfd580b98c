-- The search for an order: depth first, along the nets that cells read. Only functions that aren't public cite it.
use Rattle.std.specs.Prelude.{◌≡◌, ◌≢◌, ℕ, ◌+◌, ◌-◌, ◌<◌, ◌≤◌, List, [], length, slice_index_or, Contains, All, AllPairs}
use Rattle.std.specs.List.{sum_by}
use Rattle.net_cells.specs.declared.netlist.Netlist.{Netlist}
use Rattle.net_cells.specs.Rules.{sources}
use Rattle.net_cells.specs.Loops.{DependsOn, Reads}
use Rattle.sim_engine.specs.declared.order.Mark.{Mark}
use Rattle.sim_engine.specs.declared.order.Mark.TheVariants.{New, Open, Done}
use Rattle.sim_engine.specs.declared.order.Walk.{Walk}
use Rattle.sim_engine.specs.Orders.{AreReadyInTurn, cell_at}
use Rattle.sim_engine.specs.Steps.{three}

-- how far the search has come with the cell at a place
abbrev pub mark_at : List Mark → ℕ → Mark
mark_at marks place = slice_index_or marks place New

-- the net is an input or a register, or the net of a cell that is done
abbrev pub IsDone : ℕ → List Mark → ℕ → Type 0
IsDone first marks net = first ≤ net → mark_at marks (net - first) ≡ Done

-- A state of the search. Each open cell stands on the stack, once, and depends on those behind it; each cell that is
-- done stands in the order, once, and no other does.
pub record IsWalk (n : Netlist) (marks : List Mark) (order stack : List ℕ) : Type 0 where
  pub long : length marks ≡ length n.cells
  pub placed : All (λ place. place < length n.cells) stack
  pub opened : (place : ℕ) → mark_at marks place ≡ Open → Contains stack place
  pub finished : (place : ℕ) → mark_at marks place ≡ Done → Contains order place
  pub marked : All (λ place. mark_at marks place ≡ Open) stack
  pub apart : AllPairs (λ a b. a ≢ b) stack
  pub path : AllPairs (λ a b. DependsOn n (sources n + a) (sources n + b)) stack
  pub exist : All (λ place. place < length n.cells) order
  pub ordered : AreReadyInTurn n [] order
  pub listed : (place : ℕ) → Contains order place → mark_at marks place ≡ Done
  pub once : AllPairs (λ a b. a ≢ b) order

-- no cell becomes new
abbrev pub KeepsMarks : List Mark → List Mark → Type 0
KeepsMarks old new = (place : ℕ) → mark_at old place ≢ New → mark_at new place ≢ New

-- how often the search still comes to a cell with this mark
abbrev pub visits_left : Mark → ℕ
visits_left New = 2
visits_left Open = 0
visits_left Done = 0

-- what is left to do: a new cell is opened and closed, and an open one is closed
abbrev pub left : List Mark → List ℕ → ℕ
left marks stack = sum_by visits_left marks + length stack

-- the search stands so
abbrev pub Stands : Netlist → Walk → Type 0
Stands n s = IsWalk n s.marks.items s.order.items s.stack.items

-- the search has come from one state to another
pub record Goes (n : Netlist) (old new : Walk) : Type 0 where
  pub stands : Stands n new
  pub keeps : KeepsMarks old.marks.items new.marks.items
  pub less : left new.marks.items new.stack.items ≤ left old.marks.items old.stack.items

-- the search has come from one state to another between two cells that it starts with, and this one is done
pub record Visited (n : Netlist) (old new : Walk) (start : ℕ) : Type 0 where
  pub stands : Stands n new
  pub idle : new.stack.items ≡ []
  pub keeps : KeepsMarks old.marks.items new.marks.items
  pub found : mark_at new.marks.items start ≢ New

-- all cells that a cell reads are done
abbrev pub HasAllDone : Netlist → Walk → ℕ → Type 0
HasAllDone n walk top = All (IsDone (sources n) walk.marks.items) (three (cell_at n top).op)

-- a cell reads another one that isn't done
pub record WaitsFor (n : Netlist) (walk : Walk) (top place : ℕ) : Type 0 where
  pub reads : Reads n (sources n + top) (sources n + place)
  pub exists : place < length n.cells
  pub open_or_new : mark_at walk.marks.items place ≢ Done

-- no cell is open
pub record IsIdle (n : Netlist) (walk : Walk) : Type 0 where
  pub stands : Stands n walk
  pub idle : walk.stack.items ≡ []
