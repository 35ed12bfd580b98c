-- What an engine keeps; callers see of it what its registers hold.
use Rattle.std.specs.Prelude.{◌≡◌, ℕ, ◌+◌, ◌^◌, ◌<◌, List, length, map, take, drop, slice_index}
use Rattle.net_cells.specs.declared.netlist.Netlist.{Netlist}
use Rattle.net_cells.specs.declared.netlist.OutPort.{OutPort}
use Rattle.net_cells.specs.declared.netlist.Reg.{Reg}
use Rattle.net_cells.specs.Rules.{IsWellFormed, sources, widths, width_at}
use Rattle.net_cells.specs.Values.{AreValues}
use Rattle.sim_engine.specs.declared.columns.Columns.{Columns}
use Rattle.sim_engine.specs.declared.runs.Run.{Run}
use Rattle.sim_engine.specs.Columns.{AreRuns, CanRun, step_in}
use Rattle.sim_engine.specs.Orders.{ArePositions, IsOrder, position, step_at}

-- what the registers hold, among the values of all nets
abbrev pub registers_in : Netlist → List ℕ → List ℕ
registers_in n values = take (length n.regs) (drop (length n.inputs) values)

-- each register holds a number of its width
abbrev pub RegistersFit : Netlist → List ℕ → Type 0
RegistersFit n registers =
    (k : ℕ) → k < length registers → slice_index registers k < 2 ^ width_at (widths n) (length n.inputs + k)

-- The cells in so many places at the front of an order have their values, which are the same under each assignment.
abbrev pub HaveSettled : Netlist → List ℕ → ℕ → List ℕ → Type 0
HaveSettled n order count values =
    (given : List ℕ) (v : ℕ → ℕ) → AreValues n given v → (row : ℕ) → row < count
    → slice_index values (sources n + row) ≡ v (sources n + slice_index order row)

-- A netlist with what follows from it, and one value for each net, of which those of the registers count. All cells
-- stand in an order: so many at its front are settled, and the rows are the steps of the others.
pub record IsEngine (n : Netlist) (c : Columns) (runs : List Run) (first : ℕ)
    (outs nexts values kept : List ℕ) : Type 0 where
  pub well : IsWellFormed n
  pub order : List ℕ
  pub positions : List ℕ
  pub count : ℕ
  pub is_order : IsOrder n order
  pub placed : ArePositions n order positions
  pub begins : first ≡ sources n + count
  pub ends : count + length c.kind.items ≡ length order
  pub steps : (row : ℕ) → row < length c.kind.items
      → step_in c row ≡ step_at n positions (slice_index order (count + row))
  pub can : CanRun c first (length (widths n))
  pub parted : AreRuns c.kind.items 0 runs
  pub shown : outs ≡ map (λ (o : OutPort). position (sources n) positions o.net) n.outputs
  pub moved : nexts ≡ map (λ (r : Reg). position (sources n) positions r.next) n.regs
  pub long : length values ≡ length (widths n)
  pub room : length kept ≡ length n.regs
  pub fit : RegistersFit n (registers_in n values)
  pub settled : HaveSettled n order count values
