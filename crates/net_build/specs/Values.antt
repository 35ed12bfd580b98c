-- What the wires of a builder may hold, and what a later builder keeps.
use Rattle.std.specs.Prelude.{◌≡◌, ℕ, Bool, false, ◌==◌, not, List, ◌∷◌, [], ◌++◌, length, take, filter, None, Some, slice_get, slice_index, if◌then◌else◌}
use Rattle.net_cells.specs.declared.netlist.CellOp.{CellOp}
use Rattle.net_cells.specs.declared.netlist.Port.{Port}
use Rattle.net_cells.specs.declared.netlist.OutPort.{OutPort}
use Rattle.net_cells.specs.Rules.{HasWidth}
use Rattle.net_cells.specs.Values.{FitsAll, op_value}
use Rattle.net_build.specs.declared.types.Kind.TheVariants.{Input, Register, Gate}
use Rattle.net_build.specs.declared.types.Item.{Item}
use Rattle.net_build.specs.declared.types.Made.{Made}
use Rattle.net_build.specs.declared.types.Wire.{Wire}
use Rattle.net_build.specs.Built.{Built, items, wire_widths, inputs, undriven, IsInput}

-- Values that the wires may have in one cycle: each has its width, and each operator's equation holds.
pub record Solves (b : Built) (v : ℕ → ℕ) : Type 0 where
  pub fits : FitsAll (wire_widths b) v
  pub gates : (n : ℕ) (i : Item) (op : CellOp) → slice_get (items b) n ≡ Some i → i.kind ≡ Gate op
      → v n ≡ op_value (wire_widths b) i.width op v

-- Values of one cycle, and of the next: each register that is driven takes the value of the wire before it.
pub record Ticks (b : Built) (v u : ℕ → ℕ) : Type 0 where
  pub takes : (n : ℕ) (m : Made) (d : ℕ) → slice_get b.made n ≡ Some m → m.next ≡ Some d → u n ≡ v d

-- Values of a cycle in which the inputs have the values ins: wire 0, `reset`, has the first, and the wire of each
-- input its own.
pub record HasInputs (b : Built) (ins : List ℕ) (v : ℕ → ℕ) : Type 0 where
  pub reset : v 0 ≡ slice_index ins 0
  pub each : (k : ℕ) (p : Port) (w : Wire) → slice_get (inputs b) k ≡ Some p → IsInput b w p.name
      → v w.number ≡ slice_index ins k

-- Values of the first cycle: each register holds 0.
pub record AtStart (b : Built) (v : ℕ → ℕ) : Type 0 where
  pub holds : (n : ℕ) (i : Item) → slice_get (items b) n ≡ Some i → i.kind ≡ Register → v n ≡ 0

-- the value of a wire, whatever the inputs and registers hold
pub record Means (b : Built) (w : Wire) (f : (ℕ → ℕ) → ℕ) : Type 0 where
  pub at : (v : ℕ → ℕ) → Solves b v → v w.number ≡ f v

-- a wire of one bit is 1
abbrev pub high : (ℕ → ℕ) → Wire → Bool
high v w = v w.number == 1

-- the same as Means, of a wire of one bit
pub record Tells (b : Built) (w : Wire) (f : (ℕ → ℕ) → Bool) : Type 0 where
  pub at : (v : ℕ → ℕ) → Solves b v → high v w ≡ f v

-- What a register holds in the next cycle: 0 after a reset, and else this value.
pub record Takes (b : Built) (r : Wire) (f : (ℕ → ℕ) → ℕ) : Type 0 where
  pub at : (v u : ℕ → ℕ) → Solves b v → Ticks b v u → u r.number ≡ (if v 0 == 1 then 0 else f v)

-- the same, of a cycle without a reset
pub record Becomes (b : Built) (r : Wire) (f : (ℕ → ℕ) → ℕ) : Type 0 where
  pub at : (v u : ℕ → ℕ) → Solves b v → Ticks b v u → (v 0 == 1) ≡ false → u r.number ≡ f v

-- A later builder: wires, ports and driven registers stay as they are, and what solves it solves the earlier one.
pub record Later (old new : Built) : Type 0 where
  pub back : (v : ℕ → ℕ) → Solves new v → Solves old v
  pub keeps : (n : ℕ) (i : Item) → slice_get (items old) n ≡ Some i → slice_get (items new) n ≡ Some i
  pub wires : (n width : ℕ) → HasWidth (wire_widths old) n width → HasWidth (wire_widths new) n width
  pub ticks : (v u : ℕ → ℕ) → Ticks new v u → Ticks old v u
  pub starts : (v : ℕ → ℕ) → AtStart new v → AtStart old v
  pub name : new.name ≡ old.name
  pub inputs : take (length (inputs old)) (inputs new) ≡ inputs old
  pub outputs : take (length old.outputs) new.outputs ≡ old.outputs

-- A later builder without further ports. Its further registers are driven, and no earlier one was driven since.
pub record Adds (old new : Built) : Type 0 where
  pub later : Later old new
  pub inputs : inputs new ≡ inputs old
  pub outputs : new.outputs ≡ old.outputs
  pub undriven : undriven new ≡ undriven old

-- A later builder without further ports, some of whose further registers aren't driven yet.
pub record Opens (old new : Built) (registers : List ℕ) : Type 0 where
  pub later : Later old new
  pub inputs : inputs new ≡ inputs old
  pub outputs : new.outputs ≡ old.outputs
  pub undriven : undriven new ≡ undriven old ++ registers

-- A later builder without further ports, in which one more register is driven.
pub record Drives (old new : Built) (register : ℕ) : Type 0 where
  pub later : Later old new
  pub inputs : inputs new ≡ inputs old
  pub outputs : new.outputs ≡ old.outputs
  pub undriven : undriven new ≡ filter (λ n. not (n == register)) (undriven old)

-- A later builder with one more input, and nothing else.
pub record AddsInput (old new : Built) (port : Port) : Type 0 where
  pub later : Later old new
  pub made : new.made ≡ old.made ++ record {
    item = record { width = port.width; kind = Input port.name };
    next = None;
  } ∷ []
  pub inputs : inputs new ≡ inputs old ++ port ∷ []
  pub outputs : new.outputs ≡ old.outputs
  pub undriven : undriven new ≡ undriven old

-- A later builder with one more output, and nothing else.
pub record AddsOutput (old new : Built) (port : OutPort) : Type 0 where
  pub later : Later old new
  pub made : new.made ≡ old.made
  pub inputs : inputs new ≡ inputs old
  pub outputs : new.outputs ≡ old.outputs ++ port ∷ []
  pub undriven : undriven new ≡ undriven old
