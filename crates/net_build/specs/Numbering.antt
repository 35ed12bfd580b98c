-- The netlist of a finished builder, and that each wire keeps its value in it.
use Rattle.std.specs.Prelude.{◌≡◌, ℕ, ◌+◌, ◌<◌, Bool, true, false, List, ◌++◌, length, map, take, count_by, Option, Some, None, slice_get, slice_index, All}
use Rattle.std.specs.List.{filter_map}
use Rattle.net_cells.specs.declared.netlist.CellOp.{CellOp}
use Rattle.net_cells.specs.declared.netlist.CellOp.TheVariants.{Const, Not, And, Or, Xor, Add, Sub, Eq, Less, Mux, Concat, Select}
use Rattle.net_cells.specs.declared.netlist.Cell.{Cell}
use Rattle.net_cells.specs.declared.netlist.Reg.{Reg}
use Rattle.net_cells.specs.declared.netlist.OutPort.{OutPort}
use Rattle.net_cells.specs.declared.netlist.Netlist.{Netlist}
use Rattle.net_cells.specs.Values.{AreValues, first_registers, next_registers}
use Rattle.net_build.specs.declared.types.Kind.{Kind}
use Rattle.net_build.specs.declared.types.Kind.TheVariants.{Input, Register, Gate}
use Rattle.net_build.specs.declared.types.Made.{Made}
use Rattle.net_build.specs.declared.finish.Counts.{Counts}
use Rattle.net_build.specs.Built.{Built, inputs, is_register}
use Rattle.net_build.specs.Values.{Solves, Ticks, AtStart, HasInputs}

-- whether a wire of this kind is an input
abbrev pub is_input : Kind → Bool
is_input (Input name) = true
is_input Register = false
is_input (Gate op) = false

-- whether a wire of this kind has an operator
abbrev pub is_gate : Kind → Bool
is_gate (Input name) = false
is_gate Register = false
is_gate (Gate op) = true

-- how many wires of each kind there are
abbrev pub wire_counts : List Made → Counts
wire_counts ms = record {
  inputs = count_by (λ (m : Made). is_input m.item.kind) ms;
  regs = count_by (λ (m : Made). is_register m.item.kind) ms;
  gates = count_by (λ (m : Made). is_gate m.item.kind) ms;
}

-- the net of a wire of this kind, with so many wires in all and so many before it
abbrev pub net_among : Counts → Counts → Kind → ℕ
net_among all before (Input name) = before.inputs
net_among all before Register = all.inputs + before.regs
net_among all before (Gate op) = all.inputs + all.regs + before.gates

-- the net of the wire with this number, where it is this one
abbrev pub net_at : List Made → ℕ → Option Made → ℕ
net_at ms w None = 0
net_at ms w (Some m) = net_among (wire_counts ms) (wire_counts (take w ms)) m.item.kind

-- the net of a wire: the inputs come first, then the registers, then the gates, each in the order of making
abbrev pub net_of : List Made → ℕ → ℕ
net_of ms w = net_at ms w (slice_get ms w)

-- an operator, with its operands numbered anew
abbrev pub renamed : (ℕ → ℕ) → CellOp → CellOp
renamed r (Const value) = Const value
renamed r (Not x) = Not (r x)
renamed r (And x y) = And (r x) (r y)
renamed r (Or x y) = Or (r x) (r y)
renamed r (Xor x y) = Xor (r x) (r y)
renamed r (Add x y) = Add (r x) (r y)
renamed r (Sub x y) = Sub (r x) (r y)
renamed r (Eq x y) = Eq (r x) (r y)
renamed r (Less x y) = Less (r x) (r y)
renamed r (Mux c x y) = Mux (r c) (r x) (r y)
renamed r (Concat x y) = Concat (r x) (r y)
renamed r (Select x hi lo) = Select (r x) hi lo

-- what a register takes: the net of the wire before it, 0 where it isn't driven
abbrev pub next_of : (ℕ → ℕ) → Option ℕ → ℕ
next_of r None = 0
next_of r (Some next) = r next

-- the register of a wire that is one
abbrev pub reg_of_kind : (ℕ → ℕ) → ℕ → Option ℕ → Kind → Option Reg
reg_of_kind r width next (Input name) = None
reg_of_kind r width next Register = Some (record { width = width; next = next_of r next })
reg_of_kind r width next (Gate op) = None

-- the register of a wire that is one, with the nets numbered by r
abbrev pub reg_of : (ℕ → ℕ) → Made → Option Reg
reg_of r m = reg_of_kind r m.item.width m.next m.item.kind

-- the cell of a wire that has an operator
abbrev pub cell_of_kind : (ℕ → ℕ) → ℕ → Kind → Option Cell
cell_of_kind r width (Input name) = None
cell_of_kind r width Register = None
cell_of_kind r width (Gate op) = Some (record { width = width; op = renamed r op })

-- the cell of a wire that has an operator, with the nets numbered by r
abbrev pub cell_of : (ℕ → ℕ) → Made → Option Cell
cell_of r m = cell_of_kind r m.item.width m.item.kind

-- an output, with the nets numbered by r
abbrev pub out_of : (ℕ → ℕ) → OutPort → OutPort
out_of r o = record { name = o.name; net = r o.net }

-- the netlist, with the nets numbered by r
abbrev pub netlist_by : (ℕ → ℕ) → Built → Netlist
netlist_by r b = record {
  name = b.name;
  inputs = inputs b;
  regs = filter_map (reg_of r) b.made;
  cells = filter_map (cell_of r) b.made;
  outputs = map (out_of r) b.outputs;
}

-- The netlist of a builder: inputs, registers, cells and outputs stand in the order of making.
abbrev pub finished : Built → Netlist
finished b = netlist_by (net_of b.made) b

-- the values of a builder's wires, from those of its netlist's nets
abbrev pub at_wires : Built → (ℕ → ℕ) → ℕ → ℕ
at_wires b v w = v (net_of b.made w)

-- Each wire keeps its value in the netlist: values of a cycle of the netlist are values that the wires may have; the
-- wire of each input has the value that is given for it; in the first cycle the registers hold 0; from cycle to cycle
-- each takes the value before it.
pub record KeepsValues (n : Netlist) (b : Built) : Type 0 where
  pub solves : (given : List ℕ) (v : ℕ → ℕ) → AreValues n given v → Solves b (at_wires b v)
  pub reads : (ins regs : List ℕ) (v : ℕ → ℕ) → length ins ≡ length n.inputs → AreValues n (ins ++ regs) v
      → HasInputs b ins (at_wires b v)
  pub starts : (ins : List ℕ) (v : ℕ → ℕ) → length ins ≡ length n.inputs → AreValues n (ins ++ first_registers n) v
      → AtStart b (at_wires b v)
  pub ticks : (ins : List ℕ) (v u : ℕ → ℕ) → length ins ≡ length n.inputs → AreValues n (ins ++ next_registers n v) u
      → Ticks b (at_wires b v) (at_wires b u)

-- one wire of this kind more; only functions that aren't public cite it
abbrev pub counted : Counts → Kind → Counts
counted c (Input name) = record { inputs = c.inputs + 1; regs = c.regs; gates = c.gates }
counted c Register = record { inputs = c.inputs; regs = c.regs + 1; gates = c.gates }
counted c (Gate op) = record { inputs = c.inputs; regs = c.regs; gates = c.gates + 1 }

-- a list of the nets of all wires; only functions that aren't public cite it
pub record AreNets (ms : List Made) (nets : List ℕ) : Type 0 where
  pub long : length nets ≡ length ms
  pub each : (w : ℕ) → w < length ms → slice_index nets w ≡ net_of ms w

-- After a cycle in which net 0, the reset, is 1, every register holds 0.
abbrev pub Resets : Netlist → Type 0
Resets n = (given : List ℕ) (v : ℕ → ℕ) → AreValues n given v → v 0 ≡ 1 → All (λ x. x ≡ 0) (next_registers n v)
