-- Which part of a text may come next, and what it says.
use Rattle.std.specs.Prelude.{ℕ, ◌+◌, ◌==◌, List, [], ◌∷◌, ◌++◌, length, codes, slice_get, slice_index, Bool, true, false, not, ◌&&◌, nat_le, nat_lt, nat_eq, cond, Option, Some, None}
use Rattle.std.specs.List.{starts_with}
use Rattle.std.specs.Str.{bytes_eq}
use Rattle.dip_sets.specs.Names.{is_name}
use Rattle.net_cells.specs.declared.netlist.Port.{Port}
use Rattle.net_cells.specs.declared.netlist.CellOp.{CellOp}
use Rattle.net_cells.specs.declared.netlist.CellOp.TheVariants as op
use Rattle.ver_text.specs.declared.kind.Kind.{Kind}
use Rattle.ver_text.specs.declared.kind.Kind.TheVariants as kind
use Rattle.ver_text.specs.declared.part.Part.{Part}
use Rattle.ver_text.specs.declared.progress.Progress.{Progress}
use Rattle.ver_text.specs.Kinds.{same_kind}
use Rattle.ver_text.specs.Numerals.{number_below, literal_of, is_numbered, numbered}
use Rattle.ver_text.specs.Tokens.{token_bytes}
use Rattle.ver_text.specs.Fits.{is_cell}
pub use Rattle.ver_text.specs.NamedPorts.{is_none, port_place, is_new}

-- ---- what is known of the nets so far

-- a number from a first one up to another
abbrev pub if_within : ℕ → ℕ → ℕ → Option ℕ
if_within first end number = cond (nat_le first number && nat_lt number end) (Some number) None

-- the net of the cell with this number; without one, that of the input with the name
abbrev pub cell_named : Progress → List ℕ → Option ℕ → Option ℕ
cell_named p name None = port_place p.inputs name
cell_named p name (Some number) = if_within p.sources (length p.widths) number

-- the net of the register with this number; without one, that of a cell or an input
abbrev pub register_named : Progress → List ℕ → Option ℕ → Option ℕ
register_named p name None = cell_named p name (numbered 119 name)
register_named p name (Some number) = if_within (length p.inputs) p.sources number

-- the net with a name: `r` and the number of a register, `w` and the number of a cell, or an input's
unfoldable pub net_named : Progress → List ℕ → Option ℕ
net_named p name = register_named p name (numbered 114 name)

-- ---- names and ranges

-- a name of at least 3 bytes that begins with these
abbrev pub has_prefix : List ℕ → List ℕ → Bool
has_prefix front name = starts_with nat_eq name front && nat_le 3 (length name)

-- a name for another port
abbrev pub is_port_name : Progress → List ℕ → Bool
is_port_name p name = has_prefix (codes "p_") name && is_new p.inputs name && is_new p.declared name

-- the width of a range by its high bound, whose low bound must be 0
abbrev pub width_by : Option ℕ → List ℕ → Option ℕ
width_by None low = None
width_by (Some high) low = cond (bytes_eq low (codes "0")) (Some (high + 1)) None

-- the width of a range, of 1 to 64 bits
unfoldable pub width_of : List ℕ → List ℕ → Option ℕ
width_of high low = width_by (number_below 64 high) low

-- ---- the module's name and the ports

-- the module's name
abbrev pub due_name : Progress → List ℕ → Option Progress
due_name p name = cond (has_prefix (codes "m_") name && is_name name) (Some (record p { name = Some name })) None

-- one more input, whose net is the next one, where the name has the form of names
abbrev pub with_input : Progress → List ℕ → ℕ → Option Progress
with_input p name width =
    cond (is_name name)
    (Some
    (record p {
      inputs = p.inputs ++ record { name = name; width = width } ∷ [];
      widths = p.widths ++ width ∷ [];
      sources = p.sources + 1;
      next_register = p.next_register + 1;
      next_cell = p.next_cell + 1;
    }))
    None

-- the clock: `clock` of one bit
abbrev pub due_clock : Progress → List ℕ → ℕ → Option Progress
due_clock p name width = cond (bytes_eq name (codes "clock") && (width == 1)) (Some (record p { clocked = true })) None

-- the first input: `reset` of one bit
abbrev pub due_reset : Progress → List ℕ → ℕ → Option Progress
due_reset p name width = cond (bytes_eq name (codes "reset") && (width == 1)) (with_input p name width) None

-- another input, before the outputs
abbrev pub due_other : Progress → List ℕ → ℕ → Option Progress
due_other p name width = cond (is_none p.declared && is_port_name p name) (with_input p name width) None

-- an input: the clock, which is none of the netlist's, then `reset`, then others
abbrev pub due_input : Progress → List ℕ → Option ℕ → Option Progress
due_input p name None = None
due_input p name (Some width) =
    cond p.clocked (cond (is_none p.inputs) (due_reset p name width) (due_other p name width)) (due_clock p name width)

-- one more output, where the name has the form of names
abbrev pub with_output : Progress → List ℕ → ℕ → Option Progress
with_output p name width =
    cond (is_name name) (Some (record p { declared = p.declared ++ record { name = name; width = width } ∷ [] })) None

-- an output, behind `reset` and the other inputs
abbrev pub due_output : Progress → List ℕ → Option ℕ → Option Progress
due_output p name None = None
due_output p name (Some width) = cond (not (is_none p.inputs) && is_port_name p name) (with_output p name width) None

-- ---- registers and the nets of cells

-- behind the ports, before the first net of a cell and the first value
abbrev pub takes_registers : Progress → Bool
takes_registers p = not (is_none p.inputs) && (length p.widths == p.sources) && is_none p.outputs && is_none p.regs

-- the next register
abbrev pub due_register : Progress → List ℕ → Option ℕ → Option Progress
due_register p name None = None
due_register p name (Some width) =
    cond (takes_registers p && is_numbered 114 (length p.widths) name)
    (Some (record p { widths = p.widths ++ width ∷ []; sources = p.sources + 1; next_cell = p.next_cell + 1 })) None

-- behind the ports, before the first value
abbrev pub takes_wires : Progress → Bool
takes_wires p = not (is_none p.inputs) && is_none p.cells && is_none p.outputs && is_none p.regs

-- the net of the next cell
abbrev pub due_wire : Progress → List ℕ → Option ℕ → Option Progress
due_wire p name None = None
due_wire p name (Some width) =
    cond (takes_wires p && is_numbered 119 (length p.widths) name)
    (Some (record p { widths = p.widths ++ width ∷ [] })) None

-- ---- the values of cells

-- the operator of two operands that a token stands for
abbrev pub binary : Kind → ℕ → ℕ → Option CellOp
binary kind.And x y = Some (op.And x y)
binary kind.Or x y = Some (op.Or x y)
binary kind.Xor x y = Some (op.Xor x y)
binary kind.Plus x y = Some (op.Add x y)
binary kind.Minus x y = Some (op.Sub x y)
binary kind.Equal x y = Some (op.Eq x y)
binary kind.Less x y = Some (op.Less x y)
binary kind.OpenBrace x y = Some (op.Concat x y)
binary _ x y = None

-- the same of operands that may be none
abbrev pub binary_of : Kind → Option ℕ → Option ℕ → Option CellOp
binary_of form None y = None
binary_of form (Some x) None = None
binary_of form (Some x) (Some y) = binary form x y

-- a constant, of a literal that may be none
abbrev pub const_of : Option ℕ → Option CellOp
const_of None = None
const_of (Some value) = Some (op.Const value)

-- an inversion, of an operand that may be none
abbrev pub not_of : Option ℕ → Option CellOp
not_of None = None
not_of (Some x) = Some (op.Not x)

-- a choice, of operands that may be none
abbrev pub mux_of : Option ℕ → Option ℕ → Option ℕ → Option CellOp
mux_of None x y = None
mux_of (Some pick) None y = None
mux_of (Some pick) (Some x) None = None
mux_of (Some pick) (Some x) (Some y) = Some (op.Mux pick x y)

-- bits of a net, of a net and bounds that may be none
abbrev pub select_of : Option ℕ → Option ℕ → Option ℕ → Option CellOp
select_of None hi lo = None
select_of (Some net) None lo = None
select_of (Some net) (Some hi) None = None
select_of (Some net) (Some hi) (Some lo) = Some (op.Select net hi lo)

-- what an expression says that begins or goes on so and has these last three names, numbers and literals; none for a
-- name alone
unfoldable pub cell_op : Progress → ℕ → Kind → List ℕ → List ℕ → List ℕ → Option CellOp
cell_op p width kind.Literal third second last = const_of (literal_of width last)
cell_op p width kind.Tilde third second last = not_of (net_named p last)
cell_op p width kind.Question third second last = mux_of (net_named p third) (net_named p second) (net_named p last)
cell_op p width kind.OpenBracket third second last =
    select_of (net_named p third) (number_below 64 second) (number_below 64 last)
cell_op p width form third second last = binary_of form (net_named p second) (net_named p last)

-- the name that an assignment gives a value, which stands before those of its expression
abbrev pub target : Kind → List ℕ → List ℕ → List ℕ → List ℕ
target kind.Literal fourth third second = second
target kind.Tilde fourth third second = second
target kind.Semicolon fourth third second = second
target kind.Question fourth third second = fourth
target kind.OpenBracket fourth third second = fourth
target _ fourth third second = third

-- one more cell, where it meets the rule of its operator
abbrev pub with_cell : Progress → ℕ → Option CellOp → Option Progress
with_cell p width None = None
with_cell p width (Some o) =
    cond (is_cell p.widths width o)
    (Some (record p { cells = p.cells ++ record { width = width; op = o } ∷ []; next_cell = p.next_cell + 1 })) None

-- the value of the next cell
unfoldable pub due_cell : Progress → Kind → List ℕ → List ℕ → List ℕ → List ℕ → Option Progress
due_cell p form fourth third second last =
    let width = slice_index p.widths p.next_cell in
    cond (is_numbered 119 p.next_cell (target form fourth third second))
    (with_cell p width (cell_op p width form third second last)) None

-- ---- the values of outputs and registers

-- the next output with its net, where it has the width of the port
abbrev pub with_shown : Progress → Port → Option ℕ → Option Progress
with_shown p port None = None
with_shown p port (Some net) =
    cond (slice_index p.widths net == port.width)
    (Some (record p { outputs = p.outputs ++ record { name = port.name; net = net } ∷ [] })) None

-- the same of a port that may be none
abbrev pub shown_next : Progress → Option Port → Option ℕ → Option Progress
shown_next p None net = None
shown_next p (Some port) net = with_shown p port net

-- whether the port has this name
abbrev pub is_port : Option Port → List ℕ → Bool
is_port None name = false
is_port (Some port) name = bytes_eq port.name name

-- the output without a net that stands first
abbrev pub next_output : Progress → Option Port
next_output p = slice_get p.declared (length p.outputs)

-- whether the first output without a net has this name
abbrev pub is_next_output : Progress → List ℕ → Bool
is_next_output p name = is_port (next_output p) name

-- the net of the next output
unfoldable pub due_shown : Progress → Kind → List ℕ → List ℕ → Option Progress
due_shown p form name value =
    cond (same_kind form kind.Semicolon && is_next_output p name)
    (shown_next p (next_output p) (net_named p value)) None

-- an assignment: of the next cell, and behind those of the next output
unfoldable pub due_assignment : Progress → Kind → List ℕ → List ℕ → List ℕ → List ℕ → Option Progress
due_assignment p form fourth third second last =
    cond (nat_lt p.next_cell (length p.widths)) (due_cell p form fourth third second last)
    (due_shown p form second last)

-- each cell and each output has its value
abbrev pub has_values : Progress → Bool
has_values p = (p.next_cell == length p.widths) && (length p.outputs == length p.declared)

-- the next register with its next net, where the two have one width
abbrev pub with_next : Progress → Option ℕ → Option Progress
with_next p None = None
with_next p (Some net) =
    let width = slice_index p.widths p.next_register in
    cond (slice_index p.widths net == width)
    (Some (record p {
      regs = p.regs ++ record { width = width; next = net } ∷ [];
      next_register = p.next_register + 1;
    })) None

-- whether the clock and the next register are named, where each cell and each output has its value
abbrev pub is_next_update : Progress → List ℕ → List ℕ → Bool
is_next_update p clock register =
    has_values p && nat_lt p.next_register p.sources && bytes_eq clock (codes "clock")
    && is_numbered 114 p.next_register register

-- the next net of the next register
unfoldable pub due_update : Progress → List ℕ → List ℕ → List ℕ → Option Progress
due_update p clock register next = cond (is_next_update p clock register) (with_next p (net_named p next)) None

-- the end, where nothing else is due
abbrev pub due_end : Progress → Option Progress
due_end p = cond (not (is_none p.inputs) && has_values p && (p.next_register == p.sources)) (Some p) None

-- ---- all parts

-- what is known after a part with this head and form and these last words; none where it isn't due
unfoldable pub due_by : Progress → Kind → Kind → List ℕ → List ℕ → List ℕ → List ℕ → Option Progress
due_by p kind.Name form fourth third second last = due_name p last
due_by p kind.Input form fourth third second last = due_input p last (width_of third second)
due_by p kind.Output form fourth third second last = due_output p last (width_of third second)
due_by p kind.Reg form fourth third second last = due_register p last (width_of third second)
due_by p kind.Wire form fourth third second last = due_wire p last (width_of third second)
due_by p kind.Assign form fourth third second last = due_assignment p form fourth third second last
due_by p kind.Always form fourth third second last = due_update p third second last
due_by p kind.Endmodule form fourth third second last = due_end p
due_by p _ form fourth third second last = None

-- what is known after a part of a text; none where it is not due
unfoldable pub due : List ℕ → Progress → Part → Option Progress
due text p part =
    due_by p part.head.kind part.form (token_bytes text part.fourth) (token_bytes text part.third)
    (token_bytes text part.second) (token_bytes text part.last)

-- before the first part
abbrev pub at_first : Progress
at_first = record {
  clocked = false;
  name = None;
  inputs = [];
  declared = [];
  widths = [];
  sources = 0;
  next_register = 0;
  next_cell = 0;
  regs = [];
  cells = [];
  outputs = [];
}
