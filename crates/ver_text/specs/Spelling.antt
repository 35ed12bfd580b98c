-- How a netlist is written: the tokens of its text in order, and what stands behind each in the printed layout.
use Rattle.std.specs.Prelude.{ℕ, ◌+◌, ◌-◌, List, [], ◌∷◌, ◌++◌, codes, decimal, nat_lt, cond, Option, Some, None, slice_get, slice_index, length}
use Rattle.net_cells.specs.declared.netlist.Port.{Port}
use Rattle.net_cells.specs.declared.netlist.Reg.{Reg}
use Rattle.net_cells.specs.declared.netlist.Cell.{Cell}
use Rattle.net_cells.specs.declared.netlist.OutPort.{OutPort}
use Rattle.net_cells.specs.declared.netlist.CellOp.{CellOp}
use Rattle.net_cells.specs.declared.netlist.CellOp.TheVariants.{Const, Not, And, Or, Xor, Add, Sub, Eq, Less, Mux, Concat, Select}
use Rattle.net_cells.specs.declared.netlist.Netlist.{Netlist}
use Rattle.net_cells.specs.Rules.{widths, sources}
use Rattle.ver_text.specs.declared.kind.Kind.{Kind}
use Rattle.ver_text.specs.declared.kind.Kind.TheVariants as kind
use Rattle.ver_text.specs.Kinds.{is_word}
use Rattle.ver_text.specs.Numerals.{literal}

-- keywords and other tokens that aren't names, numbers or literals
abbrev pub written_as : Kind → List ℕ
written_as kind.Module = codes "module"
written_as kind.Input = codes "input"
written_as kind.Output = codes "output"
written_as kind.Reg = codes "reg"
written_as kind.Wire = codes "wire"
written_as kind.Assign = codes "assign"
written_as kind.Always = codes "always"
written_as kind.Posedge = codes "posedge"
written_as kind.Endmodule = codes "endmodule"
written_as kind.OpenParen = codes "("
written_as kind.CloseParen = codes ")"
written_as kind.OpenBracket = codes "["
written_as kind.CloseBracket = codes "]"
written_as kind.OpenBrace = codes "{"
written_as kind.CloseBrace = codes "}"
written_as kind.Comma = codes ","
written_as kind.Semicolon = codes ";"
written_as kind.Colon = codes ":"
written_as kind.Becomes = codes "="
written_as kind.Question = codes "?"
written_as kind.At = codes "@"
written_as kind.Tilde = codes "~"
written_as kind.And = codes "&"
written_as kind.Or = codes "|"
written_as kind.Xor = codes "^"
written_as kind.Plus = codes "+"
written_as kind.Minus = codes "-"
written_as kind.Equal = codes "=="
written_as kind.Less = codes "<"
written_as kind.LessEqual = codes "<="
written_as _ = []

-- a token, and what stands between it and the next
pub record Piece : Type 0 where
  pub kind : Kind
  pub word : List ℕ
  pub gap : List ℕ

-- a token with nothing behind it
abbrev pub tight : Kind → Piece
tight kind = record { kind = kind; word = written_as kind; gap = [] }

-- a token with a space behind it
abbrev pub apart : Kind → Piece
apart kind = record { kind = kind; word = written_as kind; gap = codes " " }

-- a token with a line feed behind it
abbrev pub last : Kind → Piece
last kind = record { kind = kind; word = written_as kind; gap = codes "\n" }

-- a name, a number or a literal, with nothing behind it
abbrev pub tight_word : Kind → List ℕ → Piece
tight_word kind word = record { kind = kind; word = word; gap = [] }

-- a name with a space behind it
abbrev pub apart_name : List ℕ → Piece
apart_name word = record { kind = kind.Name; word = word; gap = codes " " }

-- a name with nothing behind it
abbrev pub tight_name : List ℕ → Piece
tight_name word = tight_word kind.Name word

-- a number with nothing behind it
abbrev pub tight_number : ℕ → Piece
tight_number number = tight_word kind.Number (decimal number)

-- the range of so many bits
abbrev pub range : ℕ → List Piece
range width =
    tight kind.OpenBracket ∷ tight_number (width - 1) ∷ tight kind.Colon ∷ tight_word kind.Number (codes "0")
    ∷ apart kind.CloseBracket ∷ []

-- a port: its direction, width and name
abbrev pub port_pieces : Kind → ℕ → List ℕ → List Piece
port_pieces direction width name = apart direction ∷ range width ++ tight_name name ∷ []

-- a register or the net of a cell: what it is, its width and name
abbrev pub net : Kind → ℕ → List ℕ → List Piece
net what width name = apart what ∷ range width ++ tight_name name ∷ last kind.Semicolon ∷ []

-- the name of the register with this number
abbrev pub register_name : ℕ → List ℕ
register_name number = codes "r" ++ decimal number

-- the name of the net of the cell with this number
abbrev pub cell_name : ℕ → List ℕ
cell_name number = codes "w" ++ decimal number

-- What a net is called that isn't an input, where so many nets aren't a cell's.
abbrev pub made_name : ℕ → ℕ → List ℕ
made_name sources number = cond (nat_lt number sources) (register_name number) (cell_name number)

-- What a net is called: an input by its port, a register by `r` and its number, a cell by `w` and its number.
abbrev pub name_in : Option Port → ℕ → ℕ → List ℕ
name_in (Some port) sources number = port.name
name_in None sources number = made_name sources number

-- the name of a net in the text
abbrev pub net_name : Netlist → ℕ → List ℕ
net_name n number = name_in (slice_get n.inputs number) (sources n) number

-- an operator between two nets
abbrev pub between : List ℕ → Kind → List ℕ → List Piece
between x operator y = apart_name x ∷ apart operator ∷ tight_name y ∷ []

-- the expression of a cell of so many bits
abbrev pub expression : Netlist → ℕ → CellOp → List Piece
expression n width (Const value) = tight_word kind.Literal (literal width value) ∷ []
expression n width (Not x) = tight kind.Tilde ∷ tight_name (net_name n x) ∷ []
expression n width (And x y) = between (net_name n x) kind.And (net_name n y)
expression n width (Or x y) = between (net_name n x) kind.Or (net_name n y)
expression n width (Xor x y) = between (net_name n x) kind.Xor (net_name n y)
expression n width (Add x y) = between (net_name n x) kind.Plus (net_name n y)
expression n width (Sub x y) = between (net_name n x) kind.Minus (net_name n y)
expression n width (Eq x y) = between (net_name n x) kind.Equal (net_name n y)
expression n width (Less x y) = between (net_name n x) kind.Less (net_name n y)
expression n width (Mux c x y) =
    apart_name (net_name n c) ∷ apart kind.Question ∷ apart_name (net_name n x) ∷ apart kind.Colon
    ∷ tight_name (net_name n y) ∷ []
expression n width (Concat x y) =
    tight kind.OpenBrace ∷ tight_name (net_name n x) ∷ apart kind.Comma ∷ tight_name (net_name n y)
    ∷ tight kind.CloseBrace ∷ []
expression n width (Select x hi lo) =
    tight_name (net_name n x) ∷ tight kind.OpenBracket ∷ tight_number hi ∷ tight kind.Colon ∷ tight_number lo
    ∷ tight kind.CloseBracket ∷ []

-- what a net is assigned
abbrev pub assignment : List ℕ → List Piece → List Piece
assignment name value = apart kind.Assign ∷ apart_name name ∷ apart kind.Becomes ∷ value ++ last kind.Semicolon ∷ []

-- a register takes the value of a net at each rising edge of the clock
unfoldable pub update : List ℕ → List ℕ → List Piece
update register next =
    apart kind.Always ∷ tight kind.At ∷ tight kind.OpenParen ∷ apart kind.Posedge ∷ tight_name (codes "clock")
    ∷ apart kind.CloseParen
    ∷ apart_name register ∷ apart kind.LessEqual ∷ tight_name next ∷ last kind.Semicolon ∷ []

-- ---- the parts of a netlist's text: each list of them in the order of ports, nets or outputs

-- the module's name, and the clock
abbrev pub heading : List ℕ → List Piece
heading name = apart kind.Module ∷ tight_name name ∷ tight kind.OpenParen ∷ port_pieces kind.Input 1 (codes "clock")

-- the inputs
abbrev pub input_parts : List Port → List (List Piece)
input_parts [] = []
input_parts (p ∷ ps) = (apart kind.Comma ∷ port_pieces kind.Input p.width p.name) ∷ input_parts ps

-- the outputs, each with the width of its net
abbrev pub output_parts : List ℕ → List OutPort → List (List Piece)
output_parts ws [] = []
output_parts ws (o ∷ os) =
    (apart kind.Comma ∷ port_pieces kind.Output (slice_index ws o.net) o.name) ∷ output_parts ws os

-- the registers, numbered from a first one on
abbrev pub registers : ℕ → List Reg → List (List Piece)
registers number [] = []
registers number (r ∷ rs) = net kind.Reg r.width (register_name number) ∷ registers (number + 1) rs

-- the cells' nets, numbered from a first one on
abbrev pub wires : ℕ → List Cell → List (List Piece)
wires number [] = []
wires number (c ∷ cs) = net kind.Wire c.width (cell_name number) ∷ wires (number + 1) cs

-- the values of the cells, numbered from a first one on
abbrev pub cell_values : Netlist → ℕ → List Cell → List (List Piece)
cell_values n number [] = []
cell_values n number (c ∷ cs) =
    assignment (cell_name number) (expression n c.width c.op) ∷ cell_values n (number + 1) cs

-- the nets of the outputs
abbrev pub output_values : Netlist → List OutPort → List (List Piece)
output_values n [] = []
output_values n (o ∷ os) = assignment o.name (tight_name (net_name n o.net) ∷ []) ∷ output_values n os

-- the next nets of the registers, numbered from a first one on
abbrev pub updates : Netlist → ℕ → List Reg → List (List Piece)
updates n number [] = []
updates n number (r ∷ rs) = update (register_name number) (net_name n r.next) ∷ updates n (number + 1) rs

-- the parts before the items, in groups
unfoldable pub header : Netlist → List (List (List Piece))
header n =
    (heading n.name ∷ []) ∷ input_parts n.inputs ∷ output_parts (widths n) n.outputs ∷
    ((tight kind.CloseParen ∷ last kind.Semicolon ∷ []) ∷ []) ∷ []

-- the items that say which registers and cells there are
unfoldable pub declarations : Netlist → List (List (List Piece))
declarations n = registers (length n.inputs) n.regs ∷ wires (sources n) n.cells ∷ []

-- the items that say what values nets have, and the end
unfoldable pub values : Netlist → List (List (List Piece))
values n =
    cell_values n (sources n) n.cells ∷ output_values n n.outputs ∷ updates n (length n.inputs) n.regs
    ∷ ((last kind.Endmodule ∷ []) ∷ []) ∷ []

-- the bytes of pieces
abbrev pub laid : List Piece → List ℕ
laid [] = []
laid (p ∷ ps) = p.word ++ (p.gap ++ laid ps)

-- the bytes of parts
abbrev pub lines : List (List Piece) → List ℕ
lines [] = []
lines (part ∷ parts) = laid part ++ lines parts

-- the bytes of groups of parts
abbrev pub group_lines : List (List (List Piece)) → List ℕ
group_lines [] = []
group_lines (group ∷ more) = lines group ++ group_lines more

-- What a token says: what it is, and of names, numbers and literals their bytes.
pub record Sign : Type 0 where
  pub kind : Kind
  pub word : List ℕ

-- what a token of this kind and these bytes says
abbrev pub sign : Kind → List ℕ → Sign
sign kind word = record { kind = kind; word = cond (is_word kind) word [] }

-- the tokens of pieces
abbrev pub signs : List Piece → List Sign
signs [] = []
signs (p ∷ ps) = sign p.kind p.word ∷ signs ps

-- the tokens of parts
abbrev pub part_signs : List (List Piece) → List Sign
part_signs [] = []
part_signs (part ∷ parts) = signs part ++ part_signs parts

-- the tokens of groups of parts
abbrev pub all_signs : List (List (List Piece)) → List Sign
all_signs [] = []
all_signs (group ∷ more) = part_signs group ++ all_signs more

-- the printed text of a netlist
unfoldable pub layout : Netlist → List ℕ
layout n = group_lines (header n) ++ group_lines (declarations n) ++ group_lines (values n)

-- the tokens of a netlist's text
unfoldable pub spelling : Netlist → List Sign
spelling n = all_signs (header n) ++ all_signs (declarations n) ++ all_signs (values n)
