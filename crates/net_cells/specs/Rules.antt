-- Which netlists are well formed.
use Rattle.std.specs.Prelude.{◌≡◌, ◌≢◌, ℕ, ◌+◌, ◌-◌, ◌^◌, ◌<◌, ◌≤◌, IsTrue, List, ◌++◌, length, map, drop, slice_index, slice_get, Some, All, AllPairs, nat_eq, codes}
use Rattle.std.specs.List.{starts_with}
use Rattle.dip_sets.specs.Names.{is_name}
use Rattle.net_cells.specs.declared.netlist.Port.{Port}
use Rattle.net_cells.specs.declared.netlist.Reg.{Reg}
use Rattle.net_cells.specs.declared.netlist.Cell.{Cell}
use Rattle.net_cells.specs.declared.netlist.OutPort.{OutPort}
use Rattle.net_cells.specs.declared.netlist.CellOp.{CellOp}
use Rattle.net_cells.specs.declared.netlist.CellOp.TheVariants.{Const, Not, And, Or, Xor, Add, Sub, Eq, Less, Mux, Concat, Select}
use Rattle.net_cells.specs.declared.netlist.Netlist.{Netlist}

-- the widths of all nets, in the order of their numbers: inputs, registers, cells
abbrev pub widths : Netlist → List ℕ
widths n =
    map (λ (p : Port). p.width) n.inputs ++ map (λ (r : Reg). r.width) n.regs ++ map (λ (c : Cell). c.width) n.cells

-- the number of the first cell's net
abbrev pub sources : Netlist → ℕ
sources n = length n.inputs + length n.regs

-- a width that a net may have: 1 to 64 bits
abbrev pub IsWidth : ℕ → Type 0
IsWidth width = (1 ≤ width) × (width ≤ 64)

-- among nets of these widths, the net exists
abbrev pub IsNet : List ℕ → ℕ → Type 0
IsNet ws net = net < length ws

-- its width
abbrev pub width_at : List ℕ → ℕ → ℕ
width_at ws net = slice_index ws net

-- the net exists and has this width
abbrev pub HasWidth : List ℕ → ℕ → ℕ → Type 0
HasWidth ws net width = IsNet ws net × (width_at ws net ≡ width)

-- both nets exist and have one width
abbrev pub HaveOneWidth : List ℕ → ℕ → ℕ → Type 0
HaveOneWidth ws x y = IsNet ws x × IsNet ws y × (width_at ws x ≡ width_at ws y)

-- both nets exist and have this width
abbrev pub HaveWidth : List ℕ → ℕ → ℕ → ℕ → Type 0
HaveWidth ws x y width = HasWidth ws x width × HasWidth ws y width

-- the rule of a cell of so many bits
abbrev pub IsCell : List ℕ → ℕ → CellOp → Type 0
IsCell ws width (Const value) = value < 2 ^ width
IsCell ws width (Not x) = HasWidth ws x width
IsCell ws width (And x y) = HaveWidth ws x y width
IsCell ws width (Or x y) = HaveWidth ws x y width
IsCell ws width (Xor x y) = HaveWidth ws x y width
IsCell ws width (Add x y) = HaveWidth ws x y width
IsCell ws width (Sub x y) = HaveWidth ws x y width
IsCell ws width (Eq x y) = (width ≡ 1) × HaveOneWidth ws x y
IsCell ws width (Less x y) = (width ≡ 1) × HaveOneWidth ws x y
IsCell ws width (Mux c x y) = HasWidth ws c 1 × HaveWidth ws x y width
IsCell ws width (Concat x y) = IsNet ws x × IsNet ws y × (width_at ws x + width_at ws y ≡ width)
IsCell ws width (Select x hi lo) = IsNet ws x × (hi < width_at ws x) × (lo ≤ hi) × (width ≡ hi - lo + 1)

-- a name of at least 3 bytes that begins with these
abbrev pub IsNamed : List ℕ → List ℕ → Type 0
IsNamed front name = IsTrue (starts_with nat_eq name front) × (3 ≤ length name) × IsTrue (is_name name)

-- the names of all ports, the inputs' before the outputs'
abbrev pub port_names : Netlist → List (List ℕ)
port_names n = map (λ (p : Port). p.name) n.inputs ++ map (λ (o : OutPort). o.name) n.outputs

-- A netlist is well formed: its name, its ports and their names, how many nets there are, their widths, and what each
-- register, cell and output names.
pub record IsWellFormed (n : Netlist) : Type 0 where
  pub name : IsNamed (codes "m_") n.name
  pub reset : slice_get n.inputs 0 ≡ Some (record { name = codes "reset"; width = 1 })
  pub inputs : All (λ (p : Port). IsNamed (codes "p_") p.name) (drop 1 n.inputs)
  pub outputs : All (λ (o : OutPort). IsNamed (codes "p_") o.name) n.outputs
  pub distinct : AllPairs (λ a b. a ≢ b) (port_names n)
  pub few : length (widths n) < 2 ^ 64
  pub sized : All IsWidth (widths n)
  pub registers : All (λ (r : Reg). HasWidth (widths n) r.next r.width) n.regs
  pub cells : All (λ (c : Cell). IsCell (widths n) c.width c.op) n.cells
  pub shown : All (λ (o : OutPort). IsNet (widths n) o.net) n.outputs
