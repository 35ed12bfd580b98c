-- A builder, seen from outside.
use Rattle.std.specs.Prelude.{◌≡◌, ◌≢◌, ℕ, ◌+◌, Bool, cond, true, false, ◌&&◌, is_none, List, [], ◌∷◌, ◌++◌, map, All, Contains, codes, Option, Some, None, slice_get}
use Rattle.std.specs.List.{filter_map}
use Rattle.net_cells.specs.declared.netlist.Port.{Port}
use Rattle.net_cells.specs.declared.netlist.OutPort.{OutPort}
use Rattle.net_cells.specs.Rules.{HasWidth, IsNamed, IsWidth}
use Rattle.net_build.specs.declared.types.Kind.{Kind}
use Rattle.net_build.specs.declared.types.Kind.TheVariants.{Input, Register, Gate}
use Rattle.net_build.specs.declared.types.Item.{Item}
use Rattle.net_build.specs.declared.types.Made.{Made}
use Rattle.net_build.specs.declared.types.Wire.{Wire}

-- its name, its wires in the order of making, and its outputs, which name wires
pub record Built : Type 0 where
  pub name : List ℕ
  pub made : List Made
  pub outputs : List OutPort

-- its wires, without what is put before registers
abbrev pub items : Built → List Item
items b = map (λ (m : Made). m.item) b.made

-- their widths
abbrev pub widths_of : List Item → List ℕ
widths_of is = map (λ (i : Item). i.width) is

-- the widths of a builder's wires
abbrev pub wire_widths : Built → List ℕ
wire_widths b = widths_of (items b)

-- the port of an input
abbrev pub port_of_kind : ℕ → Kind → Option Port
port_of_kind width (Input name) = Some (record { name = name; width = width })
port_of_kind width Register = None
port_of_kind width (Gate op) = None

-- the port of an item that is an input
abbrev pub port_of : Item → Option Port
port_of i = port_of_kind i.width i.kind

-- the inputs, in the order of making
abbrev pub inputs : Built → List Port
inputs b = filter_map port_of (items b)

-- the names of all ports, the inputs' before the outputs'
abbrev pub names : Built → List (List ℕ)
names b = map (λ (p : Port). p.name) (inputs b) ++ map (λ (o : OutPort). o.name) b.outputs

-- whether an item of this kind is a register
abbrev pub is_register : Kind → Bool
is_register (Input name) = false
is_register Register = true
is_register (Gate op) = false

-- the numbers of the items that pass a test, counted from a first number
abbrev pub numbers_where : {A : Type 0} → (A → Bool) → ℕ → List A → List ℕ
numbers_where test from [] = []
numbers_where test from (x ∷ xs) =
    cond (test x) (from ∷ numbers_where test (from + 1) xs) (numbers_where test (from + 1) xs)

-- whether a wire is a register that isn't driven yet
abbrev pub is_undriven : Made → Bool
is_undriven m = is_register m.item.kind && is_none m.next

-- the numbers of a builder's registers that aren't driven yet
abbrev pub undriven : Built → List ℕ
undriven b = numbers_where is_undriven 0 b.made

-- a wire of the builder
pub record IsWire (b : Built) (w : Wire) : Type 0 where
  pub has : HasWidth (wire_widths b) w.number w.width
  pub sized : IsWidth w.width

-- a wire of one bit
pub record IsBit (b : Built) (w : Wire) : Type 0 where
  pub wire : IsWire b w
  pub one : w.width ≡ 1

-- the wire of the input with this name
pub record IsInput (b : Built) (w : Wire) (name : List ℕ) : Type 0 where
  pub at : slice_get (items b) w.number ≡ Some (record { width = w.width; kind = Input name })

-- a register of the builder
pub record IsRegister (b : Built) (w : Wire) : Type 0 where
  pub at : slice_get (items b) w.number ≡ Some (record { width = w.width; kind = Register })

-- a register of the builder that isn't driven yet
pub record IsUndriven (b : Built) (w : Wire) : Type 0 where
  pub register : IsRegister b w
  pub waits : Contains (undriven b) w.number

-- a name that the builder may give to a further port
pub record IsNewName (b : Built) (name : List ℕ) : Type 0 where
  pub named : IsNamed (codes "p_") name
  pub unused : All (λ x. x ≢ name) (names b)

-- a builder as it begins: with the input `reset` alone
abbrev pub begun : List ℕ → Built
begun name = record {
  name = name;
  made = record { item = record { width = 1; kind = Input (codes "reset") }; next = None } ∷ [];
  outputs = [];
}
