-- What each builder keeps, so that its netlist is well formed.
use Rattle.std.specs.Prelude.{◌≡◌, ◌≢◌, ℕ, List, [], ◌∷◌, take, drop, ◌++◌, Some, None, slice_get, codes}
use Rattle.std.specs.List.{AllByRecursion}
use Rattle.net_cells.specs.declared.netlist.CellOp.{CellOp}
use Rattle.net_cells.specs.declared.netlist.Port.{Port}
use Rattle.net_cells.specs.declared.netlist.OutPort.{OutPort}
use Rattle.net_cells.specs.Rules.{HasWidth, IsCell, IsNamed, IsNet, IsWidth}
use Rattle.net_build.specs.declared.types.Kind.{Kind}
use Rattle.net_build.specs.declared.types.Kind.TheVariants.{Input, Register, Gate}
use Rattle.net_build.specs.declared.types.Item.{Item}
use Rattle.net_build.specs.declared.types.Made.{Made}
use Rattle.net_build.specs.Built.{Built, items, inputs, names, wire_widths, IsNewName}
use Rattle.net_build.specs.Values.{Solves, Ticks}

-- all differ
abbrev pub Differ : List (List ℕ) → Type 0
Differ [] = Unit {0}
Differ (x ∷ xs) = AllByRecursion (λ y. x ≢ y) xs × Differ xs

-- Its name and ports have the names that a netlist asks for, wire 0 is the input `reset`, each wire has a width that
-- a net may have, each operator reads earlier wires by its rule, and what is put before a register has its width and
-- is 0 after a reset.
pub record IsWellBuilt (b : Built) : Type 0 where
  pub name : IsNamed (codes "m_") b.name
  pub reset : slice_get (items b) 0 ≡ Some (record { width = 1; kind = Input (codes "reset") })
  pub sized : AllByRecursion IsWidth (wire_widths b)
  pub gates : (n : ℕ) (i : Item) (op : CellOp) → slice_get (items b) n ≡ Some i → i.kind ≡ Gate op
      → IsCell (take n (wire_widths b)) i.width op
  pub nexts : (n : ℕ) (m : Made) (d : ℕ) → slice_get b.made n ≡ Some m → m.next ≡ Some d
      → HasWidth (wire_widths b) d m.item.width
  pub held : (n : ℕ) (m : Made) (d : ℕ) → slice_get b.made n ≡ Some m → m.next ≡ Some d → m.item.kind ≡ Register
  pub resets : (n : ℕ) (m : Made) (d : ℕ) → slice_get b.made n ≡ Some m → m.next ≡ Some d → (v : ℕ → ℕ) → Solves b v
      → v 0 ≡ 1 → v d ≡ 0
  pub ports : AllByRecursion (λ (p : Port). IsNamed (codes "p_") p.name) (drop 1 (inputs b))
  pub shown : AllByRecursion (λ (o : OutPort). IsNamed (codes "p_") o.name × IsNet (wire_widths b) o.net) b.outputs
  pub distinct : Differ (names b)

-- What a further wire of so many bits has to meet.
abbrev pub Follows : Built → ℕ → Kind → Type 0
Follows b width (Input name) = IsNewName b name
Follows b width Register = Unit {0}
Follows b width (Gate op) = IsCell (wire_widths b) width op

-- one more wire, and nothing else
pub record Makes (old new : Built) (item : Item) : Type 0 where
  pub name : new.name ≡ old.name
  pub made : new.made ≡ old.made ++ record { item = item; next = None } ∷ []
  pub outputs : new.outputs ≡ old.outputs

-- a wire that is 0 where the reset is 1
pub record IsLowInReset (b : Built) (wire : ℕ) : Type 0 where
  pub low : (v : ℕ → ℕ) → Solves b v → v 0 ≡ 1 → v wire ≡ 0

-- a wire is put before a register
pub record HasNext (b : Built) (register wire : ℕ) : Type 0 where
  pub next : (v u : ℕ → ℕ) → Ticks b v u → u register ≡ v wire
