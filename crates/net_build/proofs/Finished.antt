-- The netlist of a finished builder: it is well formed, has no loop, and carries each wire's value.
use Rattle.std.proofs.Common.{◌≡◌, ◌≢◌, ℕ, zero, suc, ◌+◌, ◌^◌, ◌<◌, ◌≤◌, inl, inr, false, ◌&&◌, cond, List, [], ◌∷◌, ◌++◌, length, map, take, get_or, Option, Some, None, is_none, refl, sym, ap, ◌∙◌, subst, arith}
use Rattle.std.specs.Prelude.{slice_get, slice_index, codes, All, AllPairs}
use Rattle.std.specs.List.{AllByRecursion, filter_map}
use Rattle.std.proofs.lemmas.List.{length-append, length-map, length-take, get_or_append_left, get_or_past}
use Rattle.std.proofs.lemmas.List.Elements.{All-map}
use Rattle.std.proofs.lemmas.List.Kept.{AllPairs-cons}
use Rattle.std.proofs.lemmas.Option.{slice_get_within, slice_get_cases, slice_get_past, get_or_from_slice_get}
use Rattle.std.proofs.lemmas.Bool.{cases_lt}
use Rattle.std.proofs.Math.Path.{fun_ext}
use Rattle.net_cells.specs.declared.netlist.CellOp.{CellOp}
use Rattle.net_cells.specs.declared.netlist.Cell.{Cell}
use Rattle.net_cells.specs.declared.netlist.OutPort.{OutPort}
use Rattle.net_cells.specs.declared.netlist.Port.{Port}
use Rattle.net_cells.specs.declared.netlist.Reg.{Reg}
use Rattle.net_cells.specs.declared.netlist.Netlist.{Netlist}
use Rattle.net_cells.specs.Rules.{HasWidth, IsCell, IsNamed, IsNet, IsWellFormed, IsWidth, sources, widths, width_at}
use Rattle.net_cells.specs.Values.{AreValues, op_value}
use Rattle.net_cells.specs.Loops.{HasNoLoop, IsPath, Reads, operands}
use Rattle.net_cells.proofs.Cycles.{many}
use Rattle.net_cells.proofs.Nets.{sized}
use Rattle.net_cells.proofs.Operators.{exist, pick}
use Rattle.net_build.specs.declared.types.Kind.{Kind}
use Rattle.net_build.specs.declared.types.Kind.TheVariants.{Input, Register, Gate}
use Rattle.net_build.specs.declared.types.Item.{Item}
use Rattle.net_build.specs.declared.types.Made.{Made}
use Rattle.net_build.specs.declared.types.Wire.{Wire}
use Rattle.net_build.specs.Built.{Built, inputs, is_register, is_undriven, items, names, port_of, port_of_kind, undriven, wire_widths, IsInput}
use Rattle.net_build.specs.Values.{HasInputs, Solves}
use Rattle.net_build.specs.Sound.{Differ, IsWellBuilt}
use Rattle.net_build.specs.Numbering.{AreNets, Resets, KeepsValues, netlist_by, at_wires, cell_of, cell_of_kind, wire_counts, finished, is_gate, is_input, net_among, net_at, net_of, next_of, out_of, reg_of, reg_of_kind, renamed}
use Rattle.net_build.proofs.Cells.{cell_whole}
use Rattle.net_build.proofs.Lists.{all_weaker}
use Rattle.net_build.proofs.Places.{all_picked, get_behind, get_mapped, none_passes, row_picked, placed, count_cons}
use Rattle.net_build.proofs.Nets.{inputs_picked, cell_here, gate_test, gates_in, input_test, inputs_in, keeps_widths, many_cells, many_inputs, many_sources, mapped, net_below, reg_here, reg_test, regs_in}
use Rattle.net_build.proofs.Renamed.{operands_renamed, rule_renamed, value_renamed}

-- what a wire gives to the netlist
port_gives : (width : ℕ) (k : Kind) (p : Port) → port_of_kind width k ≡ Some p → p.width ≡ width
port_gives width (Input name) p e = let f : record { name = name; width = width } ≡ p = cc in sym (ap (λ (p : Port). p.width) f)
port_gives width Register p e = absurd cc
port_gives width (Gate op) p e = absurd cc

record GivesReg (r : ℕ → ℕ) (width : ℕ) (next : Option ℕ) (k : Kind) (y : Reg) : Type 0 where
  kind : k ≡ Register
  is : y ≡ record { width = width; next = next_of r next }

reg_gives : (r : ℕ → ℕ) (width : ℕ) (next : Option ℕ) (k : Kind) (y : Reg) → reg_of_kind r width next k ≡ Some y → GivesReg r width next k y
reg_gives r width next (Input name) y e = absurd cc
reg_gives r width next Register y e = record { kind = refl; is = cc }
reg_gives r width next (Gate op) y e = absurd cc

record GivesCell (r : ℕ → ℕ) (width : ℕ) (k : Kind) (y : Cell) : Type 0 where
  op : CellOp
  kind : k ≡ Gate op
  is : y ≡ record { width = width; op = renamed r op }

cell_gives : (r : ℕ → ℕ) (width : ℕ) (k : Kind) (y : Cell) → cell_of_kind r width k ≡ Some y → GivesCell r width k y
cell_gives r width (Input name) y e = absurd cc
cell_gives r width Register y e = absurd cc
cell_gives r width (Gate op) y e = record { op = op; kind = refl; is = cc }

-- lists by places and by recursion
indexed : {A : Type 0} (P : A → Type 0) (xs : List A) → AllByRecursion P xs → All P xs
indexed P [] h k d b = absurd (omega arith)
indexed P (x ∷ xs) h zero d b = h.0
indexed P (x ∷ xs) h (suc k) d b = indexed P xs h.1 k d (omega arith)

at_place : {A : Type 0} (P : A → Type 0) (xs : List A) → AllByRecursion P xs → (k : ℕ) (x : A) → slice_get xs k ≡ Some x → P x
at_place P [] h k x e = absurd cc
at_place P (y ∷ xs) h zero x e = subst P (let f : y ≡ x = cc in f) h.0
at_place P (y ∷ xs) h (suc k) x e = at_place P xs h.1 k x e

pairs : (xs : List (List ℕ)) → Differ xs → AllPairs (λ x y. x ≢ y) xs
pairs [] d = λ i j e o b. absurd (omega arith)
pairs (x ∷ xs) d = AllPairs-cons (λ x y. x ≢ y) x xs (indexed (λ y. x ≢ y) xs d.0) (pairs xs d.1)

shown_names : (r : ℕ → ℕ) (os : List OutPort) → map (λ (o : OutPort). o.name) (map (out_of r) os) ≡ map (λ (o : OutPort). o.name) os
shown_names r [] = refl
shown_names r (o ∷ os) = ap (λ x. o.name ∷ x) (shown_names r os)

kinds : (k : Kind) → cond (is_input k) 1 0 + cond (is_register k) 1 0 + cond (is_gate k) 1 0 ≡ 1
kinds (Input name) = refl
kinds Register = refl
kinds (Gate op) = refl

-- each wire has one net
all_kinds : (ms : List Made) → inputs_in ms + regs_in ms + gates_in ms ≡ length ms
all_kinds [] = refl
all_kinds (m ∷ ms) = omega (arith, kinds m.item.kind, all_kinds ms, count_cons (λ (m : Made). is_input m.item.kind) m ms, count_cons (λ (m : Made). is_register m.item.kind) m ms, count_cons (λ (m : Made). is_gate m.item.kind) m ms)

pub many_nets : (b : Built) → length (widths (finished b)) ≡ length b.made
many_nets b = omega (arith, many (finished b), many_sources b, many_cells (net_of b.made) b.made, all_kinds b.made)

-- the rule of a gate among all wires
gate_rule : (b : Built) → IsWellBuilt b → (w : ℕ) (m : Made) (op : CellOp) → slice_get b.made w ≡ Some m → m.item.kind ≡ Gate op → IsCell (take w (wire_widths b)) m.item.width op
gate_rule b s w m op e f = s.gates w m.item op (get_mapped (λ (m : Made). m.item) b.made w m e) f

is_driven : (m : Made) → m.item.kind ≡ Register → is_undriven m ≡ false → is_none m.next ≡ false
is_driven m e f = ap (λ (k : Kind). is_register k && is_none m.next) (sym e) ∙ f

record DrivenBy (next : Option ℕ) : Type 0 where
  wire : ℕ
  is : next ≡ Some wire

driven_by : (next : Option ℕ) → is_none next ≡ false → DrivenBy next
driven_by None e = absurd cc
driven_by (Some d) e = record { wire = d; is = refl }

reg_rule : (b : Built) → IsWellBuilt b → undriven b ≡ [] → (w : ℕ) (m : Made) (y : Reg) → slice_get b.made w ≡ Some m → reg_of (net_of b.made) m ≡ Some y → HasWidth (widths (finished b)) y.next y.width
reg_rule b s u w m y e f =
    let g = reg_gives (net_of b.made) m.item.width m.next m.item.kind y f in
    let d = driven_by m.next (is_driven m g.kind (none_passes is_undriven 0 b.made u w m e)) in
    let h = keeps_widths b d.wire m.item.width (s.nexts w m d.wire e d.is) in
    subst (λ (y : Reg). HasWidth (widths (finished b)) y.next y.width) (sym g.is)
    (subst (λ n. HasWidth (widths (finished b)) n m.item.width) (sym (ap (next_of (net_of b.made)) d.is)) h)

cell_rule : (b : Built) → IsWellBuilt b → (w : ℕ) (m : Made) (y : Cell) → slice_get b.made w ≡ Some m → cell_of (net_of b.made) m ≡ Some y → IsCell (widths (finished b)) y.width y.op
cell_rule b s w m y e f =
    let g = cell_gives (net_of b.made) m.item.width m.item.kind y f in
    let h = rule_renamed (wire_widths b) (widths (finished b)) (net_of b.made) (keeps_widths b) m.item.width g.op (cell_whole (wire_widths b) w m.item.width g.op (gate_rule b s w m g.op e g.kind)) in
    subst (λ (y : Cell). IsCell (widths (finished b)) y.width y.op) (sym g.is) h

wire_sized : (b : Built) → IsWellBuilt b → (w : ℕ) (m : Made) → slice_get b.made w ≡ Some m → IsWidth m.item.width
wire_sized b s w m e = at_place IsWidth (wire_widths b) s.sized w m.item.width (get_mapped (λ (i : Item). i.width) (items b) w m.item (get_mapped (λ (m : Made). m.item) b.made w m e))

item_sized : (b : Built) → IsWellBuilt b → (w : ℕ) (i : Item) → slice_get (items b) w ≡ Some i → IsWidth i.width
item_sized b s w i e = at_place IsWidth (wire_widths b) s.sized w i.width (get_mapped (λ (i : Item). i.width) (items b) w i e)

all_sized : (b : Built) → IsWellBuilt b → All IsWidth (widths (finished b))
all_sized b s =
    let r = net_of b.made in
    sized (finished b)
    (all_picked port_of (λ (i : Item). is_input i.kind) (λ (p : Port). IsWidth p.width) (λ i. input_test i.width i.kind) (items b) (λ w i p e f. subst IsWidth (sym (port_gives i.width i.kind p f)) (item_sized b s w i e)))
    (all_picked (reg_of r) (λ (m : Made). is_register m.item.kind) (λ (y : Reg). IsWidth y.width) (λ m. reg_test r m.item.width m.next m.item.kind) b.made (λ w m y e f. subst (λ (y : Reg). IsWidth y.width) (sym (reg_gives r m.item.width m.next m.item.kind y f).is) (wire_sized b s w m e)))
    (all_picked (cell_of r) (λ (m : Made). is_gate m.item.kind) (λ (y : Cell). IsWidth y.width) (λ m. gate_test r m.item.width m.item.kind) b.made (λ w m y e f. subst (λ (y : Cell). IsWidth y.width) (sym (cell_gives r m.item.width m.item.kind y f).is) (wire_sized b s w m e)))

pub well : (b : Built) → IsWellBuilt b → undriven b ≡ [] → length b.made < 2 ^ 64 → IsWellFormed (finished b)
well b s u few =
    let r = net_of b.made in
    record {
      name = s.name;
      reset = placed port_of (λ (i : Item). is_input i.kind) (λ i. input_test i.width i.kind) (items b) 0 _ _ s.reset refl;
      inputs = indexed _ _ s.ports;
      outputs = All-map (λ (o : OutPort). IsNamed (codes "p_") o.name) (out_of r) b.outputs (indexed _ _ (all_weaker _ (λ (o : OutPort). IsNamed (codes "p_") o.name) b.outputs (λ o h. h.0) s.shown));
      distinct = subst (AllPairs (λ x y. x ≢ y)) (ap (λ x. map (λ (p : Port). p.name) (inputs b) ++ x) (sym (shown_names r b.outputs))) (pairs (names b) s.distinct);
      few = omega (arith, many_nets b);
      sized = all_sized b s;
      registers = all_picked (reg_of r) (λ (m : Made). is_register m.item.kind) (λ (y : Reg). HasWidth (widths (finished b)) y.next y.width) (λ m. reg_test r m.item.width m.next m.item.kind) b.made (λ w m y e f. reg_rule b s u w m y e f);
      cells = all_picked (cell_of r) (λ (m : Made). is_gate m.item.kind) (λ (y : Cell). IsCell (widths (finished b)) y.width y.op) (λ m. gate_test r m.item.width m.item.kind) b.made (λ w m y e f. cell_rule b s w m y e f);
      shown = All-map (λ (o : OutPort). IsNet (widths (finished b)) o.net) (out_of r) b.outputs (indexed _ _ (all_weaker _ (λ (o : OutPort). IsNet (widths (finished b)) (r o.net)) b.outputs (λ o h. (keeps_widths b o.net (width_at (wire_widths b) o.net) (h.1, refl)).0) s.shown));
    }

long : (b : Built) → length (wire_widths b) ≡ length b.made
long b = length-map (items b) (λ (i : Item). i.width) ∙ length-map b.made (λ (m : Made). m.item)

record WireAt (b : Built) (w : ℕ) : Type 0 where
  made : Made
  is : slice_get b.made w ≡ Some made

wire_at : (b : Built) (w : ℕ) → w < length b.made → WireAt b w
wire_at b w h = elim ((slice_get_cases b.made w).1) [
  | inl x ↦ record { made = x.0; is = x.2 }
  | inr p ↦ absurd (omega (arith, p.0))
]

-- a cell reads nets below its own
reads_below : (b : Built) → IsWellBuilt b → (net other : ℕ) → Reads (finished b) net other → other < net
reads_below b s net other r =
    let ms = b.made in
    let q = row_picked (cell_of (net_of ms)) (λ (m : Made). is_gate m.item.kind) (λ m. gate_test (net_of ms) m.item.width m.item.kind) ms r.place r.cell r.is in
    let m = q.item in
    let g = cell_gives (net_of ms) m.item.width m.item.kind r.cell q.gives in
    let t : length (take q.place (wire_widths b)) ≤ q.place = omega (arith, length-take q.place (wire_widths b)) in
    let l : q.place < length ms = slice_get_within ms q.place m q.is in
    let e : AllByRecursion (λ x. x < length (take q.place (wire_widths b))) (operands g.op) = exist (take q.place (wire_widths b)) m.item.width g.op (gate_rule b s q.place m g.op q.is g.kind) in
    let low : (x : ℕ) → x < length (take q.place (wire_widths b)) → net_of ms x < net = λ x h.
    let w = wire_at b x (omega arith) in
    omega (arith, net_below b q.place x w.made w.is (omega arith) (omega arith), r.here, q.at, many_sources b) in
    let below : AllByRecursion (λ x. x < net) (operands (renamed (net_of ms) g.op)) = operands_renamed (λ x. x < net) (net_of ms) g.op (all_weaker (λ x. x < length (take q.place (wire_widths b))) (λ x. net_of ms x < net) (operands g.op) low e) in
    let same : AllByRecursion (λ x. x < net) (operands r.cell.op) = subst (λ (c : Cell). AllByRecursion (λ x. x < net) (operands c.op)) (sym g.is) below in
    pick (λ x. x < net) (operands r.cell.op) same other r.operand.0 r.operand.1 r.operand.2

path_below : (n : Netlist) → ((net other : ℕ) → Reads n net other → other < net) → (net : ℕ) (between : List ℕ) (last : ℕ) → IsPath n net between last → last < net
path_below n h net [] last p = h net last p
path_below n h net (x ∷ xs) last p =
    let a : x < net = h net x p.0 in
    let c : last < x = path_below n h x xs last p.1 in
    omega arith

pub no_loop : (b : Built) → IsWellBuilt b → HasNoLoop (finished b)
no_loop b s net d =
    let a : net < net = path_below (finished b) (reads_below b s) net d.0 net d.1 in
    omega arith

-- the net of a register, and of a gate
net_of_register : (b : Built) (w : ℕ) (m : Made) → slice_get b.made w ≡ Some m → m.item.kind ≡ Register → net_of b.made w ≡ inputs_in b.made + regs_in (take w b.made)
net_of_register b w m e f = ap (net_at b.made w) e ∙ ap (net_among (wire_counts b.made) (wire_counts (take w b.made))) f

net_of_gate : (b : Built) (w : ℕ) (m : Made) (op : CellOp) → slice_get b.made w ≡ Some m → m.item.kind ≡ Gate op → net_of b.made w ≡ sources (finished b) + gates_in (take w b.made)
net_of_gate b w m op e f =
    let g : net_of b.made w ≡ inputs_in b.made + regs_in b.made + gates_in (take w b.made) = ap (net_at b.made w) e ∙ ap (net_among (wire_counts b.made) (wire_counts (take w b.made))) f in
    g ∙ omega (arith, many_sources b)

gate_value : (b : Built) → IsWellBuilt b → (given : List ℕ) (v : ℕ → ℕ) → AreValues (finished b) given v → (w : ℕ) (m : Made) (op : CellOp) → slice_get b.made w ≡ Some m → m.item.kind ≡ Gate op → v (net_of b.made w) ≡ op_value (wire_widths b) m.item.width op (at_wires b v)
gate_value b s given v c w m op e f =
    let r = net_of b.made in
    let cell : Cell = record { width = m.item.width; op = renamed r op } in
    ap v (net_of_gate b w m op e f)
    ∙ c.cells (gates_in (take w b.made)) cell (cell_here b w m cell e (ap (cell_of_kind r m.item.width) f))
    ∙ value_renamed (wire_widths b) (widths (finished b)) r (keeps_widths b) m.item.width op v (cell_whole (wire_widths b) w m.item.width op (gate_rule b s w m op e f))

solved : (b : Built) → IsWellBuilt b → (given : List ℕ) (v : ℕ → ℕ) → AreValues (finished b) given v → Solves b (at_wires b v)
solved b s given v c = record {
  fits = λ w h.
      let k = keeps_widths b w (width_at (wire_widths b) w) (h, refl) in
      subst (λ x. v (net_of b.made w) < 2 ^ x) k.1 (c.fits (net_of b.made w) k.0);
  gates = λ w i op e f.
      let m = mapped (λ (m : Made). m.item) b.made w i e in
      gate_value b s given v c w m.item op m.is (ap (λ (i : Item). i.kind) m.gives ∙ f)
      ∙ ap (λ (i : Item). op_value (wire_widths b) i.width op (at_wires b v)) m.gives;
}

-- what a register's net is given
given_register : (b : Built) (ins : List ℕ) (f : Reg → ℕ) (v : ℕ → ℕ) → length ins ≡ length (inputs b) → AreValues (finished b) (ins ++ map f (finished b).regs) v → (w : ℕ) (m : Made) → slice_get b.made w ≡ Some m → m.item.kind ≡ Register → v (net_of b.made w) ≡ f (record { width = m.item.width; next = next_of (net_of b.made) m.next })
given_register b ins f v l c w m e k =
    let r = net_of b.made in
    let y : Reg = record { width = m.item.width; next = next_of r m.next } in
    let h = reg_here b w m y e (ap (reg_of_kind r m.item.width m.next) k) in
    let given = ins ++ map f (finished b).regs in
    let g : slice_get given (inputs_in b.made + regs_in (take w b.made)) ≡ Some (f y) = get_behind ins (map f (finished b).regs) (inputs_in b.made) _ _ (l ∙ many_inputs b) (get_mapped f (finished b).regs _ y h) in
    ap v (net_of_register b w m e k)
    ∙ c.given_ones (inputs_in b.made + regs_in (take w b.made)) (slice_get_within given _ (f y) g)
    ∙ get_or_from_slice_get given _ (f y) 0 g

-- the name of an input, among those of all ports
name_here : (b : Built) (k : ℕ) (d : List ℕ) (p : Port) → slice_get (inputs b) k ≡ Some p → get_or (names b) k d ≡ p.name
name_here b k d p e =
    let ns = map (λ (p : Port). p.name) (inputs b) in
    let f = get_mapped (λ (p : Port). p.name) (inputs b) k p e in
    get_or_append_left ns (map (λ (o : OutPort). o.name) b.outputs) d k (slice_get_within ns k p.name f) ∙ get_or_from_slice_get ns k p.name d f

name_within : (b : Built) (k : ℕ) (p : Port) → slice_get (inputs b) k ≡ Some p → k < length (names b)
name_within b k p e = omega (arith, slice_get_within (inputs b) k p e, length-map (inputs b) (λ (p : Port). p.name), length-append (map (λ (p : Port). p.name) (inputs b)) (map (λ (o : OutPort). o.name) b.outputs))

-- inputs of one name are one
same_place : (b : Built) → IsWellBuilt b → (k j : ℕ) (p q : Port) → slice_get (inputs b) k ≡ Some p → slice_get (inputs b) j ≡ Some q → p.name ≡ q.name → k ≡ j
same_place b s k j p q e f n =
    let h = pairs (names b) s.distinct in
    elim (cases_lt k j) [
      | inl l ↦ absurd (h k j [] l (name_within b j q f) (name_here b k [] p e ∙ n ∙ sym (name_here b j [] q f)))
      | inr g ↦ elim (cases_lt j k) [
        | inl l ↦ absurd (h j k [] l (name_within b k p e) (name_here b j [] q f ∙ sym n ∙ sym (name_here b k [] p e)))
        | inr i ↦ omega arith
      ]
    ]

-- an input's wire has the value that is given for it
given_input : (b : Built) → IsWellBuilt b → (ins regs : List ℕ) (v : ℕ → ℕ) → length ins ≡ length (inputs b) → AreValues (finished b) (ins ++ regs) v → (k : ℕ) (p : Port) (w : Wire) → slice_get (inputs b) k ≡ Some p → IsInput b w p.name → at_wires b v w.number ≡ slice_index ins k
given_input b s ins regs v l c k p w e f =
    let m = mapped (λ (m : Made). m.item) b.made w.number _ f.at in
    let j = inputs_in (take w.number b.made) in
    let q : Port = record { name = p.name; width = w.width } in
    let net : net_of b.made w.number ≡ j = ap (net_at b.made w.number) m.is ∙ ap (λ (i : Item). net_among (wire_counts b.made) (wire_counts (take w.number b.made)) i.kind) m.gives in
    let h : slice_get (inputs b) j ≡ Some q = ap (λ ps. slice_get ps j) (inputs_picked b) ∙ placed (λ (m : Made). port_of m.item) (λ (m : Made). is_input m.item.kind) (λ m. input_test m.item.width m.item.kind) b.made w.number m.item q m.is (ap port_of m.gives) in
    let same : k ≡ j = same_place b s k j p q e h refl in
    let r : j < length ins = omega (arith, l, slice_get_within (inputs b) j q h) in
    ap v net
    ∙ c.given_ones j (omega (arith, r, length-append ins regs))
    ∙ get_or_append_left ins regs 0 j r
    ∙ ap (slice_index ins) (sym same)

given_inputs : (b : Built) → IsWellBuilt b → (ins regs : List ℕ) (v : ℕ → ℕ) → length ins ≡ length (inputs b) → AreValues (finished b) (ins ++ regs) v → HasInputs b ins (at_wires b v)
given_inputs b s ins regs v l c =
    let p : Port = record { name = codes "reset"; width = 1 } in
    let e : slice_get (inputs b) 0 ≡ Some p = placed port_of (λ (i : Item). is_input i.kind) (λ i. input_test i.width i.kind) (items b) 0 _ _ s.reset refl in
    record {
      reset = given_input b s ins regs v l c 0 p (record { number = 0; width = 1 }) e (record { at = s.reset });
      each = given_input b s ins regs v l c;
    }

pub carried : (b : Built) → IsWellBuilt b → KeepsValues (finished b) b
carried b s = record {
  solves = solved b s;
  reads = given_inputs b s;
  starts = λ ins v l c. record {
    holds = λ w i e f.
        let m = mapped (λ (m : Made). m.item) b.made w i e in
        given_register b ins (λ (r : Reg). 0) v l c w m.item m.is (ap (λ (i : Item). i.kind) m.gives ∙ f);
  };
  ticks = λ ins v u l c. record {
    takes = λ w m d e f.
        given_register b ins (λ (r : Reg). v r.next) u l c w m e (s.held w m d e f)
        ∙ ap (λ o. v (next_of (net_of b.made) o)) f;
  };
}

same_nets : (ms : List Made) (nets : List ℕ) → AreNets ms nets → (w : ℕ) → slice_index nets w ≡ net_of ms w
same_nets ms nets h w = elim (cases_lt w (length ms)) [
  | inl s ↦ h.each w s
  | inr t ↦ get_or_past nets w 0 (let l = h.long in let z : length nets ≤ w = omega arith in z) ∙ sym (ap (net_at ms w) (slice_get_past ms w t))
]

same_parts : (n m : Netlist) → n.name ≡ m.name → n.inputs ≡ m.inputs → n.regs ≡ m.regs → n.cells ≡ m.cells → n.outputs ≡ m.outputs → n ≡ m
same_parts n m e f g h i = λ k. record { name = e k; inputs = f k; regs = g k; cells = h k; outputs = i k }

-- the parts of a netlist by a list of the nets
pub finished_by : (b : Built) (nets : List ℕ) (n : Netlist) → AreNets b.made nets → n.name ≡ b.name → n.inputs ≡ filter_map (λ (m : Made). port_of m.item) b.made → n.regs ≡ filter_map (reg_of (slice_index nets)) b.made → n.cells ≡ filter_map (cell_of (slice_index nets)) b.made → n.outputs ≡ map (out_of (slice_index nets)) b.outputs → n ≡ finished b
finished_by b nets n a e f g h i =
    let r : slice_index nets ≡ net_of b.made = fun_ext (same_nets b.made nets a) in
    let same : n ≡ netlist_by (slice_index nets) b = same_parts n (netlist_by (slice_index nets) b) e (f ∙ sym (inputs_picked b)) g h i in
    same ∙ ap (λ (r : ℕ → ℕ). netlist_by r b) r

pub finished_well : (b now : Built) (n : Netlist) → b ≡ now → IsWellBuilt b → undriven now ≡ [] → length b.made < 2 ^ 64 → n ≡ finished b → IsWellFormed n
finished_well b now n same s u few e = subst IsWellFormed (sym e) (well b s (ap undriven same ∙ u) few)

pub finished_ordered : (b : Built) (n : Netlist) → IsWellBuilt b → n ≡ finished b → HasNoLoop n
finished_ordered b n s e = subst HasNoLoop (sym e) (no_loop b s)

pub finished_carries : (b now : Built) (n : Netlist) → b ≡ now → IsWellBuilt b → n ≡ finished b → KeepsValues n now
finished_carries b now n same s e = subst (λ (x : Built). KeepsValues n x) same (subst (λ (x : Netlist). KeepsValues x b) (sym e) (carried b s))

-- the reset is net 0
reset_net : (b : Built) → IsWellBuilt b → net_of b.made 0 ≡ 0
reset_net b s =
    let m = mapped (λ (m : Made). m.item) b.made 0 _ s.reset in
    ap (net_at b.made 0) m.is ∙ ap (λ (i : Item). net_among (wire_counts b.made) (wire_counts (take 0 b.made)) i.kind) m.gives

reg_resets : (b : Built) → IsWellBuilt b → undriven b ≡ [] → (given : List ℕ) (v : ℕ → ℕ) → AreValues (finished b) given v → v 0 ≡ 1 → (w : ℕ) (m : Made) (y : Reg) → slice_get b.made w ≡ Some m → reg_of (net_of b.made) m ≡ Some y → v y.next ≡ 0
reg_resets b s u given v c z w m y e f =
    let g = reg_gives (net_of b.made) m.item.width m.next m.item.kind y f in
    let d = driven_by m.next (is_driven m g.kind (none_passes is_undriven 0 b.made u w m e)) in
    ap (λ (y : Reg). v y.next) g.is
    ∙ ap (λ o. v (next_of (net_of b.made) o)) d.is
    ∙ s.resets w m d.wire e d.is (at_wires b v) (solved b s given v c) (ap v (reset_net b s) ∙ z)

pub finished_resets : (b : Built) (n : Netlist) → IsWellBuilt b → undriven b ≡ [] → n ≡ finished b → Resets n
finished_resets b n s u e = subst Resets (sym e) (λ given v c z.
    All-map (λ x. x ≡ 0) (λ (r : Reg). v r.next) (finished b).regs
    (all_picked (reg_of (net_of b.made)) (λ (m : Made). is_register m.item.kind) (λ (y : Reg). v y.next ≡ 0) (λ m. reg_test (net_of b.made) m.item.width m.next m.item.kind) b.made (λ w m y f g. reg_resets b s u given v c z w m y f g)))
