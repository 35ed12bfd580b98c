-- The nets of a builder's wires.
use Rattle.std.proofs.Common.{◌≡◌, ℕ, zero, suc, ◌+◌, ◌<◌, ◌≤◌, List, [], ◌∷◌, ◌++◌, length, map, take, Option, Some, is_some, refl, sym, ap, ◌∙◌, subst, arith, length-append}
use Rattle.std.specs.Prelude.{slice_get, count_by}
use Rattle.std.specs.List.{filter_map}
use Rattle.std.proofs.lemmas.List.{length-map, take_all}
use Rattle.std.proofs.lemmas.Option.{slice_get-get_or, slice_get_within, get_or_from_slice_get}
use Rattle.net_cells.specs.declared.netlist.Cell.{Cell}
use Rattle.net_cells.specs.declared.netlist.Port.{Port}
use Rattle.net_cells.specs.declared.netlist.Reg.{Reg}
use Rattle.net_cells.specs.Rules.{HasWidth, sources, widths}
use Rattle.net_build.specs.declared.types.Kind.{Kind}
use Rattle.net_build.specs.declared.types.Kind.TheVariants.{Input, Register, Gate}
use Rattle.net_build.specs.declared.types.Item.{Item}
use Rattle.net_build.specs.declared.types.Made.{Made}
use Rattle.net_build.specs.Built.{Built, items, inputs, is_register, port_of, port_of_kind, wire_widths}
use Rattle.net_build.specs.Numbering.{cell_of, cell_of_kind, wire_counts, finished, is_gate, is_input, net_among, net_at, net_of, reg_of, reg_of_kind}
use Rattle.net_build.proofs.Lists.{get_more}
use Rattle.net_build.proofs.Places.{placed, many_picked, count_before, get_mapped, get_behind, picked_mapped}
use Rattle.net_build.proofs.Renamed.{KeepsWidths}

pub input_test : (width : ℕ) (k : Kind) → is_some (port_of_kind width k) ≡ is_input k
input_test width (Input name) = refl
input_test width Register = refl
input_test width (Gate op) = refl

pub reg_test : (r : ℕ → ℕ) (width : ℕ) (next : Option ℕ) (k : Kind) → is_some (reg_of_kind r width next k) ≡ is_register k
reg_test r width next (Input name) = refl
reg_test r width next Register = refl
reg_test r width next (Gate op) = refl

pub gate_test : (r : ℕ → ℕ) (width : ℕ) (k : Kind) → is_some (cell_of_kind r width k) ≡ is_gate k
gate_test r width (Input name) = refl
gate_test r width Register = refl
gate_test r width (Gate op) = refl

abbrev pub inputs_in : List Made → ℕ
inputs_in ms = count_by (λ (m : Made). is_input m.item.kind) ms

abbrev pub regs_in : List Made → ℕ
regs_in ms = count_by (λ (m : Made). is_register m.item.kind) ms

abbrev pub gates_in : List Made → ℕ
gates_in ms = count_by (λ (m : Made). is_gate m.item.kind) ms

pub inputs_picked : (b : Built) → inputs b ≡ filter_map (λ (m : Made). port_of m.item) b.made
inputs_picked b = picked_mapped port_of (λ (m : Made). m.item) b.made

pub many_inputs : (b : Built) → length (inputs b) ≡ inputs_in b.made
many_inputs b = ap length (inputs_picked b) ∙ many_picked _ (λ (m : Made). is_input m.item.kind) (λ m. input_test m.item.width m.item.kind) b.made

pub many_regs : (r : ℕ → ℕ) (ms : List Made) → length (filter_map (reg_of r) ms) ≡ regs_in ms
many_regs r ms = many_picked _ (λ (m : Made). is_register m.item.kind) (λ m. reg_test r m.item.width m.next m.item.kind) ms

pub many_cells : (r : ℕ → ℕ) (ms : List Made) → length (filter_map (cell_of r) ms) ≡ gates_in ms
many_cells r ms = many_picked _ (λ (m : Made). is_gate m.item.kind) (λ m. gate_test r m.item.width m.item.kind) ms

pub many_sources : (b : Built) → sources (finished b) ≡ inputs_in b.made + regs_in b.made
many_sources b = omega (arith, many_inputs b, many_regs (net_of b.made) b.made)

pub port_here : (b : Built) (w width : ℕ) (name : List ℕ) (next : Option ℕ) → slice_get b.made w ≡ Some (record { item = record { width = width; kind = Input name }; next = next }) → slice_get (inputs b) (inputs_in (take w b.made)) ≡ Some (record { name = name; width = width })
port_here b w width name next e =
    ap (λ ps. slice_get ps (inputs_in (take w b.made))) (inputs_picked b)
    ∙ placed (λ (m : Made). port_of m.item) (λ (m : Made). is_input m.item.kind) (λ m. input_test m.item.width m.item.kind) b.made w _ _ e refl

pub reg_here : (b : Built) (w : ℕ) (m : Made) (y : Reg) → slice_get b.made w ≡ Some m → reg_of (net_of b.made) m ≡ Some y → slice_get (finished b).regs (regs_in (take w b.made)) ≡ Some y
reg_here b w m y e f = placed (reg_of (net_of b.made)) (λ (m : Made). is_register m.item.kind) (λ m. reg_test (net_of b.made) m.item.width m.next m.item.kind) b.made w m y e f

pub cell_here : (b : Built) (w : ℕ) (m : Made) (y : Cell) → slice_get b.made w ≡ Some m → cell_of (net_of b.made) m ≡ Some y → slice_get (finished b).cells (gates_in (take w b.made)) ≡ Some y
cell_here b w m y e f = placed (cell_of (net_of b.made)) (λ (m : Made). is_gate m.item.kind) (λ m. gate_test (net_of b.made) m.item.width m.item.kind) b.made w m y e f

abbrev port_widths : Built → List ℕ
port_widths b = map (λ (p : Port). p.width) (inputs b)

abbrev reg_widths : Built → List ℕ
reg_widths b = map (λ (r : Reg). r.width) (finished b).regs

abbrev cell_widths : Built → List ℕ
cell_widths b = map (λ (c : Cell). c.width) (finished b).cells

-- the width of a wire's net, by what gives the wire its value
width_here : (b : Built) (w width : ℕ) (k : Kind) (next : Option ℕ) → slice_get b.made w ≡ Some (record { item = record { width = width; kind = k }; next = next }) → slice_get (widths (finished b)) (net_among (wire_counts b.made) (wire_counts (take w b.made)) k) ≡ Some width
width_here b w width (Input name) next e =
    get_more (port_widths b ++ reg_widths b) (cell_widths b) _ _ (get_more (port_widths b) (reg_widths b) _ _ (get_mapped (λ (p : Port). p.width) (inputs b) _ _ (port_here b w width name next e)))
width_here b w width Register next e =
    let l : length (port_widths b) ≡ inputs_in b.made = length-map (inputs b) (λ (p : Port). p.width) ∙ many_inputs b in
    get_more (port_widths b ++ reg_widths b) (cell_widths b) _ _ (get_behind (port_widths b) (reg_widths b) (inputs_in b.made) _ _ l (get_mapped (λ (r : Reg). r.width) (finished b).regs _ _ (reg_here b w _ _ e refl)))
width_here b w width (Gate op) next e =
    let l : length (port_widths b) ≡ inputs_in b.made = length-map (inputs b) (λ (p : Port). p.width) ∙ many_inputs b in
    let k : length (reg_widths b) ≡ regs_in b.made = length-map (finished b).regs (λ (r : Reg). r.width) ∙ many_regs (net_of b.made) b.made in
    let t : length (port_widths b ++ reg_widths b) ≡ inputs_in b.made + regs_in b.made = omega (arith, length-append (port_widths b) (reg_widths b), l, k) in
    get_behind (port_widths b ++ reg_widths b) (cell_widths b) (inputs_in b.made + regs_in b.made) _ _ t (get_mapped (λ (c : Cell). c.width) (finished b).cells _ _ (cell_here b w _ _ e refl))

pub net_width : (b : Built) (w : ℕ) (m : Made) → slice_get b.made w ≡ Some m → slice_get (widths (finished b)) (net_of b.made w) ≡ Some m.item.width
net_width b w m e = ap (λ o. slice_get (widths (finished b)) (net_at b.made w o)) e ∙ width_here b w m.item.width m.item.kind m.next e

-- what is behind a mapped item
pub record MappedFrom {X Y : Type 0} (f : X → Y) (xs : List X) (k : ℕ) (y : Y) : Type 0 where
  pub item : X
  pub is : slice_get xs k ≡ Some item
  pub gives : f item ≡ y

pub mapped : {X Y : Type 0} (f : X → Y) (xs : List X) (k : ℕ) (y : Y) → slice_get (map f xs) k ≡ Some y → MappedFrom f xs k y
mapped f [] k y e = absurd cc
mapped f (x ∷ xs) zero y e = record { item = x; is = refl; gives = cc }
mapped f (x ∷ xs) (suc k) y e = let m = mapped f xs k y e in record { item = m.item; is = m.is; gives = m.gives }

pub has_get : (ws : List ℕ) (k width : ℕ) → slice_get ws k ≡ Some width → HasWidth ws k width
has_get ws k width e = (slice_get_within ws k width e, get_or_from_slice_get ws k width 0 e)

pub get_has : (ws : List ℕ) (k width : ℕ) → HasWidth ws k width → slice_get ws k ≡ Some width
get_has ws k width h = slice_get-get_or ws k 0 h.0 ∙ ap (λ w. Some w) h.1

pub keeps_widths : (b : Built) → KeepsWidths (wire_widths b) (widths (finished b)) (net_of b.made)
keeps_widths b x width h =
    let i = mapped (λ (i : Item). i.width) (items b) x width (get_has (wire_widths b) x width h) in
    let m = mapped (λ (m : Made). m.item) b.made x i.item i.is in
    has_get (widths (finished b)) (net_of b.made x) width (net_width b x m.item m.is ∙ ap (λ w. Some w) (ap (λ (i : Item). i.width) m.gives ∙ i.gives))

-- earlier wires have lower nets than a gate
below_here : (b : Built) (w x width : ℕ) (k : Kind) (next : Option ℕ) → slice_get b.made x ≡ Some (record { item = record { width = width; kind = k }; next = next }) → x < w → w ≤ length b.made → net_among (wire_counts b.made) (wire_counts (take x b.made)) k < inputs_in b.made + regs_in b.made + gates_in (take w b.made)
below_here b w x width (Input name) next e h l =
    let c : inputs_in (take x b.made) < inputs_in (take (length b.made) b.made) = count_before (λ (m : Made). is_input m.item.kind) b.made x (length b.made) _ e refl (omega arith) in
    omega (arith, c, ap inputs_in (take_all (length b.made) b.made (omega arith)))
below_here b w x width Register next e h l =
    let c : regs_in (take x b.made) < regs_in (take (length b.made) b.made) = count_before (λ (m : Made). is_register m.item.kind) b.made x (length b.made) _ e refl (omega arith) in
    omega (arith, c, ap regs_in (take_all (length b.made) b.made (omega arith)))
below_here b w x width (Gate op) next e h l =
    let c : gates_in (take x b.made) < gates_in (take w b.made) = count_before (λ (m : Made). is_gate m.item.kind) b.made x w _ e refl h in
    omega (arith, c)

pub net_below : (b : Built) (w x : ℕ) (m : Made) → slice_get b.made x ≡ Some m → x < w → w ≤ length b.made → net_of b.made x < inputs_in b.made + regs_in b.made + gates_in (take w b.made)
net_below b w x m e h l = subst (λ n. n < inputs_in b.made + regs_in b.made + gates_in (take w b.made)) (sym (ap (net_at b.made x) e)) (below_here b w x m.item.width m.item.kind m.next e h l)
