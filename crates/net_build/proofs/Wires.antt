-- Wires of a builder that grows.
use Rattle.std.proofs.Common.{◌≡◌, ℕ, ◌+◌, ◌-◌, ◌*◌, ◌^◌, ◌<◌, ◌≤◌, Bool, true, false, cond, List, [], ◌∷◌, ◌++◌, length, Some, None, refl, sym, ap, ◌∙◌, subst, arith}
use Rattle.std.specs.Prelude.{slice_get, Contains}
use Rattle.std.specs.List.{filter_map}
use Rattle.std.proofs.lemmas.List.{append-nil, length-map, get_or_push, length_push}
use Rattle.net_build.specs.Built.{numbers_where}
use Rattle.net_cells.specs.declared.netlist.CellOp.{CellOp}
use Rattle.net_cells.specs.declared.netlist.CellOp.TheVariants.{Concat, Select}
use Rattle.net_cells.specs.Rules.{HasWidth, HaveOneWidth, IsCell, IsWidth, width_at}
use Rattle.net_cells.specs.Values.{op_value}
use Rattle.net_build.specs.declared.types.Kind.{Kind}
use Rattle.net_build.specs.declared.types.Kind.TheVariants.{Input, Register, Gate}
use Rattle.net_build.specs.declared.types.Item.{Item}
use Rattle.net_build.specs.declared.types.Made.{Made}
use Rattle.net_build.specs.declared.types.Wire.{Wire}
use Rattle.net_build.specs.Built.{Built, items, wire_widths, inputs, undriven, is_undriven, port_of, IsWire, IsBit, IsInput, IsRegister, IsUndriven}
use Rattle.net_build.specs.Values.{Means, Later, Adds, AddsInput, Opens}
use Rattle.net_build.specs.Sound.{Makes}
use Rattle.net_build.proofs.Lists.{get_last}
use Rattle.net_build.proofs.Grown.{items_made, widths_made, inputs_made}

either_more : (b : Bool) (n : ℕ) (ps qs rs : List ℕ) → ps ≡ qs ++ rs → cond b (n ∷ ps) ps ≡ cond b (n ∷ qs) qs ++ rs
either_more true n ps qs rs e = ap (λ x. n ∷ x) e
either_more false n ps qs rs e = e

pub places_more : {A : Type 0} (test : A → Bool) (from : ℕ) (xs : List A) (x : A) → numbers_where test from (xs ++ x ∷ []) ≡ numbers_where test from xs ++ cond (test x) ((from + length xs) ∷ []) []
places_more test from [] x = ap (λ (n : ℕ). cond (test x) (n ∷ []) []) (omega arith)
places_more test from (y ∷ xs) x =
    either_more (test y) from _ _ _ (places_more test (from + 1) xs x ∙ ap (λ (n : ℕ). numbers_where test (from + 1) xs ++ cond (test x) (n ∷ []) []) (omega arith))

same_inputs : (old new : Built) (width : ℕ) (k : Kind) → Makes old new (record { width = width; kind = k }) → filter_map port_of (record { width = width; kind = k } ∷ []) ≡ [] → inputs new ≡ inputs old
same_inputs old new width k m e = inputs_made old new (record { width = width; kind = k }) m ∙ ap (λ ps. inputs old ++ ps) e ∙ append-nil (inputs old)

pub gate_adds : (old new : Built) (width : ℕ) (op : CellOp) → Later old new → Makes old new (record { width = width; kind = Gate op }) → Adds old new
gate_adds old new width op l m = record {
  later = l;
  inputs = same_inputs old new width (Gate op) m refl;
  outputs = m.outputs;
  undriven = ap (numbers_where is_undriven 0) m.made ∙ places_more is_undriven 0 old.made (record { item = record { width = width; kind = Gate op }; next = None }) ∙ append-nil (undriven old);
}

pub made_wire : (old new : Built) (i : Item) (w : Wire) → IsWidth i.width → Makes old new i → w ≡ record { number = length old.made; width = i.width } → IsWire new w
made_wire old new i w b m e =
    let l : length (wire_widths old) ≡ length old.made = length-map (items old) (λ (i : Item). i.width) ∙ length-map old.made (λ (m : Made). m.item) in
    rw e (record {
      has = rw (widths_made old new i m) (omega (arith, length_push (wire_widths old) i.width, l), get_or_push (wire_widths old) i.width 0 (length old.made) l);
      sized = b;
    })

pub gate_means : (old new : Built) (width : ℕ) (op : CellOp) (w : Wire) → Makes old new (record { width = width; kind = Gate op }) → w ≡ record { number = length old.made; width = width } → Means new w (λ v. op_value (wire_widths new) width op v)
gate_means old new width op w m e =
    let i : Item = record { width = width; kind = Gate op } in
    let l : length (items old) ≡ length old.made = length-map old.made (λ (m : Made). m.item) in
    let g : slice_get (items new) (length old.made) ≡ Some i = rw (items_made old new i m) (ap (slice_get (items old ++ i ∷ [])) (sym l) ∙ get_last (items old) i) in
    rw e (record { at = λ v s. s.gates (length old.made) i op g refl })

pub one_width : (b : Built) (x y : Wire) → IsWire b x → IsWire b y → y.width ≡ x.width → HaveOneWidth (wire_widths b) x.number y.number
one_width b x y h k e = (h.has.0, k.has.0, h.has.1 ∙ sym (k.has.1 ∙ e))

pub bit_width : (b : Built) (x : Wire) → IsBit b x → HasWidth (wire_widths b) x.number 1
bit_width b x h = (h.wire.has.0, h.wire.has.1 ∙ h.one)

pub joined : (b : Built) (x y : Wire) → IsWire b x → IsWire b y → IsCell (wire_widths b) (x.width + y.width) (Concat x.number y.number)
joined b x y h k = (h.has.0, k.has.0, ap (λ n. n + width_at (wire_widths b) y.number) h.has.1 ∙ ap (λ n. x.width + n) k.has.1)

pub joined_means : (old new : Built) (x y w : Wire) → IsWire old y → Adds old new → Means new w (λ v. v x.number * 2 ^ width_at (wire_widths new) y.number + v y.number) → Means new w (λ v. v x.number * 2 ^ y.width + v y.number)
joined_means old new x y w h a m = record { at = λ v s. m.at v s ∙ ap (λ n. v x.number * 2 ^ n + v y.number) ((a.later.wires y.number y.width h.has).1) }

pub part : (b : Built) (x : Wire) (hi lo : ℕ) → IsWire b x → lo ≤ hi → hi < x.width → IsCell (wire_widths b) (hi - lo + 1) (Select x.number hi lo)
part b x hi lo h o k = (h.has.0, subst (λ n. hi < n) (sym h.has.1) k, o, refl)

pub input_adds : (old new : Built) (name : List ℕ) (width : ℕ) → Later old new → Makes old new (record { width = width; kind = Input name }) → AddsInput old new (record { name = name; width = width })
input_adds old new name width l m = record {
  later = l;
  made = m.made;
  inputs = inputs_made old new (record { width = width; kind = Input name }) m;
  outputs = m.outputs;
  undriven = ap (numbers_where is_undriven 0) m.made ∙ places_more is_undriven 0 old.made (record { item = record { width = width; kind = Input name }; next = None }) ∙ append-nil (undriven old);
}

pub made_input : (old new : Built) (name : List ℕ) (width : ℕ) (w : Wire) → Makes old new (record { width = width; kind = Input name }) → w ≡ record { number = length old.made; width = width } → IsInput new w name
made_input old new name width w m e =
    let i : Item = record { width = width; kind = Input name } in
    let l : length (items old) ≡ length old.made = length-map old.made (λ (m : Made). m.item) in
    let g : slice_get (items new) (length old.made) ≡ Some i = rw (items_made old new i m) (ap (slice_get (items old ++ i ∷ [])) (sym l) ∙ get_last (items old) i) in
    rw e (record { at = g })

pub register_opens : (old new : Built) (width : ℕ) (w : Wire) → Later old new → Makes old new (record { width = width; kind = Register }) → w ≡ record { number = length old.made; width = width } → Opens old new (w.number ∷ [])
register_opens old new width w l m e = rw e (record {
  later = l;
  inputs = same_inputs old new width Register m refl;
  outputs = m.outputs;
  undriven = ap (numbers_where is_undriven 0) m.made ∙ places_more is_undriven 0 old.made (record { item = record { width = width; kind = Register }; next = None }) ∙ ap (λ n. undriven old ++ n ∷ []) (omega arith);
})

pub made_register : (old new : Built) (width : ℕ) (w : Wire) → Makes old new (record { width = width; kind = Register }) → w ≡ record { number = length old.made; width = width } → IsRegister new w
made_register old new width w m e =
    let i : Item = record { width = width; kind = Register } in
    let l : length (items old) ≡ length old.made = length-map old.made (λ (m : Made). m.item) in
    let g : slice_get (items new) (length old.made) ≡ Some i = rw (items_made old new i m) (ap (slice_get (items old ++ i ∷ [])) (sym l) ∙ get_last (items old) i) in
    rw e (record { at = g })

contains_last : (xs : List ℕ) (n : ℕ) → Contains (xs ++ n ∷ []) n
contains_last xs n = (length xs, omega (arith, length_push xs n), get_or_push xs n n (length xs) refl)

pub made_undriven : (old new : Built) (width : ℕ) (w : Wire) → Later old new → Makes old new (record { width = width; kind = Register }) → w ≡ record { number = length old.made; width = width } → IsUndriven new w
made_undriven old new width w l m e = record {
  register = made_register old new width w m e;
  waits = subst (λ (ns : List ℕ). Contains ns w.number) (sym ((register_opens old new width w l m e).undriven)) (contains_last (undriven old) w.number);
}

pub register_number : (old : Built) (width : ℕ) (w : Wire) → w ≡ record { number = length old.made; width = width } → w.number ≡ length (items old)
register_number old width w e = ap (λ (w : Wire). w.number) e ∙ sym (length-map old.made (λ (m : Made). m.item))

pub ruleset gates = (gate_adds, made_wire, gate_means)

pub ruleset further_inputs = (input_adds, made_input, made_wire)
