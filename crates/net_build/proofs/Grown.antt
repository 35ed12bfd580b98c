-- A builder with one more wire.
use Rattle.std.proofs.Common.{◌≡◌, ◌≢◌, ℕ, ◌≤◌, inl, inr, List, [], ◌∷◌, ◌++◌, length, map, take, drop, Some, None, refl, sym, ap, ◌∙◌, subst, arith}
use Rattle.std.specs.Prelude.{slice_get, codes}
use Rattle.std.specs.List.{AllByRecursion, filter_map}
use Rattle.std.proofs.lemmas.List.{map-append, append_assoc, append-nil, take-append-le, take_all, length-map}
use Rattle.std.proofs.lemmas.List.Elements.{filter_map-append}
use Rattle.std.proofs.lemmas.Option.{slice_get_within}
use Rattle.std.proofs.Math.Seq.{take-append_seam}
use Rattle.net_cells.specs.declared.netlist.CellOp.{CellOp}
use Rattle.net_cells.specs.declared.netlist.Port.{Port}
use Rattle.net_cells.specs.declared.netlist.OutPort.{OutPort}
use Rattle.net_cells.specs.Rules.{IsCell, IsNamed, IsWidth}
use Rattle.net_cells.specs.Values.{op_value}
use Rattle.net_build.specs.declared.types.Kind.{Kind}
use Rattle.net_build.specs.declared.types.Kind.TheVariants.{Input, Register, Gate}
use Rattle.net_build.specs.declared.types.Item.{Item}
use Rattle.net_build.specs.declared.types.Made.{Made}
use Rattle.net_build.specs.Built.{Built, items, widths_of, wire_widths, inputs, names, port_of}
use Rattle.net_build.specs.Values.{Solves, Later}
use Rattle.net_build.specs.Sound.{IsWellBuilt, Differ, Follows, Makes}
use Rattle.net_build.proofs.Lists.{get_more, get_either, all_more, all_weaker, all_listed, differ_insert}
use Rattle.net_build.proofs.Cells.{net_more, has_more, cell_whole, value_more, fits_front}

pub items_made : (old new : Built) (i : Item) → Makes old new i → items new ≡ items old ++ i ∷ []
items_made old new i m = ap (map (λ (m : Made). m.item)) m.made ∙ map-append (λ (m : Made). m.item) old.made (record { item = i; next = None } ∷ [])

pub widths_made : (old new : Built) (i : Item) → Makes old new i → wire_widths new ≡ wire_widths old ++ i.width ∷ []
widths_made old new i m = ap widths_of (items_made old new i m) ∙ map-append (λ (i : Item). i.width) (items old) (i ∷ [])

pub inputs_made : (old new : Built) (i : Item) → Makes old new i → inputs new ≡ inputs old ++ filter_map port_of (i ∷ [])
inputs_made old new i m = ap (filter_map port_of) (items_made old new i m) ∙ filter_map-append port_of (items old) (i ∷ [])

long : (b : Built) → length (wire_widths b) ≡ length (items b)
long b = length-map (items b) (λ (i : Item). i.width)

within : (b : Built) (n : ℕ) (i : Item) → slice_get (items b) n ≡ Some i → n ≤ length (wire_widths b)
within b n i e = omega (arith, slice_get_within (items b) n i e, long b)

pub solves_back : (old new : Built) (i : Item) → IsWellBuilt old → Makes old new i → (v : ℕ → ℕ) → Solves new v → Solves old v
solves_back old new i s m v h =
    let w = widths_made old new i m in
    let j = items_made old new i m in
    record {
      fits = fits_front (wire_widths old) (i.width ∷ []) v (rw (← w) h.fits);
      gates = λ n k op e f.
          h.gates n k op (rw j (get_more (items old) (i ∷ []) n k e)) f
          ∙ ap (λ (x : List ℕ). op_value x k.width op v) w
          ∙ value_more (wire_widths old) (i.width ∷ []) k.width op v (cell_whole (wire_widths old) n k.width op (s.gates n k op e f));
    }

pub grown_later : (old new : Built) (i : Item) → IsWellBuilt old → Makes old new i → Later old new
grown_later old new i s m =
    let w = widths_made old new i m in
    let j = items_made old new i m in
    record {
      back = solves_back old new i s m;
      keeps = λ n k e. rw j (get_more (items old) (i ∷ []) n k e);
      wires = λ n width h. rw w (has_more (wire_widths old) (i.width ∷ []) n width h);
      ticks = λ v u t. record { takes = λ n x d e f. t.takes n x d (rw m.made (get_more old.made (record { item = i; next = None } ∷ []) n x e)) f };
      starts = λ v t. record { holds = λ n k e f. t.holds n k (rw j (get_more (items old) (i ∷ []) n k e)) f };
      name = m.name;
      inputs = ap (take (length (inputs old))) (inputs_made old new i m) ∙ take-append_seam (inputs old) (filter_map port_of (i ∷ []));
      outputs = ap (take (length old.outputs)) m.outputs ∙ take_all (length old.outputs) old.outputs (omega arith);
    }

-- the first wire is an input, so the further ports are those behind the first
ports_rest : (is : List Item) (name : List ℕ) (ps : List Port) → slice_get is 0 ≡ Some (record { width = 1; kind = Input name }) → drop 1 (filter_map port_of is ++ ps) ≡ drop 1 (filter_map port_of is) ++ ps
ports_rest [] name ps e = absurd cc
ports_rest (i ∷ is) name ps e =
    let f : i ≡ record { width = 1; kind = Input name } = cc in
    rw f refl

abbrev called : List Port → List (List ℕ)
called ps = map (λ (p : Port). p.name) ps

ports_named : (b : Built) (i : Item) (width : ℕ) (k : Kind) → Follows b width k → AllByRecursion (λ (p : Port). IsNamed (codes "p_") p.name) (drop 1 (inputs b)) → AllByRecursion (λ (p : Port). IsNamed (codes "p_") p.name) (drop 1 (inputs b) ++ filter_map port_of (record { width = width; kind = k } ∷ []))
ports_named b i width (Input name) f h = all_more (λ (p : Port). IsNamed (codes "p_") p.name) (drop 1 (inputs b)) (record { name = name; width = width }) h f.named
ports_named b i width Register f h = rw (append-nil (drop 1 (inputs b))) h
ports_named b i width (Gate op) f h = rw (append-nil (drop 1 (inputs b))) h

names_differ : (b : Built) (width : ℕ) (k : Kind) → Follows b width k → Differ (names b) → Differ (called (inputs b ++ filter_map port_of (record { width = width; kind = k } ∷ [])) ++ map (λ (o : OutPort). o.name) b.outputs)
names_differ b width (Input name) f d =
    let p : Port = record { name = name; width = width } in
    let outs = map (λ (o : OutPort). o.name) b.outputs in
    let e : called (inputs b ++ p ∷ []) ++ outs ≡ called (inputs b) ++ (name ∷ outs) = ap (λ (x : List (List ℕ)). x ++ outs) (map-append (λ (p : Port). p.name) (inputs b) (p ∷ [])) ∙ append_assoc (called (inputs b)) (name ∷ []) outs in
    subst Differ (sym e) (differ_insert (called (inputs b)) outs name d (all_listed (λ y. y ≢ name) (names b) f.unused))
names_differ b width Register f d = rw (append-nil (inputs b)) d
names_differ b width (Gate op) f d = rw (append-nil (inputs b)) d

gate_follows : (b : Built) (i j : Item) (op : CellOp) → Follows b i.width i.kind → i ≡ j → j.kind ≡ Gate op → IsCell (wire_widths b) j.width op
gate_follows b i j op f e g =
    let h : Follows b j.width j.kind = subst (λ (x : Item). Follows b x.width x.kind) e f in
    subst (Follows b j.width) g h

none_some : (d : ℕ) → None ≡ Some d → ⊥
none_some d e = cc

pub grown_sound : (old new : Built) (i : Item) → IsWellBuilt old → IsWidth i.width → Follows old i.width i.kind → Makes old new i → IsWellBuilt new
grown_sound old new i s b f m =
    let w = widths_made old new i m in
    let j = items_made old new i m in
    let x : Made = record { item = i; next = None } in
    let p = inputs_made old new i m in
    let front : (n : ℕ) → n ≤ length (wire_widths old) → take n (wire_widths new) ≡ take n (wire_widths old) = λ n h. ap (take n) w ∙ take-append-le n (wire_widths old) (i.width ∷ []) h in
    record {
      name = rw m.name s.name;
      reset = rw j (get_more (items old) (i ∷ []) 0 _ s.reset);
      sized = rw w (all_more IsWidth (wire_widths old) i.width s.sized b);
      gates = λ n k op e g. elim (get_either (items old) i n k (subst (λ (y : List Item). slice_get y n ≡ Some k) j e)) [
        | inl h ↦ subst (λ (ws : List ℕ). IsCell ws k.width op) (sym (front n (within old n k h))) (s.gates n k op h g)
        | inr h ↦
            let l = long old in
            let e : take n (wire_widths new) ≡ wire_widths old = front n (omega arith) ∙ take_all n (wire_widths old) (omega arith) in
            subst (λ (ws : List ℕ). IsCell ws k.width op) (sym e) (gate_follows old i k op f h.1 g)
      ];
      nexts = λ n y d e g. elim (get_either old.made x n y (subst (λ (z : List Made). slice_get z n ≡ Some y) m.made e)) [
        | inl h ↦ rw w (has_more (wire_widths old) (i.width ∷ []) d y.item.width (s.nexts n y d h g))
        | inr h ↦ absurd (none_some d (ap (λ (z : Made). z.next) h.1 ∙ g))
      ];
      held = λ n y d e g. elim (get_either old.made x n y (subst (λ (z : List Made). slice_get z n ≡ Some y) m.made e)) [
        | inl h ↦ s.held n y d h g
        | inr h ↦ absurd (none_some d (ap (λ (z : Made). z.next) h.1 ∙ g))
      ];
      resets = λ n y d e g v q z. elim (get_either old.made x n y (subst (λ (z : List Made). slice_get z n ≡ Some y) m.made e)) [
        | inl h ↦ s.resets n y d h g v (solves_back old new i s m v q) z
        | inr h ↦ absurd (none_some d (ap (λ (z : Made). z.next) h.1 ∙ g))
      ];
      ports = subst (AllByRecursion (λ (p : Port). IsNamed (codes "p_") p.name)) (sym (ap (drop 1) p ∙ ports_rest (items old) (codes "reset") (filter_map port_of (i ∷ [])) s.reset)) (ports_named old i i.width i.kind f s.ports);
      shown = rw m.outputs (all_weaker _ _ old.outputs (λ o h. (h.0, rw w (net_more (wire_widths old) (i.width ∷ []) o.net h.1))) s.shown);
      distinct = subst Differ (sym (ap (λ (y : List Port). called y ++ map (λ (o : OutPort). o.name) new.outputs) p ∙ ap (λ (y : List OutPort). called (inputs old ++ filter_map port_of (i ∷ [])) ++ map (λ (o : OutPort). o.name) y) m.outputs)) (names_differ old i.width i.kind f s.distinct);
    }
