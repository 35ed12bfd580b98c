-- Inputs and outputs of a builder, made one after another.
use Rattle.std.proofs.Common.{◌≡◌, ◌≢◌, ℕ, zero, suc, ◌+◌, ◌<◌, ◌≤◌, List, [], ◌∷◌, ◌++◌, length, map, take, drop, get_or, Option, Some, None, refl, sym, ap, ◌∙◌, subst, arith}
use Rattle.std.specs.Prelude.{slice_get, slice_index, All, codes}
use Rattle.std.specs.List.{AllByRecursion}
use Rattle.std.proofs.lemmas.List.{append_assoc, append-nil, length-append, length-map, map-append, take_more, take_all}
use Rattle.std.proofs.lemmas.List.Elements.{All-append, All-cons, All-nil}
use Rattle.net_cells.specs.declared.netlist.OutPort.{OutPort}
use Rattle.net_cells.specs.declared.netlist.Port.{Port}
use Rattle.net_cells.specs.Rules.{IsNamed, IsWidth}
use Rattle.net_build.specs.declared.types.Wire.{Wire}
use Rattle.net_build.specs.Bits.{wire_values}
use Rattle.net_build.specs.Built.{Built, IsInput, IsNewName, inputs, names, undriven}
use Rattle.net_build.specs.Sound.{Differ}
use Rattle.net_build.specs.Values.{AddsInput, AddsOutput, HasInputs, Later}
use Rattle.net_build.proofs.Lists.{get_last}
use Rattle.net_build.proofs.OpenedLists.{later_same}
use Rattle.net_build.proofs.Steps.{input_later, later_later}
use Rattle.net_ports.specs.Names.{AreNamed, names_of}
use Rattle.net_ports.specs.Rows.{AddsInputs, AddsOutputs, AreInputWires, AreRead, FitPorts, MayAdd, shown_outputs, values_from, widths_of_ports}

-- ---- names that differ

there : (P : List ℕ → Type 0) (xs ys : List (List ℕ)) (y : List ℕ) → AllByRecursion P (xs ++ y ∷ ys) → P y
there P [] ys y h = h.0
there P (x ∷ xs) ys y h = there P xs ys y h.1

pub differ_before : (xs ys : List (List ℕ)) (y : List ℕ) → Differ (xs ++ y ∷ ys) → All (λ x. x ≢ y) xs
differ_before [] ys y d = All-nil (λ x. x ≢ y)
differ_before (x ∷ xs) ys y d = All-cons (λ x. x ≢ y) x xs (there (λ z. x ≢ z) xs ys y d.0) (differ_before xs ys y d.1)

abbrev out_names : List OutPort → List (List ℕ)
out_names outs = map (λ (o : OutPort). o.name) outs

split_at : (ports : List Port) (k : ℕ) (p : Port) → k < length ports → p ≡ get_or ports k p → ports ≡ take k ports ++ p ∷ drop (suc k) ports
split_at [] k p l e = absurd (omega (arith, l))
split_at (q ∷ ports) zero p l e = ap (λ (x : Port). x ∷ ports) (sym e)
split_at (q ∷ ports) (suc k) p l e = ap (λ (xs : List Port). q ∷ xs) (split_at ports k p (omega (arith, l)) e)

-- the next of some ports has a new name
pub new_name : (b : Built) (ports front : List Port) (k : ℕ) (p : Port) (before : List (List ℕ)) → k < length ports → p ≡ get_or ports k p → FitPorts ports
    → Differ (before ++ names_of ports) → names b ≡ before ++ names_of (take k ports) → IsNewName b p.name
new_name b ports front k p before l e h d n = record {
  named = subst (λ (x : Port). IsNamed (codes "p_") x.name) (sym e) (h.names.each k p l);
  unused = subst (All (λ x. x ≢ p.name)) (sym n)
      (differ_before (before ++ names_of (take k ports)) (names_of (drop (suc k) ports)) p.name
      (subst Differ (ap (λ (xs : List Port). before ++ names_of xs) (split_at ports k p l e) ∙ ap (λ (xs : List (List ℕ)). before ++ xs) (map-append (λ (port : Port). port.name) (take k ports) (p ∷ drop (suc k) ports)) ∙ sym (append_assoc before (names_of (take k ports)) (p.name ∷ names_of (drop (suc k) ports)))) d));
}

-- ---- inputs

pub adds_no_inputs : (b : Built) → AddsInputs b b []
adds_no_inputs b = record { later = later_same b; inputs = sym (append-nil (inputs b)); outputs = refl; undriven = refl }

pub adds_more_inputs : (old mid new : Built) (front next : List Port) (p : Port) → AddsInputs old mid front → AddsInput mid new p → next ≡ front ++ p ∷ [] → AddsInputs old new next
adds_more_inputs old mid new front next p h g e = record {
  later = later_later old mid new h.later g.later;
  inputs = g.inputs ∙ ap (λ (ps : List Port). ps ++ p ∷ []) h.inputs ∙ append_assoc (inputs old) front (p ∷ []) ∙ ap (λ (ps : List Port). inputs old ++ ps) (sym e);
  outputs = g.outputs ∙ h.outputs;
  undriven = g.undriven ∙ h.undriven;
}

pub adds_both_inputs : (old mid new : Built) (front back : List Port) → AddsInputs old mid front → AddsInputs mid new back → AddsInputs old new (front ++ back)
adds_both_inputs old mid new front back h g = record {
  later = later_later old mid new h.later g.later;
  inputs = g.inputs ∙ ap (λ (ps : List Port). ps ++ back) h.inputs ∙ append_assoc (inputs old) front back;
  outputs = g.outputs ∙ h.outputs;
  undriven = g.undriven ∙ h.undriven;
}

get_taken : {A : Type 0} (n : ℕ) (xs : List A) (k : ℕ) (x : A) → slice_get (take n xs) k ≡ Some x → slice_get xs k ≡ Some x
get_taken zero xs k x e = absurd (let h : None ≡ Some x = e in cc)
get_taken (suc n) [] k x e = e
get_taken (suc n) (y ∷ xs) zero x e = e
get_taken (suc n) (y ∷ xs) (suc k) x e = get_taken n xs k x e

pub inputs_back : (old new : Built) (values : List ℕ) (v : ℕ → ℕ) → Later old new → HasInputs new values v → HasInputs old values v
inputs_back old new values v g h = record {
  reset = h.reset;
  each = λ k p w e i. h.each k p w (get_taken (length (inputs old)) (inputs new) k p (ap (λ (ps : List Port). slice_get ps k) g.inputs ∙ e)) (input_later old new w p.name g i);
}

pub none_read : (b : Built) (from : ℕ) → AreRead b from []
none_read b from = record { at = λ values v h. refl }

values_push : (values : List ℕ) (from n : ℕ) → values_from values from (suc n) ≡ values_from values from n ++ slice_index values (from + n) ∷ []
values_push values from zero = ap (λ (k : ℕ). slice_index values k ∷ []) (let e : from ≡ from + 0 = omega arith in e)
values_push values from (suc n) = ap (λ (xs : List ℕ). slice_index values from ∷ xs) (values_push values (from + 1) n ∙ ap (λ (k : ℕ). values_from values (from + 1) n ++ slice_index values k ∷ []) (let e : from + 1 + n ≡ from + suc n = omega arith in e))

pub values_append : (values : List ℕ) (from n m : ℕ) → values_from values from (n + m) ≡ values_from values from n ++ values_from values (from + n) m
values_append values from zero m = let e : from ≡ from + 0 = omega arith in let f : 0 + m ≡ m = omega arith in ap (values_from values from) f ∙ ap (λ (k : ℕ). values_from values k m) e
values_append values from (suc n) m =
    let e : from + 1 + n ≡ from + suc n = omega arith in
    let f : suc n + m ≡ suc (n + m) = omega arith in
    ap (values_from values from) f
    ∙ ap (λ (xs : List ℕ). slice_index values from ∷ xs) (values_append values (from + 1) n m ∙ ap (λ (k : ℕ). values_from values (from + 1) n ++ values_from values k m) e)

pub more_read : (old mid new : Built) (front : List Port) (p : Port) (out more : List Wire) (w : Wire) → AddsInputs old mid front → length out ≡ length front → AreRead mid (length (inputs old)) out → AddsInput mid new p → IsInput new w p.name
    → more ≡ out ++ w ∷ [] → AreRead new (length (inputs old)) more
more_read old mid new front p out more w h l r g i e = record {
  at = λ values v k.
      let from = length (inputs old) in
      let there : slice_get (inputs new) (length (inputs mid)) ≡ Some p = ap (λ (ps : List Port). slice_get ps (length (inputs mid))) g.inputs ∙ get_last (inputs mid) p in
      let far : length (inputs mid) ≡ from + length out = ap length h.inputs ∙ length-append (inputs old) front ∙ ap (λ (n : ℕ). from + n) (sym l) in
      let long : suc (length out) ≡ length more = let q : length more ≡ length out + 1 = ap length e ∙ length-append out (w ∷ []) in omega (arith, q) in
      ap (wire_values v) e ∙ map-append (λ (x : Wire). v x.number) out (w ∷ [])
      ∙ ap (λ (xs : List ℕ). xs ++ v w.number ∷ []) (r.at values v (inputs_back mid new values v g.later k))
      ∙ ap (λ (x : ℕ). values_from values from (length out) ++ x ∷ []) (k.each (length (inputs mid)) p w there i ∙ ap (slice_index values) far)
      ∙ sym (values_push values from (length out)) ∙ ap (values_from values from) long;
}

pub read_later : (old new : Built) (from : ℕ) (ws : List Wire) → Later old new → AreRead old from ws → AreRead new from ws
read_later old new from ws g h = record { at = λ values v k. h.at values v (inputs_back old new values v g k) }

-- ---- outputs

pub adds_no_outputs : (b : Built) → AddsOutputs b b []
adds_no_outputs b = record { later = later_same b; inputs = refl; outputs = sym (append-nil b.outputs); undriven = refl }

shown_push : (ports : List Port) (ws : List Wire) (k : ℕ) (p : Port) (d : Wire) → k < length ports → length ws ≡ length ports → p ≡ get_or ports k p
    → shown_outputs (take (suc k) ports) (take (suc k) ws) ≡ shown_outputs (take k ports) (take k ws) ++ record { name = p.name; net = (get_or ws k d).number } ∷ []
shown_push [] ws k p d l m e = absurd (omega (arith, l))
shown_push (q ∷ ports) [] k p d l m e = absurd (omega (arith, m))
shown_push (q ∷ ports) (w ∷ ws) zero p d l m e = ap (λ (x : Port). record { name = x.name; net = w.number } ∷ []) (sym e)
shown_push (q ∷ ports) (w ∷ ws) (suc k) p d l m e = ap (λ (xs : List OutPort). record { name = q.name; net = w.number } ∷ xs) (shown_push ports ws k p d (omega (arith, l)) (omega (arith, m)) e)

pub adds_more_outputs : (old mid new : Built) (ports : List Port) (ws : List Wire) (k : ℕ) (p : Port) (d : Wire) → k < length ports → length ws ≡ length ports → p ≡ get_or ports k p
    → AddsOutputs old mid (shown_outputs (take k ports) (take k ws)) → AddsOutput mid new (record { name = p.name; net = (get_or ws k d).number }) → AddsOutputs old new (shown_outputs (take (k + 1) ports) (take (k + 1) ws))
adds_more_outputs old mid new ports ws k p d l m e h g = record {
  later = later_later old mid new h.later g.later;
  inputs = g.inputs ∙ h.inputs;
  outputs = g.outputs ∙ ap (λ (os : List OutPort). os ++ record { name = p.name; net = (get_or ws k d).number } ∷ []) h.outputs
      ∙ append_assoc old.outputs (shown_outputs (take k ports) (take k ws)) (record { name = p.name; net = (get_or ws k d).number } ∷ [])
      ∙ ap (λ (os : List OutPort). old.outputs ++ os) (sym (shown_push ports ws k p d l m e) ∙ ap (λ (n : ℕ). shown_outputs (take n ports) (take n ws)) (let q : suc k ≡ k + 1 = omega arith in q));
  undriven = g.undriven ∙ h.undriven;
}

shown_names : (ports : List Port) (ws : List Wire) (k : ℕ) → length ws ≡ length ports → out_names (shown_outputs (take k ports) (take k ws)) ≡ names_of (take k ports)
shown_names ports ws zero m = refl
shown_names [] ws (suc k) m = refl
shown_names (q ∷ ports) [] (suc k) m = absurd (omega (arith, m))
shown_names (q ∷ ports) (w ∷ ws) (suc k) m = ap (λ (xs : List (List ℕ)). q.name ∷ xs) (shown_names ports ws k (omega (arith, m)))

pub names_shown : (old mid : Built) (ports : List Port) (ws : List Wire) (k : ℕ) → length ws ≡ length ports → AddsOutputs old mid (shown_outputs (take k ports) (take k ws))
    → names mid ≡ (names_of (inputs old) ++ out_names old.outputs) ++ names_of (take k ports)
names_shown old mid ports ws k m h =
    ap (λ (ps : List Port). names_of ps ++ out_names mid.outputs) h.inputs
    ∙ ap (λ (os : List OutPort). names_of (inputs old) ++ out_names os) h.outputs
    ∙ ap (λ (xs : List (List ℕ)). names_of (inputs old) ++ xs) (map-append (λ (o : OutPort). o.name) old.outputs (shown_outputs (take k ports) (take k ws)) ∙ ap (λ (xs : List (List ℕ)). out_names old.outputs ++ xs) (shown_names ports ws k m))
    ∙ sym (append_assoc (names_of (inputs old)) (out_names old.outputs) (names_of (take k ports)))

pub may_regroup : (b : Built) (ports : List Port) → MayAdd b ports → Differ ((names_of (inputs b) ++ out_names b.outputs) ++ names_of ports)
may_regroup b ports h = subst Differ (sym (append_assoc (names_of (inputs b)) (out_names b.outputs) (names_of ports))) h

-- the names while inputs are made
pub names_opened : (old mid : Built) (front : List Port) → old.outputs ≡ [] → AddsInputs old mid front → names mid ≡ names_of (inputs old) ++ names_of front
names_opened old mid front n h =
    ap (λ (ps : List Port). names_of ps ++ out_names mid.outputs) h.inputs
    ∙ ap (λ (os : List OutPort). names_of (inputs old ++ front) ++ out_names os) (h.outputs ∙ n)
    ∙ append-nil (names_of (inputs old ++ front))
    ∙ map-append (λ (port : Port). port.name) (inputs old) front

pub may_open : (b : Built) (ports : List Port) → b.outputs ≡ [] → MayAdd b ports → Differ (names_of (inputs b) ++ names_of ports)
may_open b ports n h = subst (λ (os : List OutPort). Differ (names_of (inputs b) ++ (out_names os ++ names_of ports))) n h

-- ---- names that ports may have

pub none_named : AreNamed []
none_named = record { each = All-nil (λ (port : Port). IsNamed (codes "p_") port.name) }

pub more_named : (ports more : List Port) (p : Port) → AreNamed ports → IsNamed (codes "p_") p.name → more ≡ ports ++ p ∷ [] → AreNamed more
more_named ports more p h n e = subst AreNamed (sym e) (record { each = All-append (λ (port : Port). IsNamed (codes "p_") port.name) ports (p ∷ []) h.each (All-cons (λ (port : Port). IsNamed (codes "p_") port.name) p [] n (All-nil (λ (port : Port). IsNamed (codes "p_") port.name))) })
