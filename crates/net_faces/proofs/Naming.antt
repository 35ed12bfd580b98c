-- The names of further ports differ from those of the ports before them.
use Rattle.std.proofs.Common.{◌≡◌, ◌≢◌, ℕ, zero, suc, ◌+◌, ◌<◌, List, [], ◌∷◌, ◌++◌, length, map, take, drop, get_or, Some, refl, sym, ap, ◌∙◌, subst, arith}
use Rattle.std.specs.Prelude.{flat_map, slice_get}
use Rattle.std.specs.List.{AllByRecursion}
use Rattle.std.proofs.lemmas.List.{append_assoc, append-nil, flat_map_more, get_or_default, map-append, take_more}
use Rattle.tl_edge.specs.declared.plan.PlanPort.{PlanPort}
use Rattle.tl_edge.specs.declared.plan.Plan.{Plan}
use Rattle.tl_edge.specs.SoundPlans.{IsSound}
use Rattle.net_cells.specs.declared.netlist.OutPort.{OutPort}
use Rattle.net_cells.specs.declared.netlist.Port.{Port}
use Rattle.net_build.specs.declared.types.Wire.{Wire}
use Rattle.net_build.specs.Built.{Built, inputs}
use Rattle.net_build.specs.Sound.{Differ}
use Rattle.net_build.specs.Values.{Later}
use Rattle.net_build.proofs.OpenedLists.{widths_later}
use Rattle.net_build.proofs.Steps.{later_later}
use Rattle.net_ports.specs.Names.{names_of}
use Rattle.net_ports.specs.Ports.{port_inputs, port_outputs, reset_input}
use Rattle.net_ports.specs.Rows.{AddsInputs, AddsOutputs, MayAdd, shown_outputs, widths_of_ports}
use Rattle.net_ports.proofs.Differing.{names_differ}
use Rattle.net_faces.specs.Showing.{AreRowsOf, all_shown}

abbrev out_names : List OutPort → List (List ℕ)
out_names outs = map (λ (o : OutPort). o.name) outs

names_append : (xs ys : List Port) → names_of (xs ++ ys) ≡ names_of xs ++ names_of ys
names_append xs ys = map-append (λ (port : Port). port.name) xs ys

outs_append : (xs ys : List OutPort) → out_names (xs ++ ys) ≡ out_names xs ++ out_names ys
outs_append xs ys = map-append (λ (o : OutPort). o.name) xs ys

-- ---- a front of names that differ

front_each : (P : List ℕ → Type 0) (xs ys : List (List ℕ)) → AllByRecursion P (xs ++ ys) → AllByRecursion P xs
front_each P [] ys h = search
front_each P (x ∷ xs) ys h = (h.0, front_each P xs ys h.1)

front_differs : (xs ys : List (List ℕ)) → Differ (xs ++ ys) → Differ xs
front_differs [] ys h = search
front_differs (x ∷ xs) ys h = (front_each (λ y. x ≢ y) xs ys h.0, front_differs xs ys h.1)

-- ---- which ports may come

pub may_front : (b : Built) (xs ys : List Port) → MayAdd b (xs ++ ys) → MayAdd b xs
may_front b xs ys h =
    let n = names_of (inputs b) in
    let o = out_names b.outputs in
    let e : n ++ (o ++ names_of (xs ++ ys)) ≡ (n ++ (o ++ names_of xs)) ++ names_of ys =
    ap (λ (zs : List (List ℕ)). n ++ (o ++ zs)) (names_append xs ys)
    ∙ ap (λ (zs : List (List ℕ)). n ++ zs) (sym (append_assoc o (names_of xs) (names_of ys)))
    ∙ sym (append_assoc n (o ++ names_of xs) (names_of ys)) in
    front_differs (n ++ (o ++ names_of xs)) (names_of ys) (subst Differ e h)

-- after inputs
pub may_after_inputs : (old mid : Built) (xs ys : List Port) → old.outputs ≡ [] → AddsInputs old mid xs → MayAdd old (xs ++ ys) → MayAdd mid ys
may_after_inputs old mid xs ys none h may =
    let n = names_of (inputs old) in
    let e : n ++ (out_names old.outputs ++ names_of (xs ++ ys)) ≡ names_of (inputs mid) ++ (out_names mid.outputs ++ names_of ys) =
    ap (λ (os : List OutPort). n ++ (out_names os ++ names_of (xs ++ ys))) none
    ∙ ap (λ (zs : List (List ℕ)). n ++ zs) (names_append xs ys)
    ∙ sym (append_assoc n (names_of xs) (names_of ys))
    ∙ ap (λ (zs : List (List ℕ)). zs ++ names_of ys) (sym (names_append (inputs old) xs))
    ∙ ap (λ (ps : List Port). names_of ps ++ names_of ys) (sym h.inputs)
    ∙ ap (λ (os : List OutPort). names_of (inputs mid) ++ (out_names os ++ names_of ys)) (sym (h.outputs ∙ none)) in
    subst Differ e may

-- after outputs
pub may_after_outputs : (old mid : Built) (xs ys : List Port) (shown : List OutPort) → AddsOutputs old mid shown → out_names shown ≡ names_of xs → MayAdd old (xs ++ ys) → MayAdd mid ys
may_after_outputs old mid xs ys shown h s may =
    let n = names_of (inputs old) in
    let o = out_names old.outputs in
    let e : n ++ (o ++ names_of (xs ++ ys)) ≡ names_of (inputs mid) ++ (out_names mid.outputs ++ names_of ys) =
    ap (λ (zs : List (List ℕ)). n ++ (o ++ zs)) (names_append xs ys)
    ∙ ap (λ (zs : List (List ℕ)). n ++ zs) (sym (append_assoc o (names_of xs) (names_of ys)))
    ∙ ap (λ (zs : List (List ℕ)). n ++ ((o ++ zs) ++ names_of ys)) (sym s)
    ∙ ap (λ (zs : List (List ℕ)). n ++ (zs ++ names_of ys)) (sym (outs_append old.outputs shown))
    ∙ ap (λ (os : List OutPort). n ++ (out_names os ++ names_of ys)) (sym h.outputs)
    ∙ ap (λ (ps : List Port). names_of ps ++ (out_names mid.outputs ++ names_of ys)) (sym h.inputs) in
    subst Differ e may

-- ---- all ports of a plan

pub may_open_all : (b : Built) (plan : Plan) → IsSound plan → inputs b ≡ reset_input ∷ [] → b.outputs ≡ [] → MayAdd b (port_inputs plan)
may_open_all b plan sound i o =
    let law = names_differ plan sound in
    let e : names_of ((reset_input ∷ port_inputs plan) ++ port_outputs plan) ≡ names_of (reset_input ∷ port_inputs plan) ++ names_of (port_outputs plan) = names_append (reset_input ∷ port_inputs plan) (port_outputs plan) in
    let front : Differ (names_of (reset_input ∷ []) ++ names_of (port_inputs plan)) = front_differs (names_of (reset_input ∷ port_inputs plan)) (names_of (port_outputs plan)) (subst Differ e law) in
    subst (λ (os : List OutPort). Differ (names_of (inputs b) ++ (out_names os ++ names_of (port_inputs plan)))) (sym o)
    (subst (λ (ps : List Port). Differ (names_of ps ++ names_of (port_inputs plan))) (sym i) front)

pub may_show_all : (b : Built) (plan : Plan) → IsSound plan → inputs b ≡ reset_input ∷ port_inputs plan → b.outputs ≡ [] → MayAdd b (port_outputs plan)
may_show_all b plan sound i o =
    let law = names_differ plan sound in
    let e : names_of ((reset_input ∷ port_inputs plan) ++ port_outputs plan) ≡ names_of (reset_input ∷ port_inputs plan) ++ names_of (port_outputs plan) = names_append (reset_input ∷ port_inputs plan) (port_outputs plan) in
    let whole : Differ (names_of (reset_input ∷ port_inputs plan) ++ names_of (port_outputs plan)) = subst Differ e law in
    subst (λ (os : List OutPort). Differ (names_of (inputs b) ++ (out_names os ++ names_of (port_outputs plan)))) (sym o)
    (subst (λ (ps : List Port). Differ (names_of ps ++ names_of (port_outputs plan))) (sym i) whole)

-- ---- one port after another

pub taken_more : {A : Type 0} (xs : List A) (k : ℕ) (x : A) → k < length xs → x ≡ get_or xs k x → take (k + 1) xs ≡ take k xs ++ x ∷ []
taken_more {A} xs k x l e = take_more xs k x l ∙ ap (λ (y : A). take k xs ++ y ∷ []) (sym e)

pub flat_more : {A B : Type 0} (f : A → List B) (xs : List A) (k : ℕ) (x : A) → k < length xs → x ≡ get_or xs k x → flat_map f (take (k + 1) xs) ≡ flat_map f (take k xs) ++ f x
flat_more f xs k x l e = ap (flat_map f) (taken_more xs k x l e) ∙ sym (flat_map_more f [] (take k xs) x)

pub flat_split : {A B : Type 0} (f : A → List B) (xs : List A) (k : ℕ) (x : A) → k < length xs → x ≡ get_or xs k x → flat_map f xs ≡ flat_map f (take k xs) ++ (f x ++ flat_map f (drop (suc k) xs))
flat_split f [] k x l e = absurd (omega (arith, l))
flat_split {A} f (y ∷ xs) zero x l e = ap (λ (z : A). f z ++ flat_map f xs) (sym e)
flat_split {B = B} f (y ∷ xs) (suc k) x l e =
    ap (λ (zs : List B). f y ++ zs) (flat_split f xs k x (omega (arith, l)) e)
    ∙ sym (append_assoc (f y) (flat_map f (take k xs)) (f x ++ flat_map f (drop (suc k) xs)))

pub may_open_next : (old mid : Built) (f : PlanPort → List Port) (all : List PlanPort) (k : ℕ) (at : PlanPort) → k < length all → at ≡ get_or all k at → old.outputs ≡ [] → AddsInputs old mid (flat_map f (take k all)) → MayAdd old (flat_map f all) → MayAdd mid (f at)
may_open_next old mid f all k at l e none h may =
    let front = flat_map f (take k all) in
    let rest = flat_map f (drop (suc k) all) in
    may_front mid (f at) rest (may_after_inputs old mid front (f at ++ rest) none h (subst (MayAdd old) (flat_split f all k at l e) may))

-- ---- outputs

outs_shown : (ports : List Port) (ws : List Wire) → length ws ≡ length ports → out_names (shown_outputs ports ws) ≡ names_of ports
outs_shown [] ws m = refl
outs_shown (p ∷ ports) [] m = absurd (omega (arith, m))
outs_shown (p ∷ ports) (w ∷ ws) m = ap (λ (xs : List (List ℕ)). p.name ∷ xs) (outs_shown ports ws (omega (arith, m)))

-- rows of as many wires as the ports have
abbrev pub AreAsLong : (PlanPort → List Port) → List PlanPort → List (List Wire) → Type 0
AreAsLong f all rows = (port : ℕ) (at : PlanPort) → slice_get all port ≡ Some at → length (get_or rows port []) ≡ length (f at)

pub all_names : (f : PlanPort → List Port) (all : List PlanPort) (rows : List (List Wire)) → length rows ≡ length all → AreAsLong f all rows → out_names (all_shown f all rows) ≡ names_of (flat_map f all)
all_names f [] rows m h = refl
all_names f (at ∷ all) [] m h = absurd (omega (arith, m))
all_names f (at ∷ all) (row ∷ rows) m h =
    outs_append (shown_outputs (f at) row) (all_shown f all rows)
    ∙ ap (λ (xs : List (List ℕ)). xs ++ out_names (all_shown f all rows)) (outs_shown (f at) row (h 0 at refl))
    ∙ ap (λ (xs : List (List ℕ)). names_of (f at) ++ xs) (all_names f all rows (omega (arith, m)) (λ port x e. h (suc port) x e))
    ∙ sym (names_append (f at) (flat_map f all))

front_names : (f : PlanPort → List Port) (all : List PlanPort) (rows : List (List Wire)) (k : ℕ) → length rows ≡ length all → AreAsLong f all rows → out_names (all_shown f (take k all) (take k rows)) ≡ names_of (flat_map f (take k all))
front_names f all rows zero m h = refl
front_names f [] rows (suc k) m h = refl
front_names f (at ∷ all) [] (suc k) m h = absurd (omega (arith, m))
front_names f (at ∷ all) (row ∷ rows) (suc k) m h =
    outs_append (shown_outputs (f at) row) (all_shown f (take k all) (take k rows))
    ∙ ap (λ (xs : List (List ℕ)). xs ++ out_names (all_shown f (take k all) (take k rows))) (outs_shown (f at) row (h 0 at refl))
    ∙ ap (λ (xs : List (List ℕ)). names_of (f at) ++ xs) (front_names f all rows k (omega (arith, m)) (λ port x e. h (suc port) x e))
    ∙ sym (names_append (f at) (flat_map f (take k all)))

pub may_show_next : (old mid : Built) (f : PlanPort → List Port) (all : List PlanPort) (rows : List (List Wire)) (k : ℕ) (at : PlanPort) → k < length all → at ≡ get_or all k at → length rows ≡ length all → AreAsLong f all rows
    → AddsOutputs old mid (all_shown f (take k all) (take k rows)) → MayAdd old (flat_map f all) → MayAdd mid (f at)
may_show_next old mid f all rows k at l e m long h may =
    let front = flat_map f (take k all) in
    let rest = flat_map f (drop (suc k) all) in
    may_front mid (f at) rest
    (may_after_outputs old mid front (f at ++ rest) (all_shown f (take k all) (take k rows)) h (front_names f all rows k m long) (subst (MayAdd old) (flat_split f all k at l e) may))

pub shown_more : (f : PlanPort → List Port) (all : List PlanPort) (rows : List (List Wire)) (k : ℕ) (at : PlanPort) (row : List Wire) → k < length all → length rows ≡ length all → at ≡ get_or all k at → row ≡ get_or rows k []
    → all_shown f (take (k + 1) all) (take (k + 1) rows) ≡ all_shown f (take k all) (take k rows) ++ shown_outputs (f at) row
shown_more f all rows k at row l m e g = ap (λ (n : ℕ). all_shown f (take n all) (take n rows)) (let q : k + 1 ≡ suc k = omega arith in q) ∙ step all rows k l m e g
  where
    step : (all : List PlanPort) (rows : List (List Wire)) (k : ℕ) → k < length all → length rows ≡ length all → at ≡ get_or all k at → row ≡ get_or rows k []
        → all_shown f (take (suc k) all) (take (suc k) rows) ≡ all_shown f (take k all) (take k rows) ++ shown_outputs (f at) row
    step [] rows k l m e g = absurd (omega (arith, l))
    step (x ∷ all) [] k l m e g = absurd (omega (arith, m))
    step (x ∷ all) (y ∷ rows) zero l m e g = append-nil (shown_outputs (f x) y) ∙ ap (λ (z : PlanPort). shown_outputs (f z) y) (sym e) ∙ ap (shown_outputs (f at)) (sym g)
    step (x ∷ all) (y ∷ rows) (suc k) l m e g =
        ap (λ (os : List OutPort). shown_outputs (f x) y ++ os) (step all rows k (omega (arith, l)) (omega (arith, m)) e g)
        ∙ sym (append_assoc (shown_outputs (f x) y) (all_shown f (take k all) (take k rows)) (shown_outputs (f at) row))

-- the row at a place
pub row_at : (rows : List (List Wire)) (k : ℕ) (row slice : List Wire) → slice ≡ row → k < length rows → row ≡ get_or rows k row → slice ≡ get_or rows k []
row_at rows k row slice e l i = e ∙ i ∙ get_or_default rows k row [] l

pub rows_later : (old new : Built) (f : PlanPort → List Port) (all : List PlanPort) (rows slice : List (List Wire)) → slice ≡ rows → Later old new → AreRowsOf old f all rows → AreRowsOf new f all slice
rows_later old new f all rows slice e g h = subst (AreRowsOf new f all) (sym e) (record {
  long = h.long;
  each = λ port at i. let x = h.each port at i in (x.0, widths_later old new (widths_of_ports (f at)) (get_or rows port []) g x.1);
})

pub adds_both_outputs : (old mid new : Built) (front back all : List OutPort) → AddsOutputs old mid front → AddsOutputs mid new back → all ≡ front ++ back → AddsOutputs old new all
adds_both_outputs old mid new front back all h g e = record {
  later = later_later old mid new h.later g.later;
  inputs = g.inputs ∙ h.inputs;
  outputs = g.outputs ∙ ap (λ (os : List OutPort). os ++ back) h.outputs ∙ append_assoc old.outputs front back ∙ ap (λ (os : List OutPort). old.outputs ++ os) (sym e);
  undriven = g.undriven ∙ h.undriven;
}
