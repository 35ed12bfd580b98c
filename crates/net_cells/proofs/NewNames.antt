-- Names that are new one after another are those that differ.
use Rattle.std.proofs.Common.{ℕ, ◌≡◌, ◌≢◌, List, [], ◌∷◌, ◌++◌, Bool, true, false, cond, ◌&&◌, not, IsTrue, Option, None, Some, refl, sym, ap, ◌∙◌, inl, inr, arith, Result, Ok, Err}
use Rattle.std.specs.Prelude.{is_some, All, AllPairs, IfOk, map, ◌↔◌}
use Rattle.std.specs.Str.{bytes_eq}
use Rattle.std.proofs.lemmas.Bool.{cases_Bool, cond-false}
use Rattle.std.proofs.lemmas.Slice.Eq.{bytes_eq-Decides}
use Rattle.std.proofs.lemmas.List.Elements.{All-nil, All-cons, All-head, All-tail}
use Rattle.std.proofs.lemmas.List.Kept.{AllPairs-cons}
use Rattle.dip_lists.proofs.Tests.{both}
use Rattle.dip_lists.proofs.Pairs.{behind, rest_pairs}
use Rattle.net_cells.specs.declared.netlist.Port.{Port}
use Rattle.net_cells.specs.declared.netlist.OutPort.{OutPort}
use Rattle.net_cells.specs.declared.netlist.Netlist.{Netlist}
use Rattle.net_cells.specs.Rules.{port_names}
use Rattle.net_cells.specs.NameTables.{number_in, with_number, with_names, are_new}

abbrev IsNew : (List ℕ → Option ℕ) → List ℕ → Type 0
IsNew numbers name = numbers name ≡ None

no_number : (found : Option ℕ) → not (is_some found) ≡ true → found ≡ None
no_number None h = refl
no_number (Some number) h = (cc)

-- a name without a number where another has one now
apart_case : (same : Bool) (found : Option ℕ) → cond same (Some 0) found ≡ None → (same ≡ false) × (found ≡ None)
apart_case true found h = absurd (cc)
apart_case false found h = (refl, h)

still_new : (numbers : List ℕ → Option ℕ) (name other : List ℕ) → IsNew (with_number numbers name 0) other → (name ≢ other) × IsNew numbers other
still_new numbers name other h =
    let c = apart_case (bytes_eq name other) (numbers other) h in
    (λ e. let t : bytes_eq name other ≡ true = (bytes_eq-Decides name other).1 e in (cc), c.1)

new_still : (numbers : List ℕ → Option ℕ) (name other : List ℕ) → (name ≢ other) → IsNew numbers other → IsNew (with_number numbers name 0) other
new_still numbers name other apart h =
    elim (cases_Bool (bytes_eq name other)) [
      | inl is ↦ absurd (apart ((bytes_eq-Decides name other).0 is))
      | inr isnt ↦ cond-false (bytes_eq name other) (Some 0) (numbers other) isnt ∙ h
    ]

new_differ : (numbers : List ℕ → Option ℕ) (names : List (List ℕ)) → are_new numbers names ≡ true → All (IsNew numbers) names × AllPairs (λ x y. x ≢ y) names
new_differ numbers [] h = (All-nil (IsNew numbers), λ i j d before within. absurd (omega arith))
new_differ numbers (name ∷ names) h =
    let b = both (not (is_some (numbers name))) (are_new (with_number numbers name 0) names) h in
    let r = new_differ (with_number numbers name 0) names b.1 in (
      All-cons (IsNew numbers) name names (no_number (numbers name) b.0) (λ k d within. (still_new numbers name _ (r.0 k d within)).1),
      AllPairs-cons (λ x y. x ≢ y) name names (λ k d within. (still_new numbers name _ (r.0 k d within)).0) r.1,
    )

differ_new : (numbers : List ℕ → Option ℕ) (names : List (List ℕ)) → All (IsNew numbers) names → AllPairs (λ x y. x ≢ y) names → are_new numbers names ≡ true
differ_new numbers [] new differ = refl
differ_new numbers (name ∷ names) new differ =
    let here : numbers name ≡ None = All-head (IsNew numbers) name names new in
    let tail = All-tail (IsNew numbers) name names new in
    let apart = behind (λ x y. x ≢ y) name names differ in
    rw (here) (differ_new (with_number numbers name 0) names (λ k d within. new_still numbers name _ (apart k d within) (tail k d within)) (rest_pairs (λ x y. x ≢ y) name names differ))

assoc : (a b c : Bool) → (a && (b && c)) ≡ ((a && b) && c)
assoc true b c = refl
assoc false b c = refl

new_append : (numbers : List ℕ → Option ℕ) (xs ys : List (List ℕ)) → are_new numbers (xs ++ ys) ≡ (are_new numbers xs && are_new (with_names numbers xs) ys)
new_append numbers [] ys = refl
new_append numbers (x ∷ xs) ys = rw (new_append (with_number numbers x 0) xs ys) (assoc (not (is_some (numbers x))) (are_new (with_number numbers x 0) xs) (are_new (with_names (with_number numbers x 0) xs) ys))

-- names differ where they are new in an empty table
differ : (names : List (List ℕ)) → IsTrue (are_new (number_in []) names) ↔ AllPairs (λ x y. x ≢ y) names
differ names = (λ h. (new_differ (number_in []) names h).1, λ d. differ_new (number_in []) names (λ k e within. refl) d)

-- ---- names of inputs, and behind them of outputs

pub inputs_differ : (n : Netlist) (inputs : List Port) (table : List (List ℕ × ℕ)) (are : Bool) → inputs ≡ n.inputs → table ≡ []
    → are ≡ are_new (number_in table) (map (λ (p : Port). p.name) inputs) → are ≡ false → AllPairs (λ x y. x ≢ y) (port_names n) → ⊥
inputs_differ n inputs table are e f h same_names pairs =
    let ins = map (λ (p : Port). p.name) n.inputs in
    let outs = map (λ (o : OutPort). o.name) n.outputs in
    let all : are_new (number_in []) (ins ++ outs) ≡ true = (differ (ins ++ outs)).1 pairs in
    let front : are_new (number_in []) ins ≡ true = (both (are_new (number_in []) ins) (are_new (with_names (number_in []) ins) outs) (sym (new_append (number_in []) ins outs) ∙ all)).0 in
    let same : are_new (number_in table) (map (λ (p : Port). p.name) inputs) ≡ are_new (number_in []) ins = rw (e, f) refl in
    (cc)

outputs_differ : (n : Netlist) (numbers : List ℕ → Option ℕ) (are : Bool) → numbers ≡ with_names (number_in []) (map (λ (p : Port). p.name) n.inputs)
    → are_new (number_in []) (map (λ (p : Port). p.name) n.inputs) ≡ true → are ≡ are_new numbers (map (λ (o : OutPort). o.name) n.outputs) → IsTrue are ↔ AllPairs (λ x y. x ≢ y) (port_names n)
outputs_differ n numbers are e front h =
    let ins = map (λ (p : Port). p.name) n.inputs in
    let outs = map (λ (o : OutPort). o.name) n.outputs in
    let here : are ≡ are_new (with_names (number_in []) ins) outs = h ∙ ap (λ t. are_new t outs) e in
    let all : are_new (number_in []) (ins ++ outs) ≡ are = new_append (number_in []) ins outs ∙ ap (λ b. b && are_new (with_names (number_in []) ins) outs) front ∙ sym here in
    (λ is. (differ (ins ++ outs)).0 (all ∙ is), λ pairs. sym all ∙ (differ (ins ++ outs)).1 pairs)

pub all_differ : {E : Type 0} (n : Netlist) (inputs : List Port) (outputs : List OutPort) (first table : List (List ℕ × ℕ)) (front : Bool) (result : Result Bool E) → inputs ≡ n.inputs → outputs ≡ n.outputs → first ≡ []
    → front ≡ are_new (number_in first) (map (λ (p : Port). p.name) inputs)
    → (IsTrue front → number_in table ≡ with_names (number_in first) (map (λ (p : Port). p.name) inputs)) → front ≡ true
    → IfOk result (λ are. are ≡ are_new (number_in table) (map (λ (o : OutPort). o.name) outputs))
    → IfOk result (λ are. IsTrue are ↔ AllPairs (λ x y. x ≢ y) (port_names n))
all_differ n inputs outputs first table front (Err e) i o f a t is h = tt
all_differ n inputs outputs first table front (Ok are) i o f a t is h =
    let known : number_in table ≡ with_names (number_in []) (map (λ (p : Port). p.name) n.inputs) = t is ∙ rw (i, f) refl in
    let start : are_new (number_in []) (map (λ (p : Port). p.name) n.inputs) ≡ true = sym (a ∙ rw (i, f) refl) ∙ is in
    outputs_differ n (number_in table) are known start (h ∙ ap (λ os. are_new (number_in table) (map (λ (o : OutPort). o.name) os)) o)
