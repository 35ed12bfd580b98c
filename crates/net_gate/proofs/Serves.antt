-- What a gate does, by the wires that tell which heads are offered.
use Rattle.std.proofs.Common.{◌≡◌, ℕ, zero, suc, ◌+◌, ◌-◌, ◌<◌, ◌≤◌, Bool, true, false, cond, ◌&&◌, List, [], ◌∷◌, length, map, get_or, Option, Some, None, is_some, refl, sym, ap, ◌∙◌, arith, if◌then◌else◌}
use Rattle.std.specs.Prelude.{find, nat_eq}
use Rattle.std.specs.Option.{option_and_then, unwrap_or}
use Rattle.std.proofs.lemmas.List.{get_or-map, length-map}
use Rattle.flow_choice.specs.Choosing.{flag_at}
use Rattle.flow_choice.specs.Turns.{in_turn}
use Rattle.flow_core.specs.declared.locks.Gate.{Gate}
use Rattle.flow_core.specs.Crossing.{passed_by}
use Rattle.net_build.specs.declared.types.Wire.{Wire}
use Rattle.net_build.specs.Bits.{highs, row_picked, wire_values, zeros}
use Rattle.net_build.specs.Values.{high}
use Rattle.net_choice.specs.Choice.{one_hot, policy_if}
use Rattle.net_choice.proofs.InTurn.{here}
use Rattle.net_gate.specs.declared.types.Serving.{Serving}
use Rattle.net_gate.specs.Gates.{Served, gate_after, gate_machine, may_pass, offer_at, offers_at, passes, who_passes, served_at, sight_at}
use Rattle.net_gate.specs.Sides.{Asked}
use Rattle.net_gate.specs.Standing.{gate_moved, is_let, let_through}
use Rattle.net_gate.proofs.Stood.{later_of, same_by_eq}

no_wire : Wire
no_wire = record { number = 0; width = 0 }

selected_none : (fields n c : ℕ) (rows : List (List ℕ)) → row_picked fields (here (λ k. false) n c) rows ≡ zeros fields
selected_none fields n zero rows = refl
selected_none fields n (suc c) [] = refl
selected_none fields n (suc c) (r ∷ rows) = selected_none fields (n + 1) c rows

selected_one : (fields i n c : ℕ) (rows : List (List ℕ)) → length rows ≡ c → n ≤ i → i < n + c → row_picked fields (here (nat_eq i) n c) rows ≡ get_or rows (i - n) (zeros fields)
selected_one fields i n zero rows l h k = absurd (omega arith)
selected_one fields i n (suc c) [] l h k = absurd (omega arith)
selected_one fields i n (suc c) (r ∷ rows) l h k = at (nat_eq i n) refl (λ e. selected_one fields i (n + 1) c rows (omega arith) (later_of i n e h) (omega arith))
  where
    at : (b : Bool) → nat_eq i n ≡ b → (nat_eq i n ≡ false → row_picked fields (here (nat_eq i) (n + 1) c) rows ≡ get_or rows (i - (n + 1)) (zeros fields)) → (if b then r else row_picked fields (here (nat_eq i) (n + 1) c) rows) ≡ get_or (r ∷ rows) (i - n) (zeros fields)
    at true e g = let q = same_by_eq i n e in let z : 0 ≡ i - n = omega (arith, q) in ap (λ m. get_or (r ∷ rows) m (zeros fields)) z
    at false e g = let q = later_of i n e h in let z : suc (i - (n + 1)) ≡ i - n = omega (arith, q) in g e ∙ ap (λ m. get_or (r ∷ rows) m (zeros fields)) z

-- ---- what is offered

pub offers_are : (v : ℕ → ℕ) (wants : List Wire) (rows : List (List Wire)) (who : ℕ) → length rows ≡ length wants → get_or (offers_at v wants rows) who None ≡ cond (flag_at (highs v wants) who) (Some (wire_values v (get_or rows who []))) None
offers_are v [] rows who l = refl
offers_are v (w ∷ ws) [] who l = absurd (omega (arith, l))
offers_are v (w ∷ ws) (r ∷ rs) zero l = refl
offers_are v (w ∷ ws) (r ∷ rs) (suc who) l = offers_are v ws rs who (omega (arith, l))

some_offer : (b : Bool) (x : List ℕ) → is_some (cond b (Some x) None) ≡ b
some_offer true x = refl
some_offer false x = refl

pub let_same : (v : ℕ → ℕ) (gate : Gate) (wants : List Wire) (ready : Wire) (rows : List (List Wire)) (rests : List ℕ) (who : ℕ) → length rows ≡ length wants
    → may_pass gate (sight_at wants ready rows v) who ≡ is_let gate (record { wants = highs v wants; room = high v ready; rests = rests }) who
let_same v gate wants ready rows rests who l = ap (λ (b : Bool). (b && passes gate.lock who) && high v ready) (ap is_some (offers_are v wants rows who l) ∙ some_offer (flag_at (highs v wants) who) (wire_values v (get_or rows who [])))

pub find_same : (p q : ℕ → Bool) → ((n : ℕ) → p n ≡ q n) → (ns : List ℕ) → find p ns ≡ find q ns
find_same p q h [] = refl
find_same p q h (n ∷ ns) = ap (λ (b : Bool). cond b (Some n) (find p ns)) (h n) ∙ ap (λ (o : Option ℕ). cond (q n) (Some n) o) (find_same p q h ns)

pub served_same : (v : ℕ → ℕ) (round : Bool) (count : ℕ) (gate : Gate) (wants : List Wire) (ready : Wire) (rows : List (List Wire)) (rests : List ℕ) → length rows ≡ length wants
    → who_passes round count gate (sight_at wants ready rows v) ≡ let_through round count gate (record { wants = highs v wants; room = high v ready; rests = rests })
served_same v round count gate wants ready rows rests l = find_same _ _ (λ n. let_same v gate wants ready rows rests n l) (in_turn (policy_if round) gate.next count)

-- ---- what is put

flag_of : (a b c : Bool) → ((a && b) && c) ≡ true → a ≡ true
flag_of true b c e = refl
flag_of false b c e = absurd (let f : false ≡ true = e in cc)

pub offered : (v : ℕ → ℕ) (gate : Gate) (wants : List Wire) (ready : Wire) (rows : List (List Wire)) (rests : List ℕ) (who : ℕ) → length rows ≡ length wants
    → is_let gate (record { wants = highs v wants; room = high v ready; rests = rests }) who ≡ true
    → (flag_at (highs v wants) who ≡ true) × (offer_at (sight_at wants ready rows v) who ≡ Some (wire_values v (get_or rows who [])))
offered v gate wants ready rows rests who l p =
    let f = flag_of (flag_at (highs v wants) who) (passes gate.lock who) (high v ready) p in
    (f, offers_are v wants rows who l ∙ ap (λ (b : Bool). cond b (Some (wire_values v (get_or rows who []))) None) f)

abbrev pub serving_of : List Bool → Option (List ℕ) → Served
serving_of grants put = record { grants = grants; put = put }

pub does_so : (v : ℕ → ℕ) (rest : List ℕ → ℕ) (round : Bool) (gate : Gate) (wants : List Wire) (ready : Wire) (rows : List (List Wire)) (rests : List ℕ) (fields : ℕ) (s : Serving) → length rows ≡ length wants
    → highs v s.grants ≡ one_hot (length wants) (let_through round (length wants) gate (record { wants = highs v wants; room = high v ready; rests = rests }))
    → high v s.valid ≡ is_some (let_through round (length wants) gate (record { wants = highs v wants; room = high v ready; rests = rests }))
    → wire_values v s.items ≡ row_picked fields (highs v s.grants) (map (wire_values v) rows)
    → ((i : ℕ) → let_through round (length wants) gate (record { wants = highs v wants; room = high v ready; rests = rests }) ≡ Some i → (i < length wants) × (is_let gate (record { wants = highs v wants; room = high v ready; rests = rests }) i ≡ true))
    → served_at s v ≡ (gate_machine round (length wants) rest).does gate (sight_at wants ready rows v)
does_so v rest round gate wants ready rows rests fields s l g k m p =
    let asked : Asked = record { wants = highs v wants; room = high v ready; rests = rests } in
    let o = let_through round (length wants) gate asked in
    ap (λ gs. serving_of gs (cond (high v s.valid) (Some (wire_values v s.items)) None)) g
    ∙ ap (serving_of (one_hot (length wants) o)) (ap (λ (b : Bool). cond b (Some (wire_values v s.items)) None) k ∙ put o (m ∙ ap (λ gs. row_picked fields gs (map (wire_values v) rows)) g) p)
    ∙ ap (λ c. serving_of (one_hot (length wants) c) (option_and_then (offer_at (sight_at wants ready rows v)) c)) (sym (served_same v round (length wants) gate wants ready rows rests l))
  where
    put : (o : Option ℕ) → wire_values v s.items ≡ row_picked fields (one_hot (length wants) o) (map (wire_values v) rows)
        → ((i : ℕ) → o ≡ Some i → (i < length wants) × (is_let gate (record { wants = highs v wants; room = high v ready; rests = rests }) i ≡ true))
        → cond (is_some o) (Some (wire_values v s.items)) None ≡ option_and_then (offer_at (sight_at wants ready rows v)) o
    put None e h = refl
    put (Some i) e h =
        let q = h i refl in
        let n : length (map (wire_values v) rows) ≡ length wants = length-map rows (wire_values v) ∙ l in
        let b : i < length rows = omega (arith, q.0, l) in
        ap Some (e ∙ selected_one fields i 0 (length wants) (map (wire_values v) rows) n (omega arith) (omega (arith, q.0)) ∙ ap (λ (m : ℕ). get_or (map (wire_values v) rows) m (zeros fields)) (omega arith) ∙ get_or-map (wire_values v) rows i [] (zeros fields) b)
        ∙ sym (offered v gate wants ready rows rests i l q.1).1

pub after_same : (rest : List ℕ → ℕ) (count : ℕ) (gate : Gate) (x : Asked) (v : ℕ → ℕ) (wants : List Wire) (ready : Wire) (rows : List (List Wire)) (o : Option ℕ)
    → ((i : ℕ) → o ≡ Some i → get_or x.rests i 0 ≡ rest (unwrap_or (offer_at (sight_at wants ready rows v) i) []))
    → gate_moved count gate x o ≡ gate_after rest count gate (sight_at wants ready rows v) o
after_same rest count gate x v wants ready rows None h = refl
after_same rest count gate x v wants ready rows (Some i) h = ap (λ (n : ℕ). unwrap_or (passed_by gate.lock gate.next i count (n + 1)) gate) (h i refl)
