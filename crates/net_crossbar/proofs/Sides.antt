-- One gate of many: what its wires tell, by what the network states that it sees.
use Rattle.std.proofs.Common.{◌≡◌, ℕ, zero, suc, ◌+◌, ◌<◌, ◌≤◌, Bool, true, false, cond, ◌||◌, List, [], ◌∷◌, length, map, get_or, Option, Some, None, refl, sym, ap, ◌∙◌, arith}
use Rattle.std.specs.Prelude.{◌==◌}
use Rattle.std.specs.List.{list_any, range_with_len}
use Rattle.std.specs.Option.{option_and_then, option_map}
use Rattle.std.proofs.lemmas.List.{get_or-map, length-map}
use Rattle.flow_core.specs.declared.locks.Gate.{Gate}
use Rattle.flow_core.specs.Leaves.{open_gate}
use Rattle.net_build.specs.declared.types.Wire.{Wire}
use Rattle.net_build.specs.Bits.{highs, wire_values}
use Rattle.net_build.specs.Built.{Built}
use Rattle.net_build.specs.Columns.{no_wire}
use Rattle.net_build.specs.Values.{Solves, high}
use Rattle.net_choice.specs.Choice.{is_number, one_hot}
use Rattle.net_gate.specs.declared.types.Serving.{Serving}
use Rattle.net_gate.specs.Gates.{IsGate, Served, Sight, gate_after, offer_at, served_at, who_passes}
use Rattle.net_crossbar.proofs.Agreeing.{Agrees, agree_after, agree_put, agree_who}
use Rattle.net_crossbar.proofs.Standing.{Stand, serves, sight_of, who_of}

-- ---- lists over numbers

pub ranged : {A : Type 0} (f : ℕ → A) (from n k : ℕ) (d : A) → k < n → get_or (map f (range_with_len from n)) k d ≡ f (from + k)
ranged f from zero k d l = absurd (omega (arith, l))
ranged f from (suc n) zero d l = let e : from ≡ from + zero = omega arith in ap f e
ranged f from (suc n) (suc k) d l = let e : from + 1 + k ≡ from + suc k = omega arith in ranged f (from + 1) n k d (omega (arith, l)) ∙ ap f e

pub range_long : (from n : ℕ) → length (range_with_len from n) ≡ n
range_long from zero = refl
range_long from (suc n) = ap suc (range_long (from + 1) n)

pub any_numbers : {A : Type 0} (p : A → Bool) (q : ℕ → Bool) (from : ℕ) (xs : List A) → ((k : ℕ) (d : A) → k < length xs → p (get_or xs k d) ≡ q (from + k)) → list_any p xs ≡ list_any q (range_with_len from (length xs))
any_numbers p q from [] h = refl
any_numbers p q from (x ∷ xs) h =
    let z : from + 0 ≡ from = omega arith in
    ap (λ (c : Bool). c || list_any p xs) (h 0 x (omega arith) ∙ ap q z)
    ∙ ap (λ (c : Bool). q from || c) (any_numbers p q (from + 1) xs (λ k d l. let e : from + suc k ≡ from + 1 + k = omega arith in h (suc k) d (omega (arith, l)) ∙ ap q e))

one_flag : (count : ℕ) (who : Option ℕ) (k : ℕ) → k < count → get_or (one_hot count who) k false ≡ is_number who k
one_flag count who k l = let e : 0 + k ≡ k = omega arith in ranged (is_number who) 0 count k false l ∙ ap (is_number who) e

-- ---- one gate

module _ (b : Built) (round : Bool) (behind : List ℕ → ℕ) (few : (items : List ℕ) → behind items ≤ 255) (count : ℕ) (wants : List (List Wire)) (readies : List Wire) (rows : List (List Wire))
    (long : (t : ℕ) → t < length wants → length (get_or wants t []) ≡ count)
    (v : ℕ → ℕ) (q : Solves b v) (z : (v 0 == 1) ≡ false) (gates : List Gate) (stand : Stand b round behind few count wants readies rows long v gates)
    (t : ℕ) (l : t < length wants) (rest : List ℕ → ℕ) (move : List ℕ → List ℕ) (y : Sight) (agrees : Agrees rest behind move (sight_of b round behind few count wants readies rows long t v) y) where
  abbrev seen : Sight
  seen = sight_of b round behind few count wants readies rows long t v

  abbrev gate_here : Gate
  gate_here = get_or gates t open_gate

  abbrev who_here : Option ℕ
  who_here = who_of b round behind few count wants readies rows long v gates t

  same_who : who_passes round count gate_here y ≡ who_here
  same_who = agree_who rest behind move seen y agrees round count gate_here

  module _ (s : Serving) (gate : IsGate b round behind 255 (get_or wants t []) (get_or readies t no_wire) rows s) where
    told : served_at s v ≡ record { grants = one_hot count who_here; put = option_and_then (offer_at seen) who_here }
    told = serves b round behind few count wants readies rows long v gates t s l gate q z stand

    grants_told : highs v s.grants ≡ one_hot count who_here
    grants_told = ap (λ (x : Served). x.grants) told

    grants_long : length s.grants ≡ count
    grants_long = sym (length-map s.grants (high v)) ∙ ap length grants_told ∙ length-map (range_with_len 0 count) (is_number who_here) ∙ range_long 0 count

    -- whom it takes
    pub side_grant : (k : ℕ) → k < count → high v (get_or s.grants k no_wire) ≡ is_number (who_passes round count gate_here y) k
    side_grant k m =
        sym (get_or-map (high v) s.grants k no_wire false (omega (arith, m, grants_long)))
        ∙ ap (λ (bs : List Bool). get_or bs k false) grants_told
        ∙ one_flag count who_here k m
        ∙ ap (λ (o : Option ℕ). is_number o k) (sym same_who)

    put_of_wires : (c : Bool) (values putv : List ℕ) (o : Option (List ℕ)) → cond c (Some values) None ≡ o → ((items : List ℕ) → o ≡ Some items → values ≡ items → putv ≡ move items) → cond c (Some putv) None ≡ option_map move o
    put_of_wires true values putv o e h = ap Some (h values (sym e) refl) ∙ ap (option_map move) e
    put_of_wires false values putv o e h = ap (option_map move) e

    -- what it puts, where the put's wires have the fields of what is put
    pub side_put : (putv : List ℕ) → ((items : List ℕ) → option_and_then (offer_at seen) who_here ≡ Some items → wire_values v s.items ≡ items → putv ≡ move items)
        → cond (high v s.valid) (Some putv) None ≡ option_and_then (offer_at y) (who_passes round count gate_here y)
    side_put putv h =
        put_of_wires (high v s.valid) (wire_values v s.items) putv (option_and_then (offer_at seen) who_here) (ap (λ (x : Served). x.put) told) h
        ∙ sym (agree_put rest behind move seen y agrees who_here)
        ∙ ap (option_and_then (offer_at y)) (sym same_who)

    -- what is put, as the network states it
    pub side_served : option_and_then (offer_at y) (who_passes round count gate_here y) ≡ option_map move (option_and_then (offer_at seen) who_here)
    side_served = ap (option_and_then (offer_at y)) same_who ∙ agree_put rest behind move seen y agrees who_here

  -- its next state
  pub side_next : gate_after rest count gate_here y (who_passes round count gate_here y) ≡ gate_after behind count gate_here seen who_here
  side_next = agree_after rest behind move seen y agrees count gate_here (who_passes round count gate_here y) ∙ ap (gate_after behind count gate_here seen) same_who
