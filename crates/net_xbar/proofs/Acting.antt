-- The acts through one gate.
use Rattle.std.proofs.Common.{◌≡◌, ℕ, zero, suc, ◌+◌, ◌<◌, Bool, true, false, cond, ◌&&◌, List, [], ◌∷◌, length, map, get_or, Option, Some, None, is_some, refl, sym, ap, ◌∙◌, arith}
use Rattle.std.specs.Prelude.{find, slice_get, ◌==◌}
use Rattle.std.specs.Option.{option_and_then, option_map, unwrap_or}
use Rattle.flow_choice.specs.Turns.{in_turn}
use Rattle.flow_core.specs.Acts.{Act, forwards}
use Rattle.flow_core.specs.declared.locks.Gate.{Gate}
use Rattle.flow_core.specs.declared.locks.Lock.{Lock}
use Rattle.flow_core.specs.Crossing.{lock_after, passed_by}
use Rattle.flow_core.specs.Leaves.{LeafState}
use Rattle.net_choice.specs.Choice.{policy_if}
use Rattle.net_gate.specs.Gates.{Sight, gate_after, may_pass, offer_at, passes, who_passes}
use Rattle.net_gate.proofs.Serves.{find_same}
use Rattle.net_queue.specs.Adapters.{put_by, state_by, with_room}
use Rattle.net_xbar.specs.Crossings.{put_of, state_through}
use Rattle.net_xbar.specs.Ways.{offers_from}

-- ---- lists

pub slice_get_at : {A : Type 0} (xs : List A) (k : ℕ) (d : A) → k < length xs → slice_get xs k ≡ Some (get_or xs k d)
slice_get_at [] k d l = absurd (omega (arith, l))
slice_get_at (x ∷ xs) zero d l = refl
slice_get_at (x ∷ xs) (suc k) d l = slice_get_at xs k d (omega (arith, l))

pub offers_at_place : {B C : Type 0} (asks : ℕ → B → Option C) (from : ℕ) (heads : List (Option B)) (k : ℕ) → get_or (offers_from asks from heads) k None ≡ option_and_then (asks (from + k)) (get_or heads k None)
offers_at_place asks from [] k = refl
offers_at_place asks from (h ∷ hs) zero = let e : from + zero ≡ from = omega arith in rw e refl
offers_at_place asks from (h ∷ hs) (suc k) = let e : (from + 1) + k ≡ from + suc k = omega arith in offers_at_place asks (from + 1) hs k ∙ ap (λ n. option_and_then (asks n) (get_or hs k None)) e

pub map_at : {B : Type 0} (fields : B → List ℕ) (xs : List (Option B)) (k : ℕ) → get_or (map (option_map fields) xs) k None ≡ option_map fields (get_or xs k None)
map_at fields [] k = refl
map_at fields (x ∷ xs) zero = refl
map_at fields (x ∷ xs) (suc k) = map_at fields xs k

some_map : {A C : Type 0} (f : A → C) (o : Option A) → is_some (option_map f o) ≡ is_some o
some_map f None = refl
some_map f (Some x) = refl

-- a gate that is left, where it may pass
abbrev kept : Option Lock → ℕ → Bool → Option Gate
kept lock next c = cond c (Some (record { lock = lock; next = next })) None

-- whether a gate is left for one
some_passed : (lock : Option Lock) (next who count beats : ℕ) → is_some (passed_by lock next who count beats) ≡ passes lock who
some_passed None next who count beats = refl
some_passed (Some lock) next who count beats = at (lock.by == who)
  where
    at : (c : Bool) → is_some (kept (lock_after who lock.left) next c) ≡ c
    at true = refl
    at false = refl

-- ---- one act: a beat that is offered passes where there is room

module _ {B : Type 0} where
  abbrev pub through : Bool → Option Lock → ℕ → ℕ → ℕ → (B → ℕ) → (Gate → LeafState) → B → Option (Act B LeafState)
  through room lock next who count beats state beat = option_and_then (with_room room) (option_map (λ (gate : Gate). forwards beat (state gate)) (passed_by lock next who count (beats beat)))

  abbrev pub offer_act : Bool → Option Lock → ℕ → ℕ → ℕ → (B → ℕ) → (Gate → LeafState) → Option B → Option (Act B LeafState)
  offer_act room lock next who count beats state offer = option_and_then (through room lock next who count beats state) offer

  passing : (room : Bool) (passed : Option Gate) (state : Gate → LeafState) (beat : B) → is_some (option_and_then (with_room room) (option_map (λ (gate : Gate). forwards beat (state gate)) passed)) ≡ (is_some passed && room)
  passing true None state beat = refl
  passing false None state beat = refl
  passing true (Some gate) state beat = refl
  passing false (Some gate) state beat = refl

  pub act_some : (room : Bool) (lock : Option Lock) (next who count : ℕ) (beats : B → ℕ) (state : Gate → LeafState) (offer : Option B) → is_some (offer_act room lock next who count beats state offer) ≡ ((is_some offer && passes lock who) && room)
  act_some room lock next who count beats state None = refl
  act_some room lock next who count beats state (Some beat) = passing room (passed_by lock next who count (beats beat)) state beat ∙ ap (λ (c : Bool). c && room) (some_passed lock next who count (beats beat))

  put_passed : (room : Bool) (passed : Option Gate) (state : Gate → LeafState) (beat : B) → (is_some passed && room) ≡ true → put_by (option_and_then (with_room room) (option_map (λ (gate : Gate). forwards beat (state gate)) passed)) ≡ Some beat
  put_passed true (Some gate) state beat h = refl
  put_passed true None state beat h = absurd (let f : false ≡ true = h in cc)
  put_passed false None state beat h = absurd (let f : false ≡ true = h in cc)
  put_passed false (Some gate) state beat h = absurd (let f : false ≡ true = h in cc)

  pub act_put : (room : Bool) (lock : Option Lock) (next who count : ℕ) (beats : B → ℕ) (state : Gate → LeafState) (offer : Option B) → is_some (offer_act room lock next who count beats state offer) ≡ true → put_by (offer_act room lock next who count beats state offer) ≡ offer
  act_put room lock next who count beats state None h = absurd (let f : false ≡ true = h in cc)
  act_put room lock next who count beats state (Some beat) h = put_passed room (passed_by lock next who count (beats beat)) state beat (sym (passing room (passed_by lock next who count (beats beat)) state beat) ∙ h)

  state_passed : (room : Bool) (passed : Option Gate) (state : Gate → LeafState) (beat : B) (s : LeafState) (gate : Gate) → (is_some passed && room) ≡ true → state_by s (option_and_then (with_room room) (option_map (λ (gate : Gate). forwards beat (state gate)) passed)) ≡ state (unwrap_or passed gate)
  state_passed true (Some own) state beat s gate h = refl
  state_passed true None state beat s gate h = absurd (let f : false ≡ true = h in cc)
  state_passed false None state beat s gate h = absurd (let f : false ≡ true = h in cc)
  state_passed false (Some own) state beat s gate h = absurd (let f : false ≡ true = h in cc)

  pub act_state : (room : Bool) (lock : Option Lock) (next who count : ℕ) (beats : B → ℕ) (state : Gate → LeafState) (rest : List ℕ → ℕ) (fields : B → List ℕ) (offer : Option B) (s : LeafState) (gate : Gate) → ((beat : B) → rest (fields beat) + 1 ≡ beats beat)
      → is_some (offer_act room lock next who count beats state offer) ≡ true
      → state_by s (offer_act room lock next who count beats state offer) ≡ state (unwrap_or (passed_by lock next who count (rest (unwrap_or (option_map fields offer) []) + 1)) gate)
  act_state room lock next who count beats state rest fields None s gate r h = absurd (let f : false ≡ true = h in cc)
  act_state room lock next who count beats state rest fields (Some beat) s gate r h =
      state_passed room (passed_by lock next who count (beats beat)) state beat s gate (sym (passing room (passed_by lock next who count (beats beat)) state beat) ∙ h)
      ∙ ap (λ (n : ℕ). state (unwrap_or (passed_by lock next who count n) gate)) (sym (r beat))

-- ---- the first of them

find_holds : (p : ℕ → Bool) (ns : List ℕ) (n : ℕ) → find p ns ≡ Some n → p n ≡ true
find_holds p [] n e = absurd cc
find_holds p (k ∷ ns) n e = at (p k) refl e (find_holds p ns n)
  where
    at : (c : Bool) → p k ≡ c → cond c (Some k) (find p ns) ≡ Some n → (find p ns ≡ Some n → p n ≡ true) → p n ≡ true
    at true q f more = let g : k ≡ n = cc in ap p (sym g) ∙ q
    at false q f more = more f

module _ {B : Type 0} (fields : B → List ℕ) (rest : List ℕ → ℕ) (beats : B → ℕ) (round : Bool) (count : ℕ) (gate : Gate) (room : Bool) (offers : List (Option B)) where
  abbrev sees : Sight
  sees = record { offers = map (option_map fields) offers; room = room }

  -- the acts are those through the gate
  abbrev pub AreActs : (ℕ → Option (Act B LeafState)) → (Gate → LeafState) → Type 0
  AreActs act state = (who : ℕ) → act who ≡ offer_act room gate.lock gate.next who count beats state (get_or offers who None)

  may_same : (act : ℕ → Option (Act B LeafState)) (state : Gate → LeafState) → AreActs act state → (who : ℕ) → is_some (act who) ≡ may_pass gate sees who
  may_same act state h who =
      ap is_some (h who) ∙ act_some room gate.lock gate.next who count beats state (get_or offers who None)
      ∙ ap (λ (c : Bool). (c && passes gate.lock who) && room) (sym (ap is_some (map_at fields offers who) ∙ some_map fields (get_or offers who None)))

  pub first_is : (act : ℕ → Option (Act B LeafState)) (state : Gate → LeafState) → AreActs act state → find (λ who. is_some (act who)) (in_turn (policy_if round) gate.next count) ≡ who_passes round count gate sees
  first_is act state h = find_same _ _ (may_same act state h) (in_turn (policy_if round) gate.next count)

  served_may : (who : ℕ) → who_passes round count gate sees ≡ Some who → may_pass gate sees who ≡ true
  served_may who e = find_holds (may_pass gate sees) (in_turn (policy_if round) gate.next count) who e

  pub put_is : (act : ℕ → Option (Act B LeafState)) (state : Gate → LeafState) → AreActs act state → option_map fields (put_of act (who_passes round count gate sees)) ≡ option_and_then (offer_at sees) (who_passes round count gate sees)
  put_is act state h = at (who_passes round count gate sees) (λ who e. may_same act state h who ∙ served_may who e)
    where
      at : (first : Option ℕ) → ((who : ℕ) → first ≡ Some who → is_some (act who) ≡ true) → option_map fields (put_of act first) ≡ option_and_then (offer_at sees) first
      at None g = refl
      at (Some who) g =
          let a = h who in
          ap (λ (o : Option (Act B LeafState)). option_map fields (put_by o)) a
          ∙ ap (option_map fields) (act_put room gate.lock gate.next who count beats state (get_or offers who None) (ap is_some (sym a) ∙ g who refl))
          ∙ sym (map_at fields offers who)

  abbrev pub after_to : LeafState → (Gate → LeafState) → Option ℕ → LeafState
  after_to s state None = s
  after_to s state (Some who) = state (gate_after rest count gate sees (Some who))

  pub state_is : (act : ℕ → Option (Act B LeafState)) (state : Gate → LeafState) (s : LeafState) → ((beat : B) → rest (fields beat) + 1 ≡ beats beat) → AreActs act state → state_through s act (who_passes round count gate sees) ≡ after_to s state (who_passes round count gate sees)
  state_is act state s r h = at (who_passes round count gate sees) (λ who e. may_same act state h who ∙ served_may who e)
    where
      at : (first : Option ℕ) → ((who : ℕ) → first ≡ Some who → is_some (act who) ≡ true) → state_through s act first ≡ after_to s state first
      at None g = refl
      at (Some who) g =
          let a = h who in
          ap (state_by s) a
          ∙ act_state room gate.lock gate.next who count beats state rest fields (get_or offers who None) s gate r (ap is_some (sym a) ∙ g who refl)
          ∙ ap (λ (o : Option (List ℕ)). state (unwrap_or (passed_by gate.lock gate.next who count (rest (unwrap_or o []) + 1)) gate)) (sym (map_at fields offers who))
