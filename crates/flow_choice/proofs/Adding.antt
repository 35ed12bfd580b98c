-- Moves that are added at the end of a list, for each of some numbers.
use Rattle.std.proofs.Common.{◌≡◌, ◌≤◌, ◌<◌, ℕ, zero, suc, ◌+◌, ◌-◌, Bool, true, false, List, [], ◌∷◌, ◌++◌, drop, take, Option, Some, None, cond, refl, sym, ap, ◌∙◌, arith, append_assoc, append-nil}
use Rattle.std.specs.Prelude.{find, flat_map, min}
use Rattle.std.specs.List.{range_with_len}
use Rattle.std.specs.Option.{option_or}
use Rattle.tl_params.specs.declared.ops.Policy.TheVariants.{Lowest, Round}
use Rattle.flow_core.specs.declared.moves.Move.{Move}
use Rattle.flow_core.specs.Network.{State}
use Rattle.flow_core.specs.Turns.{leaf_state, output_turn, input_turn, next_id}
use Rattle.flow_choice.specs.declared.cycle.Among.TheVariants.{Down, Up}
use Rattle.flow_choice.specs.Turns.{in_turn}
use Rattle.flow_choice.specs.Choosing.{choice_of, first_enabled, input_count, output_count, chosen_down, chosen_up}

pub both_added : (old first second middle new : List Move) → middle ≡ old ++ first → new ≡ middle ++ second → new ≡ old ++ (first ++ second)
both_added old first second middle new e f = rw (f, e) (append_assoc old first second)

-- before the first of so many
pub none_added : (f : ℕ → List Move) (xs : List Move) (n : ℕ) → xs ++ flat_map f (range_with_len 0 (n - 0)) ≡ xs ++ flat_map f (range_with_len 0 n)
none_added f xs n = let e : n - 0 ≡ n = omega arith in ap (λ k. xs ++ flat_map f (range_with_len 0 k)) e

some_left : (i n : ℕ) → i < n → n - i ≡ suc (n - (i + 1))
some_left i n h = omega arith

-- after one more of them
pub one_added : (f : ℕ → List Move) (xs ys new : List Move) (i n : ℕ) → i < n → xs ++ flat_map f (range_with_len i (n - i)) ≡ ys → new ≡ xs ++ f i → new ++ flat_map f (range_with_len (i + 1) (n - (i + 1))) ≡ ys
one_added f xs ys new i n h e g =
    ap (λ xs. xs ++ flat_map f (range_with_len (i + 1) (n - (i + 1)))) g
    ∙ append_assoc xs (f i) (flat_map f (range_with_len (i + 1) (n - (i + 1))))
    ∙ ap (λ k. xs ++ flat_map f (range_with_len i k)) (sym (some_left i n h))
    ∙ e

-- after the last
pub all_added : (f : ℕ → List Move) (xs ys : List Move) (i n : ℕ) → n ≤ i → xs ++ flat_map f (range_with_len i (n - i)) ≡ ys → xs ≡ ys
all_added f xs ys i n h e =
    let z : n - i ≡ 0 = omega arith in
    sym (append-nil xs) ∙ ap (λ k. xs ++ flat_map f (range_with_len i k)) (sym z) ∙ e

-- ---- the first number that passes a test

pub found_here : (test : ℕ → Bool) (i to : ℕ) (found : Option ℕ) → i < to → test i ≡ true → find test (range_with_len i (to - i)) ≡ found → Some i ≡ found
found_here test i to found h e g =
    sym (ap (λ b. cond b (Some i) (find test (range_with_len (i + 1) (to - (i + 1))))) e)
    ∙ ap (λ k. find test (range_with_len i k)) (sym (some_left i to h)) ∙ g

pub found_later : (test : ℕ → Bool) (i to : ℕ) (found : Option ℕ) → i < to → test i ≡ false → find test (range_with_len i (to - i)) ≡ found → find test (range_with_len (i + 1) (to - (i + 1))) ≡ found
found_later test i to found h e g =
    sym (ap (λ b. cond b (Some i) (find test (range_with_len (i + 1) (to - (i + 1))))) e)
    ∙ ap (λ k. find test (range_with_len i k)) (sym (some_left i to h)) ∙ g

pub not_found : (test : ℕ → Bool) (i to : ℕ) (found : Option ℕ) → to ≤ i → find test (range_with_len i (to - i)) ≡ found → None ≡ found
not_found test i to found h e =
    let z : to - i ≡ 0 = omega arith in
    ap (λ k. find test (range_with_len i k)) (sym z) ∙ e

-- ---- one of a leaf's moves to an output, or to an input

pub down_added : (s : State) (l o id next inputs : ℕ) (list new : List Move) → id ≡ next_id (leaf_state s l) → next ≡ output_turn (leaf_state s l) o → inputs ≡ input_count s.plan l
    → new ≡ list ++ first_enabled s (choice_of (Down l o id)) (in_turn s.plan.policy next inputs) → new ≡ list ++ chosen_down s l o
down_added s l o id next inputs list new e f g h = rw (← e, ← f, ← g) h

pub up_added : (s : State) (l i next outputs : ℕ) (list new : List Move) → next ≡ input_turn (leaf_state s l) i → outputs ≡ output_count s.plan l
    → new ≡ list ++ first_enabled s (choice_of (Up l i)) (in_turn s.plan.policy next outputs) → new ≡ list ++ chosen_up s l i
up_added s l i next outputs list new f g h = rw (← f, ← g) h

-- ---- in turn

pub find-append : (test : ℕ → Bool) (xs ys : List ℕ) → find test (xs ++ ys) ≡ option_or (find test xs) (find test ys)
find-append test [] ys = refl
find-append test (x ∷ xs) ys = at (test x) (find-append test xs ys)
  where
    at : (b : Bool) → find test (xs ++ ys) ≡ option_or (find test xs) (find test ys) → cond b (Some x) (find test (xs ++ ys)) ≡ option_or (cond b (Some x) (find test xs)) (find test ys)
    at true h = refl
    at false h = h

drop_range : (n from count : ℕ) → drop n (range_with_len from count) ≡ range_with_len (from + min n count) (count - min n count)
drop_range zero from count =
    let e : from + min 0 count ≡ from = omega arith in
    let f : count - min 0 count ≡ count = omega arith in
    rw (e, f) refl
drop_range (suc n) from zero = let e : 0 - min (suc n) 0 ≡ 0 = omega arith in rw e refl
drop_range (suc n) from (suc count) =
    let e : (from + 1) + min n count ≡ from + min (suc n) (suc count) = omega arith in
    let f : count - min n count ≡ suc count - min (suc n) (suc count) = omega arith in
    drop_range n (from + 1) count ∙ ap (λ k. range_with_len k (count - min n count)) e ∙ ap (range_with_len (from + min (suc n) (suc count))) f

take_range : (n from count : ℕ) → take n (range_with_len from count) ≡ range_with_len from (min n count)
take_range zero from count = let e : min 0 count ≡ 0 = omega arith in rw e refl
take_range (suc n) from zero = let e : min (suc n) 0 ≡ 0 = omega arith in rw e refl
take_range (suc n) from (suc count) =
    let e : suc (min n count) ≡ min (suc n) (suc count) = omega arith in
    ap (λ xs. from ∷ xs) (take_range n (from + 1) count) ∙ ap (range_with_len from) e

pub round_turns : (next count : ℕ) → in_turn Round next count ≡ range_with_len (min next count) (count - min next count) ++ range_with_len 0 (min next count)
round_turns next count = ap (λ xs. xs ++ take next (range_with_len 0 count)) (drop_range next 0 count) ∙ ap (λ xs. range_with_len (0 + min next count) (count - min next count) ++ xs) (take_range next 0 count) ∙ zero_sum (min next count)
  where
    zero_sum : (n : ℕ) → range_with_len (0 + n) (count - n) ++ range_with_len 0 n ≡ range_with_len n (count - n) ++ range_with_len 0 n
    zero_sum n = let e : 0 + n ≡ n = omega arith in ap (λ k. range_with_len k (count - n) ++ range_with_len 0 n) e

-- where none comes from the turn on, it is the first before it
pub going_round : (test : ℕ → Bool) (from count : ℕ) (later earlier : Option ℕ) → later ≡ find test (range_with_len from (count - from)) → earlier ≡ find test (range_with_len 0 (from - 0))
    → option_or later earlier ≡ find test (range_with_len from (count - from) ++ range_with_len 0 from)
going_round test from count later earlier e f =
    let z : from - 0 ≡ from = omega arith in
    rw (e, f) (ap (λ n. option_or (find test (range_with_len from (count - from))) (find test (range_with_len 0 n))) z ∙ sym (find-append test (range_with_len from (count - from)) (range_with_len 0 from)))

pub from_lowest : (test : ℕ → Bool) (next count : ℕ) (found : Option ℕ) → found ≡ find test (range_with_len 0 (count - 0)) → found ≡ find test (in_turn Lowest next count)
from_lowest test next count found e = let z : count - 0 ≡ count = omega arith in e ∙ ap (λ n. find test (range_with_len 0 n)) z

pub from_turn : (test : ℕ → Bool) (next count first : ℕ) (found : Option ℕ) → first ≡ min next count → found ≡ find test (range_with_len first (count - first) ++ range_with_len 0 first) → found ≡ find test (in_turn Round next count)
from_turn test next count first found e f = f ∙ ap (λ n. find test (range_with_len n (count - n) ++ range_with_len 0 n)) e ∙ ap (find test) (sym (round_turns next count))
