-- Each chosen move may be made and is asked for: at a port it is offered or taken, and at a leaf it is the first in turn.
use Rattle.std.proofs.Common.{◌≡◌, ◌≤◌, ◌<◌, ℕ, zero, suc, ◌+◌, ◌-◌, Bool, true, false, List, [], ◌∷◌, length, Option, Some, None, cond, get_or, slice_get, All, refl, sym, ap, ◌∙◌, subst, arith, inl, inr, IsTrue}
use Rattle.std.specs.Prelude.{find, min}
use Rattle.std.specs.List.{range_with_len}
use Rattle.std.specs.Option.{option_or, option_map, option_to_list}
use Rattle.std.proofs.lemmas.Bool.{cases_lt}
use Rattle.std.proofs.lemmas.Bool.Decides.{nat_tests}
use Rattle.std.proofs.lemmas.List.Elements.{All-nil, All-cons}
use Rattle.std.proofs.lemmas.Option.{same_Some}
use Rattle.tl_params.specs.declared.ops.Policy.{Policy}
use Rattle.tl_params.specs.declared.ops.Policy.TheVariants.{Lowest, Round}
use Rattle.tl_edge.specs.declared.beat.ABeat.{ABeat}
use Rattle.tl_edge.specs.declared.beat.DBeat.{DBeat}
use Rattle.tl_edge.specs.declared.beat.Tag.{Tag}
use Rattle.flow_core.specs.declared.moves.Move.{Move}
use Rattle.flow_core.specs.declared.moves.Move.TheVariants.{Enter, Leave, Reply, Return, AbsorbA, AbsorbD}
use Rattle.flow_core.specs.Network.{State, is_enabled}
use Rattle.flow_core.specs.Turns.{leaf_state, output_turn, input_turn, next_id}
use Rattle.flow_choice.specs.declared.cycle.Among.TheVariants as Among
use Rattle.flow_choice.specs.declared.offers.Offers.{Offers}
use Rattle.flow_choice.specs.Turns.{in_turn}
use Rattle.flow_choice.specs.Choosing.{if_enabled, of_each, entering, replying, taking, source_moves, sink_moves, input_count, output_count, choice_of, first_enabled, chosen_down, chosen_up, leaf_moves_a, leaf_moves_d, leaf_moves, port_moves, chosen_moves}
use Rattle.flow_choice.specs.Chosen.{turn_of_number, IsFirst, IsAsked}
use Rattle.flow_choice.proofs.Adding.{find-append, round_turns}
use Rattle.flow_choice.proofs.Listing.{Each, Is, each_map, each-append, each_flat, each_if, find_true}

-- ---- the first number that passes a test

pub true_false : (b : Bool) → b ≡ true → b ≡ false → ⊥
true_false true e f = cc
true_false false e f = cc

-- found from a number on among so many: it passes, and none before it does
record Found (test : ℕ → Bool) (from count n : ℕ) : Type 0 where
  lower : from ≤ n
  upper : n < from + count
  passes : test n ≡ true
  earlier : (m : ℕ) → from ≤ m → m < n → test m ≡ false

found_in : (test : ℕ → Bool) (from count n : ℕ) → find test (range_with_len from count) ≡ Some n → Found test from count n
found_in test from zero n e = absurd cc
found_in test from (suc count) n e = at (test from) refl e (found_in test (from + 1) count n)
  where
    at : (b : Bool) → test from ≡ b → cond b (Some from) (find test (range_with_len (from + 1) count)) ≡ Some n
        → (find test (range_with_len (from + 1) count) ≡ Some n → Found test (from + 1) count n) → Found test from (suc count) n
    at true g f next = let same : from ≡ n = same_Some from n f in record {
      lower = omega (arith, same);
      upper = omega (arith, same);
      passes = subst (λ n. test n ≡ true) same g;
      earlier = λ m a b. absurd (omega (arith, same, a, b));
    }
    at false g f next =
        let later = next f in
        let low : from + 1 ≤ n = later.lower in
        let high : n < (from + 1) + count = later.upper in
        record {
          lower = omega (arith, low);
          upper = omega (arith, high);
          passes = later.passes;
          earlier = λ m a b. elim (cases_lt from m) [
            | inl c ↦ later.earlier m (omega (arith, c)) b
            | inr c ↦ (let same : from ≡ m = omega (arith, a, c) in subst (λ m. test m ≡ false) same g)
          ];
        }

pub none_in : (test : ℕ → Bool) (from count : ℕ) → find test (range_with_len from count) ≡ None → (m : ℕ) → from ≤ m → m < from + count → test m ≡ false
none_in test from zero e m a b = absurd (omega (arith, a, b))
none_in test from (suc count) e m a b = at (test from) refl e (none_in test (from + 1) count)
  where
    at : (x : Bool) → test from ≡ x → cond x (Some from) (find test (range_with_len (from + 1) count)) ≡ None
        → (find test (range_with_len (from + 1) count) ≡ None → (m : ℕ) → from + 1 ≤ m → m < (from + 1) + count → test m ≡ false) → test m ≡ false
    at true g f next = absurd cc
    at false g f next = elim (cases_lt from m) [
      | inl c ↦ next f m (omega (arith, c)) (omega (arith, b))
      | inr c ↦ (let same : from ≡ m = omega (arith, a, c) in subst (λ m. test m ≡ false) same g)
    ]

-- ---- in turn

-- what the first in turn keeps
pub record First (policy : Policy) (test : ℕ → Bool) (next count n : ℕ) : Type 0 where
  pub below : n < count
  pub passes : test n ≡ true
  pub first : (m : ℕ) → m < count → test m ≡ true → turn_of_number policy next count n ≤ turn_of_number policy next count m

pub later_turn : (next count n : ℕ) → next ≤ n → turn_of_number Round next count n ≡ n
later_turn next count n h = grind (arith, nat_tests)

pub earlier_turn : (next count n : ℕ) → n < next → turn_of_number Round next count n ≡ count + n
earlier_turn next count n h = grind (arith, nat_tests)

in_order : (test : ℕ → Bool) (next count n : ℕ) → find test (range_with_len 0 count) ≡ Some n → First Lowest test next count n
in_order test next count n e =
    let found = found_in test 0 count n e in
    let high : n < 0 + count = found.upper in
    record {
      below = omega (arith, high);
      passes = found.passes;
      first = λ m below passes. elim (cases_lt m n) [
        | inl c ↦ absurd (true_false (test m) passes (found.earlier m (omega arith) c))
        | inr c ↦ c
      ];
    }

-- from the turn on
from_next : (test : ℕ → Bool) (next count n : ℕ) → Found test (min next count) (count - min next count) n → First Round test next count n
from_next test next count n found =
    let low : min next count ≤ n = found.lower in
    let high : n < min next count + (count - min next count) = found.upper in
    let after : next ≤ n = omega (arith, low, high) in
    record {
      below = omega (arith, low, high);
      passes = found.passes;
      first = λ m below passes. elim (cases_lt m next) [
        | inl c ↦ rw (later_turn next count n after, earlier_turn next count m c) (omega (arith, low, high))
        | inr c ↦ elim (cases_lt m n) [
          | inl d ↦ absurd (true_false (test m) passes (found.earlier m (omega (arith, c)) d))
          | inr d ↦ rw (later_turn next count n after, later_turn next count m c) d
        ]
      ];
    }

-- before it, where none is from it on
before_next : (test : ℕ → Bool) (next count n : ℕ) → find test (range_with_len (min next count) (count - min next count)) ≡ None → Found test 0 (min next count) n → First Round test next count n
before_next test next count n none found =
    let high : n < 0 + min next count = found.upper in
    let before : n < next = omega (arith, high) in
    record {
      below = omega (arith, high);
      passes = found.passes;
      first = λ m below passes. elim (cases_lt m next) [
        | inl c ↦ elim (cases_lt m n) [
          | inl d ↦ absurd (true_false (test m) passes (found.earlier m (omega arith) d))
          | inr d ↦ rw (earlier_turn next count n before, earlier_turn next count m c) (omega (arith, d))
        ]
        | inr c ↦ absurd (true_false (test m) passes (none_in test (min next count) (count - min next count) none m (omega (arith, c, below)) (omega (arith, c, below))))
      ];
    }

going : (test : ℕ → Bool) (next count n : ℕ) → option_or (find test (range_with_len (min next count) (count - min next count))) (find test (range_with_len 0 (min next count))) ≡ Some n → First Round test next count n
going test next count n e = at (find test (range_with_len (min next count) (count - min next count))) refl e
  where
    at : (later : Option ℕ) → find test (range_with_len (min next count) (count - min next count)) ≡ later → option_or later (find test (range_with_len 0 (min next count))) ≡ Some n → First Round test next count n
    at None g f = before_next test next count n g (found_in test 0 (min next count) n f)
    at (Some k) g f = from_next test next count n (found_in test (min next count) (count - min next count) n (g ∙ f))

pub first_in_turn : (policy : Policy) (test : ℕ → Bool) (next count n : ℕ) → find test (in_turn policy next count) ≡ Some n → First policy test next count n
first_in_turn Lowest test next count n e = in_order test next count n e
first_in_turn Round test next count n e =
    going test next count n
    (sym (find-append test (range_with_len (min next count) (count - min next count)) (range_with_len 0 (min next count))) ∙ ap (find test) (sym (round_turns next count)) ∙ e)

-- ---- the moves

pub is_true : (b : Bool) → b ≡ true → IsTrue b
is_true true e = refl
is_true false e = absurd cc

pub was_true : (b : Bool) → IsTrue b → b ≡ true
was_true true h = refl
was_true false h = absurd cc

is_first : (s : State) (move : ℕ → Move) (next count n : ℕ) → find (λ n. is_enabled s (move n)) (in_turn s.plan.policy next count) ≡ Some n → IsFirst s move next count n
is_first s move next count n e =
    let first = first_in_turn s.plan.policy (λ n. is_enabled s (move n)) next count n e in
    record { below = first.below; first = λ m below h. first.first m below (was_true (is_enabled s (move m)) h) }

there : {A : Type 0} (xs : List (Option A)) (place : ℕ) (x : A) → get_or xs place None ≡ Some x → slice_get xs place ≡ Some (Some x)
there [] place x e = absurd cc
there (y ∷ xs) zero x e = ap Some e
there (y ∷ xs) (suc place) x e = there xs place x e

flagged : (xs : List Bool) (place : ℕ) → get_or xs place false ≡ true → slice_get xs place ≡ Some true
flagged [] place e = absurd cc
flagged (y ∷ xs) zero e = ap Some e
flagged (y ∷ xs) (suc place) e = flagged xs place e

module _ (s : State) (offers : Offers) where
  Right : Move → Type 0
  Right move = IsTrue (is_enabled s move) × IsAsked s offers move

  right_if : (move : Move) → IsAsked s offers move → Each Right (if_enabled s move)
  unfolding Right
  right_if move asked =
      each_map (Is s move) Right (λ m h. (subst (λ m. IsTrue (is_enabled s m)) (sym h.0) h.1, subst (IsAsked s offers) (sym h.0) asked)) (if_enabled s move) (each_if s move)

  enters : (port : ℕ) → Each Right (entering s port (get_or offers.enter port None))
  enters port = at (get_or offers.enter port None) refl
    where
      at : (o : Option (ABeat × Tag)) → get_or offers.enter port None ≡ o → Each Right (entering s port o)
      at None e = tt
      at (Some beat) e = right_if (Enter port beat.0 beat.1) (there offers.enter port beat e)

  replies : (port : ℕ) → Each Right (replying s port (get_or offers.reply port None))
  replies port = at (get_or offers.reply port None) refl
    where
      at : (o : Option (DBeat × Tag)) → get_or offers.reply port None ≡ o → Each Right (replying s port o)
      at None e = tt
      at (Some beat) e = right_if (Reply port beat.0 beat.1) (there offers.reply port beat e)

  takes : (move : Move) (b : Bool) → (b ≡ true → IsAsked s offers move) → Each Right (taking s move b)
  takes move true h = right_if move (h refl)
  takes move false h = tt

  of_source : (port : ℕ) → Each Right (source_moves s offers port)
  of_source port =
      each-append Right (entering s port (get_or offers.enter port None)) (taking s (Return port) (get_or offers.take_d port false))
      (enters port) (takes (Return port) (get_or offers.take_d port false) (flagged offers.take_d port))

  of_sink : (port : ℕ) → Each Right (sink_moves s offers port)
  of_sink port =
      each-append Right (taking s (Leave port) (get_or offers.take_a port false)) (replying s port (get_or offers.reply port None))
      (takes (Leave port) (get_or offers.take_a port false) (flagged offers.take_a port)) (replies port)

  firsts : (move : ℕ → Move) (next count : ℕ) → ((n : ℕ) → IsFirst s move next count n → IsAsked s offers (move n)) → Each Right (first_enabled s move (in_turn s.plan.policy next count))
  unfolding Right
  firsts move next count asked = at (find (λ n. is_enabled s (move n)) (in_turn s.plan.policy next count)) refl
    where
      at : (o : Option ℕ) → find (λ n. is_enabled s (move n)) (in_turn s.plan.policy next count) ≡ o → Each Right (option_to_list (option_map move o))
      at None e = tt
      at (Some n) e = (
        (is_true (is_enabled s (move n)) (find_true (λ n. is_enabled s (move n)) (in_turn s.plan.policy next count) n e), asked n (is_first s move next count n e)),
        tt,
      )

  downs : (l o : ℕ) → Each Right (chosen_down s l o)
  downs l o =
      firsts (choice_of (Among.Down l o (next_id (leaf_state s l)))) (output_turn (leaf_state s l) o) (input_count s.plan l) (λ n h. (refl, h))

  ups : (l i : ℕ) → Each Right (chosen_up s l i)
  ups l i = firsts (choice_of (Among.Up l i)) (input_turn (leaf_state s l) i) (output_count s.plan l) (λ n h. h)

  of_leaf : (l : ℕ) → Each Right (leaf_moves s l)
  of_leaf l =
      each-append Right (leaf_moves_a s l) (leaf_moves_d s l)
      (each-append Right (if_enabled s (AbsorbA l)) (of_each (output_count s.plan l) (chosen_down s l)) (right_if (AbsorbA l) tt) (each_flat Right (chosen_down s l) (downs l) 0 (output_count s.plan l)))
      (each-append Right (if_enabled s (AbsorbD l)) (of_each (input_count s.plan l) (chosen_up s l)) (right_if (AbsorbD l) tt) (each_flat Right (chosen_up s l) (ups l) 0 (input_count s.plan l)))

  of_all : Each Right (chosen_moves s offers)
  of_all =
      each-append Right (port_moves s offers) (of_each (length s.plan.leaves) (leaf_moves s))
      (each-append Right (of_each (length s.plan.sources) (source_moves s offers)) (of_each (length s.plan.sinks) (sink_moves s offers))
      (each_flat Right (source_moves s offers) of_source 0 (length s.plan.sources)) (each_flat Right (sink_moves s offers) of_sink 0 (length s.plan.sinks)))
      (each_flat Right (leaf_moves s) of_leaf 0 (length s.plan.leaves))

each_all : (P : Move → Type 0) (ms : List Move) → Each P ms → All P ms
each_all P [] h = All-nil P
each_all P (m ∷ ms) h = All-cons P m ms h.0 (each_all P ms h.1)

pub all_asked : (s : State) (offers : Offers) → All (λ m. IsTrue (is_enabled s m) × IsAsked s offers m) (chosen_moves s offers)
unfolding Right
all_asked s offers = each_all (λ m. IsTrue (is_enabled s m) × IsAsked s offers m) (chosen_moves s offers) (of_all s offers)
