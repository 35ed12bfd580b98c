-- The chosen moves of a cycle: each may be made, and any two of them are apart.
use Rattle.std.proofs.Common.{◌≡◌, ◌≢◌, ◌≤◌, ℕ, zero, suc, ◌+◌, Bool, true, false, List, [], ◌∷◌, ◌++◌, length, Option, Some, None, cond, get_or, refl, sym, ap, ◌∙◌, subst, arith, rules, IsTrue}
use Rattle.std.specs.Prelude.{find, flat_map}
use Rattle.std.specs.List.{range_with_len}
use Rattle.std.specs.Option.{option_map, option_to_list}
use Rattle.std.proofs.lemmas.Option.{same_Some}
use Rattle.tl_edge.specs.declared.beat.ABeat.{ABeat}
use Rattle.tl_edge.specs.declared.beat.DBeat.{DBeat}
use Rattle.tl_edge.specs.declared.beat.Tag.{Tag}
use Rattle.tl_edge.specs.declared.plan.Plan.{Plan}
use Rattle.tl_edge.specs.Plans.Giver.{Out}
use Rattle.tl_edge.specs.Plans.Taker.{In}
use Rattle.tl_edge.specs.SoundPlans.{IsSound}
use Rattle.flow_core.specs.declared.moves.Move.{Move}
use Rattle.flow_core.specs.declared.moves.Move.TheVariants.{Enter, Leave, Reply, Return, AbsorbA, AbsorbD, ForwardA, ForwardD}
use Rattle.flow_core.specs.Network.{State, is_enabled}
use Rattle.flow_choice.specs.declared.cycle.Among.TheVariants as Among
use Rattle.flow_choice.specs.declared.offers.Offers.{Offers}
use Rattle.flow_core.specs.Turns.{leaf_state, next_id}
use Rattle.flow_choice.specs.Choosing.{if_enabled, of_each, entering, replying, taking, source_moves, sink_moves, input_count, output_count, choice_of, first_enabled, chosen_down, chosen_up, leaf_moves, chosen_moves}
use Rattle.flow_choice.specs.Valid.{IsValid}
use Rattle.flow_choice.proofs.Jobs.{Kind, Port, Down, Up, kind_of}
use Rattle.flow_choice.proofs.Meeting.{FitsKinds}
use Rattle.flow_choice.proofs.Ordering.{ApartFrom, AllApart}
use Rattle.flow_choice.proofs.Uses.{AreDistinct, a_giver, a_taker, d_giver, d_taker, queues_apart, ways_apart, Who, AtSource, AtSink, AtLeaf, who, others_distinct}
use Rattle.flow_choice.proofs.Choices.{fits_valid, not_both_down, not_both_up, one_output, one_input}

-- ---- lists of moves

abbrev pub Each : (Move → Type 0) → List Move → Type 0
Each P [] = Unit {0}
Each P (m ∷ ms) = P m × Each P ms

abbrev pub Pairs : (Move → Move → Type 0) → List Move → Type 0
Pairs R [] = Unit {0}
Pairs R (m ∷ ms) = Each (R m) ms × Pairs R ms

pub each_map : (P Q : Move → Type 0) → ((m : Move) → P m → Q m) → (ms : List Move) → Each P ms → Each Q ms
each_map P Q f [] h = tt
each_map P Q f (m ∷ ms) h = (f m h.0, each_map P Q f ms h.1)

pub each-append : (P : Move → Type 0) (ms ns : List Move) → Each P ms → Each P ns → Each P (ms ++ ns)
each-append P [] ns h k = k
each-append P (m ∷ ms) ns h k = (h.0, each-append P ms ns h.1 k)

pairs-append : (R : Move → Move → Type 0) (P Q : Move → Type 0) (ms ns : List Move) → Each P ms → Each Q ns → ((m n : Move) → P m → Q n → R m n) → Pairs R ms → Pairs R ns → Pairs R (ms ++ ns)
pairs-append R P Q [] ns p q r a b = b
pairs-append R P Q (m ∷ ms) ns p q r a b = (each-append (R m) ms ns a.0 (each_map Q (R m) (λ n h. r m n p.0 h) ns q), pairs-append R P Q ms ns p.1 q r a.1 b)

-- those of numbers from one on
Later : (ℕ → Move → Type 0) → ℕ → Move → Type 0
Later P low m = (n : ℕ) × (low ≤ n) × P n m

each_later : (P : ℕ → Move → Type 0) (f : ℕ → List Move) → ((n : ℕ) → Each (P n) (f n)) → (low from count : ℕ) → low ≤ from → Each (Later P low) (flat_map f (range_with_len from count))
unfolding Later
each_later P f h low from zero b = tt
each_later P f h low from (suc count) b =
    each-append (Later P low) (f from) (flat_map f (range_with_len (from + 1) count)) (each_map (P from) (Later P low) (λ m p. (from, b, p)) (f from) (h from)) (each_later P f h low (from + 1) count (omega arith))

pub each_flat : (P : Move → Type 0) (f : ℕ → List Move) → ((n : ℕ) → Each P (f n)) → (from count : ℕ) → Each P (flat_map f (range_with_len from count))
each_flat P f h from zero = tt
each_flat P f h from (suc count) = each-append P (f from) (flat_map f (range_with_len (from + 1) count)) (h from) (each_flat P f h (from + 1) count)

pairs_flat : (R : Move → Move → Type 0) (P : ℕ → Move → Type 0) (f : ℕ → List Move) → ((n : ℕ) → Each (P n) (f n)) → ((n : ℕ) → Pairs R (f n)) → ((a b : ℕ) (m n : Move) → a ≢ b → P a m → P b n → R m n)
    → (from count : ℕ) → Pairs R (flat_map f (range_with_len from count))
unfolding Later
pairs_flat R P f h g r from zero = tt
pairs_flat R P f h g r from (suc count) =
    pairs-append R (P from) (Later P (from + 1)) (f from) (flat_map f (range_with_len (from + 1) count)) (h from) (each_later P f h (from + 1) (from + 1) count (omega arith))
    (λ m n p q. r from q.0 m n (λ e. let b : from + 1 ≤ q.0 = q.1 in absurd (omega (arith, b, e))) p q.2) (g from) (pairs_flat R P f h g r (from + 1) count)

-- ---- one move at most

-- the move, and that it may be made
abbrev pub Is : State → Move → Move → Type 0
Is s move m = (m ≡ move) × IsTrue (is_enabled s move)

is_true : (b : Bool) → b ≡ true → IsTrue b
is_true true e = search rules
is_true false e = absurd cc

pub each_if : (s : State) (move : Move) → Each (Is s move) (if_enabled s move)
each_if s move = at (is_enabled s move) refl
  where
    at : (b : Bool) → is_enabled s move ≡ b → Each (Is s move) (cond b (move ∷ []) [])
    at true e = ((refl, is_true (is_enabled s move) e), tt)
    at false e = tt

pairs_if : (R : Move → Move → Type 0) (s : State) (move : Move) → Pairs R (if_enabled s move)
pairs_if R s move = at (is_enabled s move)
  where
    at : (b : Bool) → Pairs R (cond b (move ∷ []) [])
    at true = (tt, tt)
    at false = tt

pub find_true : (test : ℕ → Bool) (ns : List ℕ) (n : ℕ) → find test ns ≡ Some n → test n ≡ true
find_true test [] n e = absurd cc
find_true test (k ∷ ns) n e = at (test k) refl e (find_true test ns n)
  where
    at : (b : Bool) → test k ≡ b → cond b (Some k) (find test ns) ≡ Some n → (find test ns ≡ Some n → test n ≡ true) → test n ≡ true
    at true g e later = subst (λ n. test n ≡ true) (same_Some k n e) g
    at false g e later = later e

-- the move of one of the numbers
abbrev pub IsSome : State → (ℕ → Move) → Move → Type 0
IsSome s move m = (n : ℕ) × Is s (move n) m

pub each_first : (s : State) (move : ℕ → Move) (turns : List ℕ) → Each (IsSome s move) (first_enabled s move turns)
each_first s move turns = at (find (λ n. is_enabled s (move n)) turns) refl
  where
    at : (o : Option ℕ) → find (λ n. is_enabled s (move n)) turns ≡ o → Each (IsSome s move) (option_to_list (option_map move o))
    at None e = tt
    at (Some n) e = ((n, (refl, is_true (is_enabled s (move n)) (find_true (λ n. is_enabled s (move n)) turns n e))), tt)

pairs_first : (R : Move → Move → Type 0) (s : State) (move : ℕ → Move) (turns : List ℕ) → Pairs R (first_enabled s move turns)
pairs_first R s move turns = at (find (λ n. is_enabled s (move n)) turns)
  where
    at : (o : Option ℕ) → Pairs R (option_to_list (option_map move o))
    at None = tt
    at (Some n) = (tt, tt)

-- ---- moves on one channel

record OnA (m : Move) : Type 0 where
  giver : d_giver m ≡ None
  taker : d_taker m ≡ None

record OnD (m : Move) : Type 0 where
  giver : a_giver m ≡ None
  taker : a_taker m ≡ None

none_some : {A : Type 0} (x : A) (o : Option A) → o ≡ None → o ≡ Some x → ⊥
none_some x o e f = cc

channels : (m n : Move) → OnA m → OnD n → AreDistinct m n
channels m n a d = record {
  a_givers = λ g e f. none_some g (a_giver n) d.giver f;
  a_takers = λ t e f. none_some t (a_taker n) d.taker f;
  d_givers = λ g e f. none_some g (d_giver m) a.giver e;
  d_takers = λ t e f. none_some t (d_taker m) a.taker e;
}

-- ---- ports

module _ (s : State) (offers : Offers) where
  -- what is known of a move in one group
  Known : Who → (Move → Type 0) → Move → Type 0
  Known w P m = P m × (who m ≡ w) × IsTrue (is_enabled s m)

  known : (w : Who) (P : Move → Type 0) (move : Move) → P move → who move ≡ w → (m : Move) → Is s move m → Known w P m
  unfolding Known
  known w P move p e m h = (subst P (sym h.0) p, ap who h.0 ∙ e, subst (λ m. IsTrue (is_enabled s m)) (sym h.0) h.1)

  known_if : (w : Who) (P : Move → Type 0) (move : Move) → P move → who move ≡ w → Each (Known w P) (if_enabled s move)
  known_if w P move p e = each_map (Is s move) (Known w P) (known w P move p e) (if_enabled s move) (each_if s move)

  enters : (port : ℕ) (o : Option (ABeat × Tag)) → Each (Known (AtSource port) OnA) (entering s port o)
  enters port None = tt
  enters port (Some beat) = known_if (AtSource port) OnA (Enter port beat.0 beat.1) (record { giver = refl; taker = refl }) refl

  replies : (port : ℕ) (o : Option (DBeat × Tag)) → Each (Known (AtSink port) OnD) (replying s port o)
  replies port None = tt
  replies port (Some beat) = known_if (AtSink port) OnD (Reply port beat.0 beat.1) (record { giver = refl; taker = refl }) refl

  takes : (w : Who) (P : Move → Type 0) (move : Move) → P move → who move ≡ w → (b : Bool) → Each (Known w P) (taking s move b)
  takes w P move p e true = known_if w P move p e
  takes w P move p e false = tt

  one_enters : (R : Move → Move → Type 0) (port : ℕ) (o : Option (ABeat × Tag)) → Pairs R (entering s port o)
  one_enters R port None = tt
  one_enters R port (Some beat) = pairs_if R s (Enter port beat.0 beat.1)

  one_replies : (R : Move → Move → Type 0) (port : ℕ) (o : Option (DBeat × Tag)) → Pairs R (replying s port o)
  one_replies R port None = tt
  one_replies R port (Some beat) = pairs_if R s (Reply port beat.0 beat.1)

  one_takes : (R : Move → Move → Type 0) (move : Move) (b : Bool) → Pairs R (taking s move b)
  one_takes R move true = pairs_if R s move
  one_takes R move false = tt

  AtOne : Who → Move → Type 0
  AtOne w m = (who m ≡ w) × IsTrue (is_enabled s m)

  forget : (w : Who) (P : Move → Type 0) (ms : List Move) → Each (Known w P) ms → Each (AtOne w) ms
  unfolding Known AtOne
  forget w P ms h = each_map (Known w P) (AtOne w) (λ m k. (k.1, k.2)) ms h

  sources_at : (port : ℕ) → Each (AtOne (AtSource port)) (source_moves s offers port)
  sources_at port = each-append (AtOne (AtSource port)) (entering s port (get_or offers.enter port None)) (taking s (Return port) (get_or offers.take_d port false))
      (forget (AtSource port) OnA _ (enters port (get_or offers.enter port None)))
      (forget (AtSource port) OnD _ (takes (AtSource port) OnD (Return port) (record { giver = refl; taker = refl }) refl (get_or offers.take_d port false)))

  sinks_at : (port : ℕ) → Each (AtOne (AtSink port)) (sink_moves s offers port)
  sinks_at port = each-append (AtOne (AtSink port)) (taking s (Leave port) (get_or offers.take_a port false)) (replying s port (get_or offers.reply port None))
      (forget (AtSink port) OnA _ (takes (AtSink port) OnA (Leave port) (record { giver = refl; taker = refl }) refl (get_or offers.take_a port false)))
      (forget (AtSink port) OnD _ (replies port (get_or offers.reply port None)))

  sources_apart : (port : ℕ) → Pairs AreDistinct (source_moves s offers port)
  unfolding Known
  sources_apart port = pairs-append AreDistinct (Known (AtSource port) OnA) (Known (AtSource port) OnD) (entering s port (get_or offers.enter port None)) (taking s (Return port) (get_or offers.take_d port false))
      (enters port (get_or offers.enter port None)) (takes (AtSource port) OnD (Return port) (record { giver = refl; taker = refl }) refl (get_or offers.take_d port false)) (λ m n a d. channels m n a.0 d.0)
      (one_enters AreDistinct port (get_or offers.enter port None)) (one_takes AreDistinct (Return port) (get_or offers.take_d port false))

  sinks_apart : (port : ℕ) → Pairs AreDistinct (sink_moves s offers port)
  unfolding Known
  sinks_apart port = pairs-append AreDistinct (Known (AtSink port) OnA) (Known (AtSink port) OnD) (taking s (Leave port) (get_or offers.take_a port false)) (replying s port (get_or offers.reply port None))
      (takes (AtSink port) OnA (Leave port) (record { giver = refl; taker = refl }) refl (get_or offers.take_a port false)) (replies port (get_or offers.reply port None)) (λ m n a d. channels m n a.0 d.0)
      (one_takes AreDistinct (Leave port) (get_or offers.take_a port false)) (one_replies AreDistinct port (get_or offers.reply port None))

  -- ---- a leaf

  absorbs_a : (l : ℕ) → Each (Known (AtLeaf l) OnA) (if_enabled s (AbsorbA l))
  absorbs_a l = known_if (AtLeaf l) OnA (AbsorbA l) (record { giver = refl; taker = refl }) refl

  absorbs_d : (l : ℕ) → Each (Known (AtLeaf l) OnD) (if_enabled s (AbsorbD l))
  absorbs_d l = known_if (AtLeaf l) OnD (AbsorbD l) (record { giver = refl; taker = refl }) refl

  downs_known : (l o : ℕ) → Each (Known (AtLeaf l) OnA) (chosen_down s l o)
  downs_known l o = each_map (IsSome s (choice_of (Among.Down l o (next_id (leaf_state s l))))) (Known (AtLeaf l) OnA) (λ m h. known (AtLeaf l) OnA (choice_of (Among.Down l o (next_id (leaf_state s l))) h.0) (record { giver = refl; taker = refl }) refl m h.1)
      (chosen_down s l o) (each_first s (choice_of (Among.Down l o (next_id (leaf_state s l)))) _)

  ups_known : (l i : ℕ) → Each (Known (AtLeaf l) OnD) (chosen_up s l i)
  ups_known l i = each_map (IsSome s (choice_of (Among.Up l i))) (Known (AtLeaf l) OnD) (λ m h. known (AtLeaf l) OnD (choice_of (Among.Up l i) h.0) (record { giver = refl; taker = refl }) refl m h.1)
      (chosen_up s l i) (each_first s (choice_of (Among.Up l i)) _)

  leaf_known : (l : ℕ) → Each (AtOne (AtLeaf l)) (leaf_moves s l)
  leaf_known l = each-append (AtOne (AtLeaf l)) (if_enabled s (AbsorbA l) ++ of_each (output_count s.plan l) (chosen_down s l)) (if_enabled s (AbsorbD l) ++ of_each (input_count s.plan l) (chosen_up s l))
      (forget (AtLeaf l) OnA _ (each-append (Known (AtLeaf l) OnA) (if_enabled s (AbsorbA l)) (of_each (output_count s.plan l) (chosen_down s l)) (absorbs_a l) (each_flat (Known (AtLeaf l) OnA) (chosen_down s l) (downs_known l) 0 (output_count s.plan l))))
      (forget (AtLeaf l) OnD _ (each-append (Known (AtLeaf l) OnD) (if_enabled s (AbsorbD l)) (of_each (input_count s.plan l) (chosen_up s l)) (absorbs_d l) (each_flat (Known (AtLeaf l) OnD) (chosen_up s l) (ups_known l) 0 (input_count s.plan l))))

  -- whose the moves are
  pub source_who : (port : ℕ) → Each (λ m. who m ≡ AtSource port) (source_moves s offers port)
  unfolding AtOne
  source_who port = each_map (AtOne (AtSource port)) (λ m. who m ≡ AtSource port) (λ m h. h.0) (source_moves s offers port) (sources_at port)

  pub sink_who : (port : ℕ) → Each (λ m. who m ≡ AtSink port) (sink_moves s offers port)
  unfolding AtOne
  sink_who port = each_map (AtOne (AtSink port)) (λ m. who m ≡ AtSink port) (λ m h. h.0) (sink_moves s offers port) (sinks_at port)

  pub leaf_who : (l : ℕ) → Each (λ m. who m ≡ AtLeaf l) (leaf_moves s l)
  unfolding AtOne
  leaf_who l = each_map (AtOne (AtLeaf l)) (λ m. who m ≡ AtLeaf l) (λ m h. h.0) (leaf_moves s l) (leaf_known l)

  module _ (plan : Plan) (valid : IsValid plan s) where
    -- from two inputs to two outputs
    two_down : (l o p : ℕ) (m n : Move) → o ≢ p → IsSome s (choice_of (Among.Down l o (next_id (leaf_state s l)))) m → IsSome s (choice_of (Among.Down l p (next_id (leaf_state s l)))) n → AreDistinct m n
    two_down l o p m n d a b =
        let apart : (k : ℕ) → In l a.0 ≡ In l b.0 → ⊥ = λ k e.
        let q : a.0 ≡ b.0 = cc in
        d (one_output plan s l a.0 o (next_id (leaf_state s l)) p (next_id (leaf_state s l)) valid a.1.1 (subst (λ n. IsTrue (is_enabled s (ForwardA l n p (next_id (leaf_state s l))))) (sym q) b.1.1)) in
        rw (a.1.0, b.1.0) (record {
          a_givers = λ g e f. d (let q : Out l o ≡ Out l p = same_Some _ _ (e ∙ sym f) in cc);
          a_takers = λ t e f. apart 0 (same_Some _ _ (e ∙ sym f));
          d_givers = λ g e f. none_some g None refl e;
          d_takers = λ t e f. none_some t None refl e;
        })

    two_up : (l i j : ℕ) (m n : Move) → i ≢ j → IsSome s (choice_of (Among.Up l i)) m → IsSome s (choice_of (Among.Up l j)) n → AreDistinct m n
    two_up l i j m n d a b =
        let apart : (k : ℕ) → Out l a.0 ≡ Out l b.0 → ⊥ = λ k e.
        let q : a.0 ≡ b.0 = cc in
        d (one_input plan s l i j a.0 valid a.1.1 (subst (λ n. IsTrue (is_enabled s (ForwardD l j n))) (sym q) b.1.1)) in
        rw (a.1.0, b.1.0) (record {
          a_givers = λ g e f. none_some g None refl e;
          a_takers = λ t e f. none_some t None refl e;
          d_givers = λ g e f. apart 0 (same_Some _ _ (e ∙ sym f));
          d_takers = λ t e f. d (let q : In l i ≡ In l j = same_Some _ _ (e ∙ sym f) in cc);
        })

    SomeDown : ℕ → Move → Type 0
    SomeDown l m = (o : ℕ) × IsSome s (choice_of (Among.Down l o (next_id (leaf_state s l)))) m

    SomeUp : ℕ → Move → Type 0
    SomeUp l m = (i : ℕ) × IsSome s (choice_of (Among.Up l i)) m

    some_down : (l o : ℕ) → Each (SomeDown l) (chosen_down s l o)
    unfolding SomeDown
    some_down l o = each_map (IsSome s (choice_of (Among.Down l o (next_id (leaf_state s l))))) (SomeDown l) (λ m h. (o, h)) (chosen_down s l o) (each_first s (choice_of (Among.Down l o (next_id (leaf_state s l)))) _)

    some_up : (l i : ℕ) → Each (SomeUp l) (chosen_up s l i)
    unfolding SomeUp
    some_up l i = each_map (IsSome s (choice_of (Among.Up l i))) (SomeUp l) (λ m h. (i, h)) (chosen_up s l i) (each_first s (choice_of (Among.Up l i)) _)

    absorb_or_down : (l : ℕ) (m n : Move) → Is s (AbsorbA l) m → SomeDown l n → AreDistinct m n
    unfolding SomeDown
    absorb_or_down l m n a b = absurd (not_both_down s l b.1.0 b.0 (next_id (leaf_state s l)) a.1 b.1.1.1)

    absorb_or_up : (l : ℕ) (m n : Move) → Is s (AbsorbD l) m → SomeUp l n → AreDistinct m n
    unfolding SomeUp
    absorb_or_up l m n a b = absurd (not_both_up s l b.0 b.1.0 a.1 b.1.1.1)

    leaf_apart : (l : ℕ) → Pairs AreDistinct (leaf_moves s l)
    unfolding Known
    leaf_apart l =
        pairs-append AreDistinct (Known (AtLeaf l) OnA) (Known (AtLeaf l) OnD) (if_enabled s (AbsorbA l) ++ of_each (output_count s.plan l) (chosen_down s l)) (if_enabled s (AbsorbD l) ++ of_each (input_count s.plan l) (chosen_up s l))
        (each-append (Known (AtLeaf l) OnA) (if_enabled s (AbsorbA l)) (of_each (output_count s.plan l) (chosen_down s l)) (absorbs_a l) (each_flat (Known (AtLeaf l) OnA) (chosen_down s l) (downs_known l) 0 (output_count s.plan l)))
        (each-append (Known (AtLeaf l) OnD) (if_enabled s (AbsorbD l)) (of_each (input_count s.plan l) (chosen_up s l)) (absorbs_d l) (each_flat (Known (AtLeaf l) OnD) (chosen_up s l) (ups_known l) 0 (input_count s.plan l)))
        (λ m n a d. channels m n a.0 d.0)
        (pairs-append AreDistinct (Is s (AbsorbA l)) (SomeDown l) (if_enabled s (AbsorbA l)) (of_each (output_count s.plan l) (chosen_down s l)) (each_if s (AbsorbA l)) (each_flat (SomeDown l) (chosen_down s l) (some_down l) 0 (output_count s.plan l)) (absorb_or_down l)
        (pairs_if AreDistinct s (AbsorbA l))
        (pairs_flat AreDistinct (λ o. IsSome s (choice_of (Among.Down l o (next_id (leaf_state s l))))) (chosen_down s l) (λ o. each_first s (choice_of (Among.Down l o (next_id (leaf_state s l)))) _) (λ o. pairs_first AreDistinct s (choice_of (Among.Down l o (next_id (leaf_state s l)))) _) (two_down l) 0 (output_count s.plan l)))
        (pairs-append AreDistinct (Is s (AbsorbD l)) (SomeUp l) (if_enabled s (AbsorbD l)) (of_each (input_count s.plan l) (chosen_up s l)) (each_if s (AbsorbD l)) (each_flat (SomeUp l) (chosen_up s l) (some_up l) 0 (input_count s.plan l)) (absorb_or_up l)
        (pairs_if AreDistinct s (AbsorbD l))
        (pairs_flat AreDistinct (λ i. IsSome s (choice_of (Among.Up l i))) (chosen_up s l) (λ i. each_first s (choice_of (Among.Up l i)) _) (λ i. pairs_first AreDistinct s (choice_of (Among.Up l i)) _) (two_up l) 0 (input_count s.plan l)))

    -- ---- all of them

    OfSource : Move → Type 0
    OfSource m = (port : ℕ) × AtOne (AtSource port) m

    OfSink : Move → Type 0
    OfSink m = (port : ℕ) × AtOne (AtSink port) m

    OfPort : Move → Type 0
    OfPort m = (l : ℕ) → who m ≢ AtLeaf l

    OfLeaf : Move → Type 0
    OfLeaf m = (l : ℕ) × AtOne (AtLeaf l) m

    apart_who : (mk : ℕ → Who) → ((a b : ℕ) → mk a ≡ mk b → a ≡ b) → (a b : ℕ) (m n : Move) → a ≢ b → AtOne (mk a) m → AtOne (mk b) n → AreDistinct m n
    unfolding AtOne
    apart_who mk inj a b m n d p q = others_distinct m n (λ e. d (inj a b (sym p.0 ∙ e ∙ q.0)))

    sources_all : Pairs AreDistinct (of_each (length s.plan.sources) (source_moves s offers))
    sources_all = pairs_flat AreDistinct (λ p. AtOne (AtSource p)) (source_moves s offers) sources_at sources_apart (apart_who AtSource (λ a b e. cc)) 0 (length s.plan.sources)

    sinks_all : Pairs AreDistinct (of_each (length s.plan.sinks) (sink_moves s offers))
    sinks_all = pairs_flat AreDistinct (λ p. AtOne (AtSink p)) (sink_moves s offers) sinks_at sinks_apart (apart_who AtSink (λ a b e. cc)) 0 (length s.plan.sinks)

    leaves_all : Pairs AreDistinct (of_each (length s.plan.leaves) (leaf_moves s))
    leaves_all = pairs_flat AreDistinct (λ l. AtOne (AtLeaf l)) (leaf_moves s) leaf_known leaf_apart (apart_who AtLeaf (λ a b e. cc)) 0 (length s.plan.leaves)

    each_source : Each OfSource (of_each (length s.plan.sources) (source_moves s offers))
    unfolding OfSource
    each_source = each_flat OfSource (source_moves s offers) (λ p. each_map (AtOne (AtSource p)) OfSource (λ m h. (p, h)) (source_moves s offers p) (sources_at p)) 0 (length s.plan.sources)

    each_sink : Each OfSink (of_each (length s.plan.sinks) (sink_moves s offers))
    unfolding OfSink
    each_sink = each_flat OfSink (sink_moves s offers) (λ p. each_map (AtOne (AtSink p)) OfSink (λ m h. (p, h)) (sink_moves s offers p) (sinks_at p)) 0 (length s.plan.sinks)

    each_leaf : Each OfLeaf (of_each (length s.plan.leaves) (leaf_moves s))
    unfolding OfLeaf
    each_leaf = each_flat OfLeaf (leaf_moves s) (λ l. each_map (AtOne (AtLeaf l)) OfLeaf (λ m h. (l, h)) (leaf_moves s l) (leaf_known l)) 0 (length s.plan.leaves)

    source_sink : (m n : Move) → OfSource m → OfSink n → AreDistinct m n
    unfolding OfSource OfSink AtOne
    source_sink m n a b = others_distinct m n (λ e. let q : AtSource a.0 ≡ AtSink b.0 = sym a.1.0 ∙ e ∙ b.1.0 in cc)

    port_leaf : (m n : Move) → OfPort m → OfLeaf n → AreDistinct m n
    unfolding OfPort OfLeaf AtOne
    port_leaf m n a b = others_distinct m n (λ e. a b.0 (e ∙ b.1.0))

    source_port : (m : Move) → OfSource m → OfPort m
    unfolding OfSource OfPort AtOne
    source_port m a l e = let q : AtSource a.0 ≡ AtLeaf l = sym a.1.0 ∙ e in cc

    sink_port : (m : Move) → OfSink m → OfPort m
    unfolding OfSink OfPort AtOne
    sink_port m a l e = let q : AtSink a.0 ≡ AtLeaf l = sym a.1.0 ∙ e in cc

    all_distinct : Pairs AreDistinct (chosen_moves s offers)
    all_distinct = pairs-append AreDistinct OfPort OfLeaf (of_each (length s.plan.sources) (source_moves s offers) ++ of_each (length s.plan.sinks) (sink_moves s offers)) (of_each (length s.plan.leaves) (leaf_moves s))
        (each-append OfPort (of_each (length s.plan.sources) (source_moves s offers)) (of_each (length s.plan.sinks) (sink_moves s offers)) (each_map OfSource OfPort source_port _ each_source) (each_map OfSink OfPort sink_port _ each_sink))
        each_leaf port_leaf
        (pairs-append AreDistinct OfSource OfSink (of_each (length s.plan.sources) (source_moves s offers)) (of_each (length s.plan.sinks) (sink_moves s offers)) each_source each_sink source_sink sources_all sinks_all)
        leaves_all

    all_enabled : Each (λ m. IsTrue (is_enabled s m)) (chosen_moves s offers)
    unfolding OfSource OfSink OfLeaf AtOne
    all_enabled = each-append (λ m. IsTrue (is_enabled s m)) (of_each (length s.plan.sources) (source_moves s offers) ++ of_each (length s.plan.sinks) (sink_moves s offers)) (of_each (length s.plan.leaves) (leaf_moves s))
        (each-append (λ m. IsTrue (is_enabled s m)) (of_each (length s.plan.sources) (source_moves s offers)) (of_each (length s.plan.sinks) (sink_moves s offers))
        (each_map OfSource (λ m. IsTrue (is_enabled s m)) (λ m h. h.1.1) _ each_source) (each_map OfSink (λ m. IsTrue (is_enabled s m)) (λ m h. h.1.1) _ each_sink))
        (each_map OfLeaf (λ m. IsTrue (is_enabled s m)) (λ m h. h.1.1) _ each_leaf)

    fits_any : (K L : Kind) → FitsKinds s K L
    fits_any Port Port = tt
    fits_any Port (Down l k i o id) = tt
    fits_any Port (Up l k i o) = tt
    fits_any (Down l k i o id) Port = tt
    fits_any (Down l k i o id) (Down m k' j p id') = tt
    fits_any (Down l k i o id) (Up m k' j p) = λ e. fits_valid plan s valid l
    fits_any (Up l k i o) Port = tt
    fits_any (Up l k i o) (Down m k' j p id) = λ e. fits_valid plan s valid l
    fits_any (Up l k i o) (Up m k' j p) = tt

    apart_from : (sound : IsSound s.plan) (m : Move) → IsTrue (is_enabled s m) → (ms : List Move) → Each (λ m. IsTrue (is_enabled s m)) ms → Each (AreDistinct m) ms → ApartFrom s m ms
    apart_from sound m e [] h d = tt
    apart_from sound m e (n ∷ ms) h d = (
      record {
        enabled = (e, h.0);
        queues = λ j k f g. queues_apart s m n j k sound d.0 f g;
        ways = ways_apart m n d.0;
        fits = fits_any (kind_of m) (kind_of n);
      },
      apart_from sound m e ms h.1 d.1,
    )

    apart_all : (sound : IsSound s.plan) (ms : List Move) → Each (λ m. IsTrue (is_enabled s m)) ms → Pairs AreDistinct ms → AllApart s ms
    apart_all sound [] h d = tt
    apart_all sound (m ∷ ms) h d = (h.0, apart_from sound m h.0 ms h.1 d.0, apart_all sound ms h.1 d.1)

    pub chosen_apart : IsSound s.plan → AllApart s (chosen_moves s offers)
    chosen_apart sound = apart_all sound (chosen_moves s offers) all_enabled all_distinct
