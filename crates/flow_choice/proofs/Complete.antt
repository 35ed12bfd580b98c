-- Each move that may be made and is asked for is chosen.
use Rattle.std.proofs.Common.{◌≡◌, ◌≤◌, ◌<◌, ℕ, zero, suc, ◌+◌, ◌-◌, Bool, true, false, List, [], ◌∷◌, length, Option, Some, None, cond, get_or, slice_get, refl, sym, ap, ◌∙◌, subst, arith, inl, inr, IsTrue}
use Rattle.std.specs.Prelude.{Contains, find, flat_map, min}
use Rattle.std.specs.List.{range_with_len}
use Rattle.std.specs.Option.{option_or, option_map, option_map_or, option_to_list}
use Rattle.std.proofs.lemmas.Bool.{cases_lt}
use Rattle.std.proofs.lemmas.List.Elements.{All-contains, Contains-push, Contains-append_left, Contains-append_right}
use Rattle.tl_params.specs.declared.ops.Policy.{Policy}
use Rattle.tl_params.specs.declared.ops.Policy.TheVariants.{Lowest, Round}
use Rattle.tl_edge.specs.declared.beat.ABeat.{ABeat}
use Rattle.tl_edge.specs.declared.beat.DBeat.{DBeat}
use Rattle.tl_edge.specs.declared.beat.Tag.{Tag}
use Rattle.tl_edge.specs.declared.plan.Leaf.{Leaf}
use Rattle.tl_edge.specs.declared.plan.Plan.{Plan}
use Rattle.tl_edge.specs.declared.plan.PlanPort.{PlanPort}
use Rattle.flow_core.specs.declared.moves.Move.{Move}
use Rattle.flow_core.specs.declared.moves.Move.TheVariants.{Enter, Leave, Reply, Return, AbsorbA, AbsorbD, ForwardA, ForwardD}
use Rattle.flow_core.specs.Network.{State, Part, is_enabled, edge_of_port, in_edge, out_edge, both, part_a, part_d}
use Rattle.flow_core.specs.Turns.{leaf_state, output_turn, input_turn, next_id}
use Rattle.flow_choice.specs.declared.cycle.Among.TheVariants as Among
use Rattle.flow_choice.specs.declared.offers.Offers.{Offers}
use Rattle.flow_choice.specs.Turns.{in_turn}
use Rattle.flow_choice.specs.Choosing.{if_enabled, of_each, entering, replying, taking, source_moves, sink_moves, input_count, output_count, choice_of, first_enabled, chosen_down, chosen_up, leaf_moves_a, leaf_moves_d, leaf_moves, port_moves, chosen_moves}
use Rattle.flow_choice.specs.Chosen.{turn_of_number, IsFirst, IsAsked, ChosenLaw}
use Rattle.flow_choice.proofs.Commuting.{map_some, then_some}
use Rattle.flow_choice.proofs.Meeting.{some_job}
use Rattle.flow_choice.proofs.Adding.{find-append, round_turns}
use Rattle.flow_choice.proofs.Picked.{true_false, was_true, is_true, none_in, first_in_turn, later_turn, earlier_turn, all_asked}

-- ---- the first in turn is found

neither : (a b : Option ℕ) → option_or a b ≡ None → (a ≡ None) × (b ≡ None)
neither None b e = (refl, e)
neither (Some x) b e = absurd cc

none_in_turn : (policy : Policy) (test : ℕ → Bool) (next count : ℕ) → find test (in_turn policy next count) ≡ None → (m : ℕ) → m < count → test m ≡ false
none_in_turn Lowest test next count e m h = none_in test 0 count e m (omega arith) (omega (arith, h))
none_in_turn Round test next count e m h =
    let none = neither (find test (range_with_len (min next count) (count - min next count))) (find test (range_with_len 0 (min next count)))
    (sym (find-append test (range_with_len (min next count) (count - min next count)) (range_with_len 0 (min next count))) ∙ ap (find test) (sym (round_turns next count)) ∙ e) in
    elim (cases_lt m (min next count)) [
      | inl c ↦ none_in test 0 (min next count) none.1 m (omega arith) (omega (arith, c))
      | inr c ↦ none_in test (min next count) (count - min next count) none.0 m c (omega (arith, c, h))
    ]

one_turn : (policy : Policy) (next count n k : ℕ) → n < count → k < count → turn_of_number policy next count n ≡ turn_of_number policy next count k → n ≡ k
one_turn Lowest next count n k a b e = e
one_turn Round next count n k a b e = elim (cases_lt n next) [
  | inl c ↦ elim (cases_lt k next) [
    | inl d ↦ (let f : count + n ≡ count + k = sym (earlier_turn next count n c) ∙ e ∙ earlier_turn next count k d in omega (arith, f))
    | inr d ↦ (let f : count + n ≡ k = sym (earlier_turn next count n c) ∙ e ∙ later_turn next count k d in absurd (omega (arith, f, b)))
  ]
  | inr c ↦ elim (cases_lt k next) [
    | inl d ↦ (let f : n ≡ count + k = sym (later_turn next count n c) ∙ e ∙ earlier_turn next count k d in absurd (omega (arith, f, a)))
    | inr d ↦ sym (later_turn next count n c) ∙ e ∙ later_turn next count k d
  ]
]

equal : (n m : ℕ) → n ≤ m → m ≤ n → n ≡ m
equal n m a b = omega (arith, a, b)

found_first : (s : State) (move : ℕ → Move) (next count n : ℕ) → IsTrue (is_enabled s (move n)) → IsFirst s move next count n → find (λ n. is_enabled s (move n)) (in_turn s.plan.policy next count) ≡ Some n
found_first s move next count n enabled first = at (find (λ n. is_enabled s (move n)) (in_turn s.plan.policy next count)) refl
  where
    at : (o : Option ℕ) → find (λ n. is_enabled s (move n)) (in_turn s.plan.policy next count) ≡ o → o ≡ Some n
    at None e = absurd (true_false (is_enabled s (move n)) (was_true (is_enabled s (move n)) enabled)
        (none_in_turn s.plan.policy (λ n. is_enabled s (move n)) next count e n first.below))
    at (Some k) e =
        let its = first_in_turn s.plan.policy (λ n. is_enabled s (move n)) next count k e in
        ap Some (one_turn s.plan.policy next count k n its.below first.below
        (equal _ _ (its.first n first.below (was_true (is_enabled s (move n)) enabled)) (first.first k its.below (is_true (is_enabled s (move k)) its.passes))))

-- ---- in lists

only : (move : Move) → Contains (move ∷ []) move
only move = Contains-push [] move

flat_has : (f : ℕ → List Move) (move : Move) (from count n : ℕ) → from ≤ n → n < from + count → Contains (f n) move → Contains (flat_map f (range_with_len from count)) move
flat_has f move from zero n a b c = absurd (omega (arith, a, b))
flat_has f move from (suc count) n a b c = elim (cases_lt from n) [
  | inl d ↦ Contains-append_right (f from) (flat_map f (range_with_len (from + 1) count)) move (flat_has f move (from + 1) count n (omega (arith, d)) (omega (arith, b)) c)
  | inr d ↦ (let same : n ≡ from = omega (arith, a, d) in Contains-append_left (f from) (flat_map f (range_with_len (from + 1) count)) move (subst (λ n. Contains (f n) move) same c))
]

each_has : (f : ℕ → List Move) (move : Move) (count n : ℕ) → n < count → Contains (f n) move → Contains (of_each count f) move
each_has f move count n h c = flat_has f move 0 count n (omega arith) (omega (arith, h)) c

if_has : (s : State) (move : Move) → IsTrue (is_enabled s move) → Contains (if_enabled s move) move
if_has s move h = subst (λ b. Contains (cond b (move ∷ []) []) move) (sym (was_true (is_enabled s move) h)) (only move)

first_has : (s : State) (move : ℕ → Move) (next count n : ℕ) → IsTrue (is_enabled s (move n)) → IsFirst s move next count n → Contains (first_enabled s move (in_turn s.plan.policy next count)) (move n)
first_has s move next count n enabled first =
    subst (λ o. Contains (option_to_list (option_map move o)) (move n)) (sym (found_first s move next count n enabled first)) (only (move n))

got : {A : Type 0} (xs : List A) (place : ℕ) (x d : A) → slice_get xs place ≡ Some x → get_or xs place d ≡ x
got [] place x d e = absurd cc
got (y ∷ xs) zero x d e = cc
got (y ∷ xs) (suc place) x d e = got xs place x d e

below : {A : Type 0} (xs : List A) (place : ℕ) (x : A) → slice_get xs place ≡ Some x → place < length xs
below [] place x e = absurd cc
below (y ∷ xs) zero x e = omega arith
below (y ∷ xs) (suc place) x e = let later : place < length xs = below xs place x e in omega (arith, later)

-- ---- what a move names is there

port_below : (ports : List PlanPort) (port edge : ℕ) → edge_of_port ports port ≡ Some edge → port < length ports
port_below ports port edge e = let at = map_some (λ (at : PlanPort). at.edge) (slice_get ports port) edge e in below ports port at.0 at.1

input_below : (plan : Plan) (leaf input edge : ℕ) → in_edge plan leaf input ≡ Some edge → (leaf < length plan.leaves) × (input < input_count plan leaf)
input_below plan leaf input edge e =
    let at = then_some (λ (at : Leaf). slice_get at.ins input) (slice_get plan.leaves leaf) edge e in
    (below plan.leaves leaf at.0 at.1, subst (λ o. input < option_map_or (λ (at : Leaf). length at.ins) o 0) (sym at.1) (below at.0.ins input edge at.2))

output_below : (plan : Plan) (leaf output edge : ℕ) → out_edge plan leaf output ≡ Some edge → (leaf < length plan.leaves) × (output < output_count plan leaf)
output_below plan leaf output edge e =
    let at = then_some (λ (at : Leaf). slice_get at.outs output) (slice_get plan.leaves leaf) edge e in
    (below plan.leaves leaf at.0 at.1, subst (λ o. output < option_map_or (λ (at : Leaf). length at.outs) o 0) (sym at.1) (below at.0.outs output edge at.2))

both_there : {A B C : Type 0} (one : Option A) (other : Option B) (f : A → B → Option C) (z : C) → both one other f ≡ Some z → ((x : A) × (one ≡ Some x)) × ((y : B) × (other ≡ Some y))
both_there None other f z e = absurd cc
both_there (Some x) None f z e = absurd cc
both_there (Some x) (Some y) f z e = ((x, refl), (y, refl))

down_below : (s : State) (leaf input output id : ℕ) (part : Part (ABeat × Tag)) → part_a s leaf input output id ≡ Some part → (leaf < length s.plan.leaves) × (output < output_count s.plan leaf)
down_below s leaf input output id part e =
    let held = then_some _ (slice_get s.leaves leaf) part e in
    let ends = both_there (in_edge s.plan leaf input) (out_edge s.plan leaf output) _ part held.2 in
    output_below s.plan leaf output ends.1.0 ends.1.1

up_below : (s : State) (leaf input output : ℕ) (part : Part (DBeat × Tag)) → part_d s leaf input output ≡ Some part → (leaf < length s.plan.leaves) × (input < input_count s.plan leaf)
up_below s leaf input output part e =
    let held = then_some _ (slice_get s.leaves leaf) part e in
    let ends = both_there (out_edge s.plan leaf output) (in_edge s.plan leaf input) _ part held.2 in
    input_below s.plan leaf input ends.1.0 ends.1.1

-- ---- the moves

module _ (s : State) (offers : Offers) where
  at_source : (port : ℕ) (move : Move) → port < length s.plan.sources → Contains (source_moves s offers port) move → Contains (chosen_moves s offers) move
  at_source port move h c =
      Contains-append_left (port_moves s offers) (of_each (length s.plan.leaves) (leaf_moves s)) move
      (Contains-append_left (of_each (length s.plan.sources) (source_moves s offers)) (of_each (length s.plan.sinks) (sink_moves s offers)) move
      (each_has (source_moves s offers) move (length s.plan.sources) port h c))

  at_sink : (port : ℕ) (move : Move) → port < length s.plan.sinks → Contains (sink_moves s offers port) move → Contains (chosen_moves s offers) move
  at_sink port move h c =
      Contains-append_left (port_moves s offers) (of_each (length s.plan.leaves) (leaf_moves s)) move
      (Contains-append_right (of_each (length s.plan.sources) (source_moves s offers)) (of_each (length s.plan.sinks) (sink_moves s offers)) move
      (each_has (sink_moves s offers) move (length s.plan.sinks) port h c))

  at_leaf_a : (leaf : ℕ) (move : Move) → leaf < length s.plan.leaves → Contains (leaf_moves_a s leaf) move → Contains (chosen_moves s offers) move
  at_leaf_a leaf move h c =
      Contains-append_right (port_moves s offers) (of_each (length s.plan.leaves) (leaf_moves s)) move
      (each_has (leaf_moves s) move (length s.plan.leaves) leaf h (Contains-append_left (leaf_moves_a s leaf) (leaf_moves_d s leaf) move c))

  at_leaf_d : (leaf : ℕ) (move : Move) → leaf < length s.plan.leaves → Contains (leaf_moves_d s leaf) move → Contains (chosen_moves s offers) move
  at_leaf_d leaf move h c =
      Contains-append_right (port_moves s offers) (of_each (length s.plan.leaves) (leaf_moves s)) move
      (each_has (leaf_moves s) move (length s.plan.leaves) leaf h (Contains-append_right (leaf_moves_a s leaf) (leaf_moves_d s leaf) move c))

  by_down : (leaf input output id : ℕ) → id ≡ next_id (leaf_state s leaf) → IsTrue (is_enabled s (ForwardA leaf input output id))
      → IsFirst s (λ from. ForwardA leaf from output id) (output_turn (leaf_state s leaf) output) (input_count s.plan leaf) input
      → Contains (chosen_down s leaf output) (ForwardA leaf input output id)
  by_down leaf input output id q h first = at id q h first
    where
      at : (id : ℕ) → id ≡ next_id (leaf_state s leaf) → IsTrue (is_enabled s (ForwardA leaf input output id))
          → IsFirst s (λ from. ForwardA leaf from output id) (output_turn (leaf_state s leaf) output) (input_count s.plan leaf) input
          → Contains (chosen_down s leaf output) (ForwardA leaf input output id)
      at id q h first =
          subst (λ new. Contains (first_enabled s (choice_of (Among.Down leaf output new)) (in_turn s.plan.policy (output_turn (leaf_state s leaf) output) (input_count s.plan leaf))) (ForwardA leaf input output id)) q
          (first_has s (choice_of (Among.Down leaf output id)) (output_turn (leaf_state s leaf) output) (input_count s.plan leaf) input h first)

  pub is_chosen : (move : Move) → IsTrue (is_enabled s move) → IsAsked s offers move → Contains (chosen_moves s offers) move
  is_chosen (Enter port beat tag) h asked =
      let job = some_job s (Enter port beat tag) h in
      let edge = then_some _ (edge_of_port s.plan.sources port) job.0 job.1 in
      at_source port (Enter port beat tag) (port_below s.plan.sources port edge.0 edge.1)
      (Contains-append_left (entering s port (get_or offers.enter port None)) (taking s (Return port) (get_or offers.take_d port false)) (Enter port beat tag)
      (subst (λ o. Contains (entering s port o) (Enter port beat tag)) (sym (got offers.enter port (Some (beat, tag)) None asked)) (if_has s (Enter port beat tag) h)))
  is_chosen (Return port) h asked =
      let job = some_job s (Return port) h in
      let edge = map_some _ (edge_of_port s.plan.sources port) job.0 job.1 in
      at_source port (Return port) (port_below s.plan.sources port edge.0 edge.1)
      (Contains-append_right (entering s port (get_or offers.enter port None)) (taking s (Return port) (get_or offers.take_d port false)) (Return port)
      (subst (λ b. Contains (taking s (Return port) b) (Return port)) (sym (got offers.take_d port true false asked)) (if_has s (Return port) h)))
  is_chosen (Leave port) h asked =
      let job = some_job s (Leave port) h in
      let edge = map_some _ (edge_of_port s.plan.sinks port) job.0 job.1 in
      at_sink port (Leave port) (port_below s.plan.sinks port edge.0 edge.1)
      (Contains-append_left (taking s (Leave port) (get_or offers.take_a port false)) (replying s port (get_or offers.reply port None)) (Leave port)
      (subst (λ b. Contains (taking s (Leave port) b) (Leave port)) (sym (got offers.take_a port true false asked)) (if_has s (Leave port) h)))
  is_chosen (Reply port beat tag) h asked =
      let job = some_job s (Reply port beat tag) h in
      let edge = then_some _ (edge_of_port s.plan.sinks port) job.0 job.1 in
      at_sink port (Reply port beat tag) (port_below s.plan.sinks port edge.0 edge.1)
      (Contains-append_right (taking s (Leave port) (get_or offers.take_a port false)) (replying s port (get_or offers.reply port None)) (Reply port beat tag)
      (subst (λ o. Contains (replying s port o) (Reply port beat tag)) (sym (got offers.reply port (Some (beat, tag)) None asked)) (if_has s (Reply port beat tag) h)))
  is_chosen (AbsorbA leaf) h asked =
      let job = some_job s (AbsorbA leaf) h in
      let part = map_some _ _ job.0 job.1 in
      let own = then_some _ (part_a s leaf 0 0 0) part.0 part.1 in
      at_leaf_a leaf (AbsorbA leaf) (down_below s leaf 0 0 0 own.0 own.1).0
      (Contains-append_left (if_enabled s (AbsorbA leaf)) (of_each (output_count s.plan leaf) (chosen_down s leaf)) (AbsorbA leaf) (if_has s (AbsorbA leaf) h))
  is_chosen (AbsorbD leaf) h asked =
      let job = some_job s (AbsorbD leaf) h in
      let part = map_some _ _ job.0 job.1 in
      let own = then_some _ (part_d s leaf 0 0) part.0 part.1 in
      at_leaf_d leaf (AbsorbD leaf) (up_below s leaf 0 0 own.0 own.1).0
      (Contains-append_left (if_enabled s (AbsorbD leaf)) (of_each (input_count s.plan leaf) (chosen_up s leaf)) (AbsorbD leaf) (if_has s (AbsorbD leaf) h))
  is_chosen (ForwardA leaf input output id) h asked =
      let job = some_job s (ForwardA leaf input output id) h in
      let part = map_some _ _ job.0 job.1 in
      let own = then_some _ (part_a s leaf input output id) part.0 part.1 in
      let there = down_below s leaf input output id own.0 own.1 in
      at_leaf_a leaf (ForwardA leaf input output id) there.0
      (Contains-append_right (if_enabled s (AbsorbA leaf)) (of_each (output_count s.plan leaf) (chosen_down s leaf)) (ForwardA leaf input output id)
      (each_has (chosen_down s leaf) (ForwardA leaf input output id) (output_count s.plan leaf) output there.1 (by_down leaf input output id asked.0 h asked.1)))
  is_chosen (ForwardD leaf input output) h asked =
      let job = some_job s (ForwardD leaf input output) h in
      let part = map_some _ _ job.0 job.1 in
      let own = then_some _ (part_d s leaf input output) part.0 part.1 in
      let there = up_below s leaf input output own.0 own.1 in
      at_leaf_d leaf (ForwardD leaf input output) there.0
      (Contains-append_right (if_enabled s (AbsorbD leaf)) (of_each (input_count s.plan leaf) (chosen_up s leaf)) (ForwardD leaf input output)
      (each_has (chosen_up s leaf) (ForwardD leaf input output) (input_count s.plan leaf) input there.1
      (first_has s (choice_of (Among.Up leaf input)) (input_turn (leaf_state s leaf) input) (output_count s.plan leaf) output h asked)))

pub exactly_asked : ChosenLaw
exactly_asked = λ s offers move. (
  All-contains (λ m. IsTrue (is_enabled s m) × IsAsked s offers m) (chosen_moves s offers) move (all_asked s offers),
  λ h. is_chosen s offers move h.0 h.1,
)
