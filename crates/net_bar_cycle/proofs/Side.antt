-- One channel of a crossbar: what its chosen moves put and take, by which head each of its gates serves.
use Rattle.std.proofs.Common.{◌≡◌, ◌≢◌, ◌<◌, ◌≤◌, ℕ, zero, suc, ◌+◌, true, false, ◌||◌, ◌==◌, List, length, map, Option, Some, None, cond, refl, sym, ap, ◌∙◌, arith, inl, inr, is_some, slice_get}
use Rattle.std.specs.Prelude.{find, flat_map, nat_eq}
use Rattle.std.specs.List.{list_any, range_with_len}
use Rattle.std.specs.Option.{option_and_then, option_map, option_map_or, option_or, option_to_list}
use Rattle.std.proofs.lemmas.Bool.{cases_eq}
use Rattle.std.proofs.lemmas.Bool.Decides.{nat_tests}
use Rattle.std.proofs.lemmas.Option.{same_Some}
use Rattle.tl_edge.specs.declared.beat.Tag.{Tag}
use Rattle.flow_core.specs.declared.locks.Gates.{Gates}
use Rattle.flow_core.specs.declared.moves.Move.{Move}
use Rattle.flow_core.specs.declared.queue.Flow.{Flow}
use Rattle.flow_core.specs.Acts.{Act}
use Rattle.flow_core.specs.Crossing.{Crossbar}
use Rattle.flow_core.specs.Leaves.{LeafState}
use Rattle.flow_core.specs.Network.{State, is_enabled}
use Rattle.flow_core.specs.Queues.{still, may_flow}
use Rattle.flow_choice.specs.Choosing.{first_enabled, of_each}
use Rattle.flow_choice.proofs.Jobs.{seen}
use Rattle.flow_choice.proofs.Listing.{find_true}
use Rattle.net_choice.specs.Choice.{is_number}
use Rattle.net_gate.proofs.Serves.{find_same}
use Rattle.net_queue.specs.Adapters.{put_by}
use Rattle.net_xbar.specs.Crossings.{is_taken, put_of}
use Rattle.net_cycle.specs.Flows.{first_put, any_take}
use Rattle.net_cycle.specs.Parts.{plain}
use Rattle.net_cycle.proofs.Ends.{put_both, take_both, or_nothing, or_false}
use Rattle.net_bar_cycle.proofs.Passing.{Pass, Way, IsWay, Goes, way, way_flow, way_is, act_of, room_at, may_go, goes_of, seen_on}

-- A channel of a crossbar in a state: its heads stand on the one list of edges, and what passes goes onto the other one.
-- A move, and an act by what is seen, is named by the places of both, that to which it goes first.
pub record Side (B : Type 0) (s : State) : Type 0 where
  pub bar : Crossbar
  pub queues : List (List (B × Tag))
  pub froms : List ℕ
  pub tos : List ℕ
  pub pass : ℕ → ℕ → Pass B
  pub move : ℕ → ℕ → Move
  pub flow : Move → Flow (B × Tag)
  pub flow_is : (to from : ℕ) → flow (move to from) ≡ option_map_or way_flow (way queues (pass to from) (slice_get froms from) (slice_get tos to)) still
  pub enabled_is : (to from : ℕ) → is_enabled s (move to from) ≡ option_map_or (λ (w : Way B). may_flow queues (way_flow w)) (way queues (pass to from) (slice_get froms from) (slice_get tos to)) false
  pub act : ℕ → ℕ → Option (Act B LeafState)
  pub act_is : (to from : ℕ) → act to from ≡ cond (room_at queues (slice_get tos to)) (option_map (act_of bar) (option_and_then (pass to from) (plain (seen queues (slice_get froms from))))) None
  pub turns : ℕ → List ℕ
  pub within : (to edge : ℕ) → slice_get tos to ≡ Some edge → edge < length queues
  pub one_from : (from other edge : ℕ) → slice_get froms from ≡ Some edge → slice_get froms other ≡ Some edge → from ≡ other
  pub one_to : (to other edge : ℕ) → slice_get tos to ≡ Some edge → slice_get tos other ≡ Some edge → to ≡ other

equal : (n m : ℕ) → n ≡ m → nat_eq n m ≡ true
equal n m e = grind (arith, nat_tests)

unequal : (n m : ℕ) → n ≢ m → nat_eq n m ≡ false
unequal n m e = grind (arith, nat_tests)

same_edge : (n m : ℕ) → n ≡ m → (n == m) ≡ true
same_edge n m e = grind (arith, nat_tests)

other_edge : (n m : ℕ) → n ≢ m → (n == m) ≡ false
other_edge n m e = grind (arith, nat_tests)

module _ {B : Type 0} {s : State} (S : Side B s) where
  -- from which place the first in turn goes to one
  abbrev pub first : ℕ → Option ℕ
  first to = find (λ from. is_some (S.act to from)) (S.turns to)

  abbrev pub chosen : ℕ → List Move
  chosen to = first_enabled s (S.move to) (S.turns to)

  may : (to from : ℕ) → is_enabled s (S.move to from) ≡ is_some (S.act to from)
  may to from = S.enabled_is to from ∙ may_go S.bar S.queues (S.pass to from) (slice_get S.froms from) (slice_get S.tos to) (S.within to) ∙ ap is_some (sym (S.act_is to from))

  pub chosen_is : (to : ℕ) → chosen to ≡ option_to_list (option_map (S.move to) (first to))
  chosen_is to = ap (λ o. option_to_list (option_map (S.move to) o)) (find_same (λ from. is_enabled s (S.move to from)) (λ from. is_some (S.act to from)) (may to) (S.turns to))

  -- the way of the first
  pub served : (to from : ℕ) → first to ≡ Some from → Goes S.queues (S.pass to from) (slice_get S.froms from) (slice_get S.tos to)
  served to from e = goes_of S.queues (S.pass to from) S.bar (slice_get S.froms from) (slice_get S.tos to) (ap is_some (sym (S.act_is to from)) ∙ find_true (λ from. is_some (S.act to from)) (S.turns to) from e)

  flow_on : (to from : ℕ) (w : Way B) → IsWay S.queues (S.pass to from) (slice_get S.froms from) (slice_get S.tos to) w → S.flow (S.move to from) ≡ way_flow w
  flow_on to from w h = S.flow_is to from ∙ ap (λ o. option_map_or way_flow o still) (way_is S.queues (S.pass to from) (slice_get S.froms from) (slice_get S.tos to) w h)

  -- ---- takes

  take_by : (to from edge : ℕ) → slice_get S.froms from ≡ Some edge → (o : Option ℕ) → first to ≡ o → any_take edge (map S.flow (option_to_list (option_map (S.move to) o))) ≡ is_number o from
  take_by to from edge h None e = refl
  take_by to from edge h (Some n) e =
      let g = served to n e in
      rw (flow_on to n g.its g.is) (or_false (g.its.from == edge) ∙ elim (cases_eq n from) [
        | inl q ↦ same_edge g.its.from edge (same_Some _ _ (sym g.is.from_is ∙ ap (slice_get S.froms) q ∙ h)) ∙ sym (equal n from q)
        | inr d ↦ other_edge g.its.from edge (λ q. d (S.one_from n from edge (g.is.from_is ∙ ap Some q) h)) ∙ sym (unequal n from d)
      ])

  take_one : (to from edge : ℕ) → slice_get S.froms from ≡ Some edge → any_take edge (map S.flow (chosen to)) ≡ is_number (first to) from
  take_one to from edge h = ap (λ ms. any_take edge (map S.flow ms)) (chosen_is to) ∙ take_by to from edge h (first to) refl

  take_some : (from edge : ℕ) → slice_get S.froms from ≡ Some edge → (low count : ℕ) → any_take edge (map S.flow (flat_map chosen (range_with_len low count))) ≡ list_any (λ to. is_number (first to) from) (range_with_len low count)
  take_some from edge h low zero = refl
  take_some from edge h low (suc count) =
      take_both S.flow edge (chosen low) (flat_map chosen (range_with_len (low + 1) count))
      ∙ ap (λ b. b || any_take edge (map S.flow (flat_map chosen (range_with_len (low + 1) count)))) (take_one low from edge h)
      ∙ ap (λ b. is_number (first low) from || b) (take_some from edge h (low + 1) count)

  pub takes : (from edge : ℕ) → slice_get S.froms from ≡ Some edge → any_take edge (map S.flow (of_each (length S.tos) chosen)) ≡ is_taken first (length S.tos) from
  takes from edge h = take_some from edge h 0 (length S.tos)

  -- ---- puts

  put_elsewhere : (to place edge : ℕ) → slice_get S.tos place ≡ Some edge → to ≢ place → (o : Option ℕ) → first to ≡ o → first_put edge (map S.flow (option_to_list (option_map (S.move to) o))) ≡ None
  put_elsewhere to place edge h d None e = refl
  put_elsewhere to place edge h d (Some n) e =
      let g = served to n e in
      let k : (g.its.to == edge) ≡ false = other_edge g.its.to edge (λ q. d (S.one_to to place edge (g.is.to_is ∙ ap Some q) h)) in
      rw (flow_on to n g.its g.is) (rw k refl)

  put_other : (to place edge : ℕ) → slice_get S.tos place ≡ Some edge → to ≢ place → first_put edge (map S.flow (chosen to)) ≡ None
  put_other to place edge h d = ap (λ ms. first_put edge (map S.flow ms)) (chosen_is to) ∙ put_elsewhere to place edge h d (first to) refl

  put_here_by : (to edge : ℕ) → slice_get S.tos to ≡ Some edge → (o : Option ℕ) → first to ≡ o → plain (first_put edge (map S.flow (option_to_list (option_map (S.move to) o)))) ≡ put_of (S.act to) o
  put_here_by to edge h None e = refl
  put_here_by to edge h (Some n) e =
      let g = served to n e in
      let k : (g.its.to == edge) ≡ true = same_edge g.its.to edge (same_Some _ _ (sym g.is.to_is ∙ h)) in
      rw (flow_on to n g.its g.is) (rw k (sym (ap put_by (S.act_is to n ∙ made g.its (slice_get S.tos to) (option_and_then (S.pass to n) (plain (seen S.queues (slice_get S.froms n)))) g.is.to_is g.room (seen_on S.queues (S.pass to n) (slice_get S.froms n) (slice_get S.tos to) g.its g.is)))))
    where
      made : (w : Way B) (to : Option ℕ) (o : Option (B × Gates)) → to ≡ Some w.to → room_at S.queues (Some w.to) ≡ true → o ≡ Some (w.put.0, w.gates)
          → cond (room_at S.queues to) (option_map (act_of S.bar) o) None ≡ Some (act_of S.bar (w.put.0, w.gates))
      made w to o e r q = ap (λ z. cond (room_at S.queues z) (option_map (act_of S.bar) o) None) e ∙ ap (λ b. cond b (option_map (act_of S.bar) o) None) r ∙ ap (option_map (act_of S.bar)) q

  put_own : (to edge : ℕ) → slice_get S.tos to ≡ Some edge → plain (first_put edge (map S.flow (chosen to))) ≡ put_of (S.act to) (first to)
  put_own to edge h = ap (λ ms. plain (first_put edge (map S.flow ms))) (chosen_is to) ∙ put_here_by to edge h (first to) refl

  put_later : (place edge : ℕ) → slice_get S.tos place ≡ Some edge → (low count : ℕ) → place < low → first_put edge (map S.flow (flat_map chosen (range_with_len low count))) ≡ None
  put_later place edge h low zero b = refl
  put_later place edge h low (suc count) b =
      put_both S.flow edge (chosen low) (flat_map chosen (range_with_len (low + 1) count))
      ∙ ap (λ o. option_or o (first_put edge (map S.flow (flat_map chosen (range_with_len (low + 1) count))))) (put_other low place edge h (λ q. omega (arith, b, q)))
      ∙ put_later place edge h (low + 1) count (omega (arith, b))

  put_among : (place edge : ℕ) → slice_get S.tos place ≡ Some edge → (low count : ℕ) → low ≤ place → place < low + count
      → first_put edge (map S.flow (flat_map chosen (range_with_len low count))) ≡ first_put edge (map S.flow (chosen place))
  put_among place edge h low zero b c = absurd (omega (arith, b, c))
  put_among place edge h low (suc count) b c =
      put_both S.flow edge (chosen low) (flat_map chosen (range_with_len (low + 1) count))
      ∙ elim (cases_eq low place) [ inl q ↦ here q | inr d ↦ later d (put_among place edge h (low + 1) count (omega (arith, b, d)) (omega (arith, c))) ]
    where
      here : low ≡ place → option_or (first_put edge (map S.flow (chosen low))) (first_put edge (map S.flow (flat_map chosen (range_with_len (low + 1) count)))) ≡ first_put edge (map S.flow (chosen place))
      here q =
          ap (option_or (first_put edge (map S.flow (chosen low)))) (put_later place edge h (low + 1) count (omega (arith, q)))
          ∙ or_nothing (first_put edge (map S.flow (chosen low))) ∙ ap (λ n. first_put edge (map S.flow (chosen n))) q

      later : low ≢ place → first_put edge (map S.flow (flat_map chosen (range_with_len (low + 1) count))) ≡ first_put edge (map S.flow (chosen place))
          → option_or (first_put edge (map S.flow (chosen low))) (first_put edge (map S.flow (flat_map chosen (range_with_len (low + 1) count)))) ≡ first_put edge (map S.flow (chosen place))
      later d g = ap (λ o. option_or o (first_put edge (map S.flow (flat_map chosen (range_with_len (low + 1) count))))) (put_other low place edge h d) ∙ g

  pub puts : (to edge : ℕ) → slice_get S.tos to ≡ Some edge → to < length S.tos → plain (first_put edge (map S.flow (of_each (length S.tos) chosen))) ≡ put_of (S.act to) (first to)
  puts to edge h l = ap plain (put_among to edge h 0 (length S.tos) (omega arith) (omega (arith, l))) ∙ put_own to edge h
