-- A crossbar of the network is its machine.
use Rattle.std.proofs.Common.{◌≡◌, ℕ, zero, suc, ◌+◌, Bool, true, List, [], ◌∷◌, ◌++◌, length, map, get_or, Option, Some, None, refl, sym, ap, ◌∙◌, subst, arith, slice_get}
use Rattle.std.specs.Prelude.{flat_map}
use Rattle.std.specs.List.{range_with_len}
use Rattle.std.specs.Option.{option_map, option_map_or, option_to_list}
use Rattle.std.proofs.lemmas.List.{length-map}
use Rattle.tl_edge.specs.declared.beat.ABeat.{ABeat}
use Rattle.tl_edge.specs.declared.beat.DBeat.{DBeat}
use Rattle.tl_edge.specs.declared.beat.Tag.{Tag}
use Rattle.tl_edge.specs.declared.plan.Leaf.{Leaf}
use Rattle.flow_core.specs.declared.locks.Gates.{Gates}
use Rattle.flow_core.specs.declared.moves.Move.{Move}
use Rattle.flow_core.specs.declared.moves.Move.TheVariants.{ForwardA, ForwardD}
use Rattle.flow_core.specs.Crossing.{Crossbar}
use Rattle.flow_core.specs.Leaves.{LeafState, down, down_alone, up, up_alone}
use Rattle.flow_core.specs.Leaves.LeafState.{BufferState, XbarState}
use Rattle.flow_core.specs.Network.{State}
use Rattle.flow_core.specs.Queues.{queue, head_in, has_place}
use Rattle.flow_core.specs.Tags.{Held}
use Rattle.flow_core.specs.Turns.{leaf_state}
use Rattle.flow_choice.specs.Choosing.{leaf_moves, state_after_moves}
use Rattle.flow_choice.proofs.Jobs.{seen}
use Rattle.flow_choice.proofs.Listing.{Each, IsSome, each-append, each_first, each_flat, each_map}
use Rattle.flow_choice.proofs.Ordering.{AllApart}
use Rattle.net_queue.specs.Adapters.{act_by, state_by}
use Rattle.net_queue.specs.Leaves.{LeafDone, LeafView, ins_at, outs_at}
use Rattle.net_xbar.specs.Crossings.{act_down, act_up, after_down, after_up, crossing, each_number, is_taken, put_of, state_through}
use Rattle.net_cycle.specs.Flows.{flow_down, flow_up, first_put, any_take}
use Rattle.net_cycle.specs.Parts.{plain, seen_by, IsMachineAt}
use Rattle.net_bar_cycle.proofs.Passing.{room_at}
use Rattle.net_bar_cycle.proofs.Side.{chosen, chosen_is, first, served}
use Rattle.net_bar_cycle.proofs.Crossed.{BarAt}
use Rattle.net_bar_cycle.proofs.Channels.{HasEdges, all_downs, all_ups, downs, head_seen, moves_are, put_a, put_d, room_seen, sees, state_is, take_a, take_d, ups}
use Rattle.net_bar_cycle.proofs.Steps.{OfBar, goes_down, goes_up, after_moves, in_is, out_is, through_all, through_both}

-- ---- lists

-- one list for another, by place
by_place_from : {A B : Type 0} (f : A → B) (g : ℕ → B) (xs : List A) (low : ℕ) → ((k : ℕ) (x : A) → slice_get xs k ≡ Some x → f x ≡ g (low + k)) → map f xs ≡ map g (range_with_len low (length xs))
by_place_from f g [] low h = refl
by_place_from f g (x ∷ xs) low h =
    let e : low + 0 ≡ low = omega arith in
    let one : f x ≡ g low = h 0 x refl ∙ ap g e in
    ap (λ y. y ∷ map f xs) one ∙ ap (λ ys. g low ∷ ys) (by_place_from f g xs (low + 1) (λ k y q. let e : low + suc k ≡ (low + 1) + k = omega arith in h (suc k) y q ∙ ap g e))

by_place : {A B : Type 0} (f : A → B) (g : ℕ → B) (xs : List A) (n : ℕ) → n ≡ length xs → ((k : ℕ) (x : A) → slice_get xs k ≡ Some x → f x ≡ g k) → map f xs ≡ map g (range_with_len 0 n)
by_place f g xs n e h = by_place_from f g xs 0 (λ k x q. let z : k ≡ 0 + k = omega arith in h k x q ∙ ap g z) ∙ ap (λ n. map g (range_with_len 0 n)) (sym e)

module _ (s : State) (l : ℕ) (bar : Crossbar) (tag : Tag) (gates : Gates) (leaf : Leaf) (b : BarAt s l bar tag gates leaf) (edges : HasEdges s leaf) where
  abbrev its : LeafState
  its = XbarState bar gates

  abbrev x : LeafView
  x = sees s leaf

  abbrev by_output : ℕ → Option ℕ
  by_output = first (downs s l bar tag gates leaf b edges)

  abbrev by_input : ℕ → Option ℕ
  by_input = first (ups s l bar tag gates leaf b edges)

  abbrev moves_to : ℕ → List Move
  moves_to = chosen (downs s l bar tag gates leaf b edges)

  abbrev moves_back : ℕ → List Move
  moves_back = chosen (ups s l bar tag gates leaf b edges)

  -- ---- the states after them

  one_down : (now : LeafState) (output : ℕ) → through_all s l (moves_to output) now ≡ state_through now (act_down now x output) (by_output output)
  one_down now output = ap (λ ms. through_all s l ms now) (chosen_is (downs s l bar tag gates leaf b edges) output) ∙ at (by_output output) refl
    where
      at : (o : Option ℕ) → by_output output ≡ o → through_all s l (option_to_list (option_map (λ input. ForwardA l input output 0) o)) now ≡ state_through now (act_down now x output) o
      at None e = refl
      at (Some input) e =
          let g = served (downs s l bar tag gates leaf b edges) output input e in
          ap (λ edge. state_by now (act_by (down_alone now 0 input output) (down now 0 input output) (plain (seen s.a edge)) true)) (in_is s l bar tag gates leaf b input)
          ∙ ap (λ head. state_by now (act_by (down_alone now 0 input output) (down now 0 input output) head true)) (sym (head_seen s.a leaf.ins input))
          ∙ ap (λ room. state_by now (act_by (down_alone now 0 input output) (down now 0 input output) (get_or x.heads_a input None) room)) (sym (room_seen s.a leaf.outs output ∙ ap (room_at s.a) g.is.to_is ∙ g.room))

  one_up : (now : LeafState) (input : ℕ) → through_all s l (moves_back input) now ≡ state_through now (act_up now x input) (by_input input)
  one_up now input = ap (λ ms. through_all s l ms now) (chosen_is (ups s l bar tag gates leaf b edges) input) ∙ at (by_input input) refl
    where
      at : (o : Option ℕ) → by_input input ≡ o → through_all s l (option_to_list (option_map (λ output. ForwardD l input output) o)) now ≡ state_through now (act_up now x input) o
      at None e = refl
      at (Some output) e =
          let g = served (ups s l bar tag gates leaf b edges) input output e in
          ap (λ edge. state_by now (act_by (up_alone now input output) (up now input output) (plain (seen s.d edge)) true)) (out_is s l bar tag gates leaf b output)
          ∙ ap (λ head. state_by now (act_by (up_alone now input output) (up now input output) head true)) (sym (head_seen s.d leaf.outs output))
          ∙ ap (λ room. state_by now (act_by (up_alone now input output) (up now input output) (get_or x.heads_d output None) room)) (sym (room_seen s.d leaf.ins input ∙ ap (room_at s.d) g.is.to_is ∙ g.room))

  downs_after : (low count : ℕ) (now : LeafState) → through_all s l (flat_map moves_to (range_with_len low count)) now ≡ after_down s.plan.policy its x now (range_with_len low count)
  downs_after low zero now = refl
  downs_after low (suc count) now =
      through_both s l (moves_to low) (flat_map moves_to (range_with_len (low + 1) count)) now
      ∙ ap (through_all s l (flat_map moves_to (range_with_len (low + 1) count))) (one_down now low)
      ∙ downs_after (low + 1) count (state_through now (act_down now x low) (by_output low))

  ups_after : (low count : ℕ) (now : LeafState) → through_all s l (flat_map moves_back (range_with_len low count)) now ≡ after_up s.plan.policy its x now (range_with_len low count)
  ups_after low zero now = refl
  ups_after low (suc count) now =
      through_both s l (moves_back low) (flat_map moves_back (range_with_len (low + 1) count)) now
      ∙ ap (through_all s l (flat_map moves_back (range_with_len (low + 1) count))) (one_up now low)
      ∙ ups_after (low + 1) count (state_through now (act_up now x low) (by_input low))

  outs_long : length x.room_a ≡ length leaf.outs
  outs_long = length-map leaf.outs _

  ins_long : length x.room_d ≡ length leaf.ins
  ins_long = length-map leaf.ins _

  after_is : through_all s l (all_downs s l bar tag gates leaf b edges ++ all_ups s l bar tag gates leaf b edges) its ≡ (crossing s.plan.policy its).after its x
  after_is =
      through_both s l (all_downs s l bar tag gates leaf b edges) (all_ups s l bar tag gates leaf b edges) its
      ∙ ap (through_all s l (all_ups s l bar tag gates leaf b edges)) (downs_after 0 (length leaf.outs) its)
      ∙ ups_after 0 (length leaf.ins) (after_down s.plan.policy its x its (range_with_len 0 (length leaf.outs)))
      ∙ ap (λ n. after_up s.plan.policy its x (after_down s.plan.policy its x its (range_with_len 0 n)) (range_with_len 0 (length leaf.ins))) (sym outs_long)
      ∙ ap (λ n. after_up s.plan.policy its x (after_down s.plan.policy its x its (each_number x.room_a)) (range_with_len 0 n)) (sym ins_long)

  each_down : Each (OfBar l) (all_downs s l bar tag gates leaf b edges)
  each_down = each_flat (OfBar l) moves_to (λ output. each_map (IsSome s (λ input. ForwardA l input output 0)) (OfBar l) (λ m h. subst (OfBar l) (sym h.1.0) goes_down) (moves_to output) (each_first s (λ input. ForwardA l input output 0) _)) 0 (length leaf.outs)

  each_up : Each (OfBar l) (all_ups s l bar tag gates leaf b edges)
  each_up = each_flat (OfBar l) moves_back (λ input. each_map (IsSome s (λ output. ForwardD l input output)) (OfBar l) (λ m h. subst (OfBar l) (sym h.1.0) goes_up) (moves_back input) (each_first s (λ output. ForwardD l input output) _)) 0 (length leaf.ins)

  ends_so : AllApart s (leaf_moves s l) → slice_get (state_after_moves s (leaf_moves s l)).leaves l ≡ Some (record { leaf = (crossing s.plan.policy its).after its x; tag = tag })
  ends_so a =
      let are = moves_are s l bar tag gates leaf b edges in
      ap (λ ms. slice_get (state_after_moves s ms).leaves l) are
      ∙ after_moves s l bar tag gates leaf (all_downs s l bar tag gates leaf b edges ++ all_ups s l bar tag gates leaf b edges) b
      (each-append (OfBar l) (all_downs s l bar tag gates leaf b edges) (all_ups s l bar tag gates leaf b edges) each_down each_up) (subst (AllApart s) are a)
      ∙ ap (λ next. Some (record { leaf = next; tag = tag })) after_is

  -- ---- what they do

  abbrev done_on : List ℕ → List ℕ → LeafDone
  done_on ins outs = record {
    take_a = map (λ edge. any_take edge (map (flow_down s) (leaf_moves s l))) ins;
    put_d = map (λ edge. plain (first_put edge (map (flow_up s) (leaf_moves s l)))) ins;
    take_d = map (λ edge. any_take edge (map (flow_up s) (leaf_moves s l))) outs;
    put_a = map (λ edge. plain (first_put edge (map (flow_down s) (leaf_moves s l)))) outs;
  }

  abbrev seen_on : List ℕ → List ℕ → LeafView
  seen_on ins outs = record {
    heads_a = map (λ edge. plain (head_in (queue s.a edge))) ins;
    room_d = map (λ edge. has_place (queue s.d edge)) ins;
    heads_d = map (λ edge. plain (head_in (queue s.d edge))) outs;
    room_a = map (λ edge. has_place (queue s.a edge)) outs;
  }

  ins_list : ins_at s.plan l ≡ leaf.ins
  ins_list = ap (λ o. option_map_or (λ (at : Leaf). at.ins) o []) b.leaf_is

  outs_list : outs_at s.plan l ≡ leaf.outs
  outs_list = ap (λ o. option_map_or (λ (at : Leaf). at.outs) o []) b.leaf_is

  abbrev acted : List Bool → List (Option DBeat) → List Bool → List (Option ABeat) → LeafDone
  acted t p u q = record { take_a = t; put_d = p; take_d = u; put_a = q }

  four : (t t' u u' : List Bool) (p p' : List (Option DBeat)) (q q' : List (Option ABeat)) → t ≡ t' → p ≡ p' → u ≡ u' → q ≡ q' → acted t p u q ≡ acted t' p' u' q'
  four t t' u u' p p' q q' a b c d = rw (a, b, c, d) refl

  does_so : done_on leaf.ins leaf.outs ≡ (crossing s.plan.policy its).does its x
  does_so = four _ _ _ _ _ _ _ _
      (by_place _ (is_taken by_output (length x.room_a)) leaf.ins (length x.heads_a) (length-map leaf.ins _) (λ input edge h. take_a s l bar tag gates leaf b edges input edge h ∙ ap (λ n. is_taken by_output n input) (sym outs_long)))
      (by_place _ (λ input. put_of (act_up its x input) (by_input input)) leaf.ins (length x.room_d) ins_long (λ input edge h. put_d s l bar tag gates leaf b edges input edge h))
      (by_place _ (is_taken by_input (length x.room_d)) leaf.outs (length x.heads_d) (length-map leaf.outs _) (λ output edge h. take_d s l bar tag gates leaf b edges output edge h ∙ ap (λ n. is_taken by_input n output) (sym ins_long)))
      (by_place _ (λ output. put_of (act_down its x output) (by_output output)) leaf.outs (length x.room_a) outs_long (λ output edge h. put_a s l bar tag gates leaf b edges output edge h))

  -- whatever state the machine begins in
  pub is_bar : (idle : LeafState) → AllApart s (leaf_moves s l) → IsMachineAt s l (crossing s.plan.policy idle)
  is_bar idle a =
      let saw : seen_by s l ≡ x = ap (λ xs. seen_on xs (outs_at s.plan l)) ins_list ∙ ap (seen_on leaf.ins) outs_list in
      let now : leaf_state s l ≡ its = state_is s l bar tag gates leaf b edges in
      record {
        does =
            ap (λ xs. done_on xs (outs_at s.plan l)) ins_list ∙ ap (done_on leaf.ins) outs_list ∙ does_so
            ∙ sym (ap (λ state. (crossing s.plan.policy idle).does state (seen_by s l)) now ∙ ap ((crossing s.plan.policy idle).does its) saw);
        after =
            ap (λ o. option_map_or (λ (held : Held). held.leaf) o BufferState) (ends_so a)
            ∙ sym (ap (λ state. (crossing s.plan.policy idle).after state (seen_by s l)) now ∙ ap ((crossing s.plan.policy idle).after its) saw);
      }
