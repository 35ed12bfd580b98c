-- An adapter of the network is its machine.
use Rattle.std.proofs.Common.{◌≡◌, ◌<◌, ℕ, Bool, true, false, ◌==◌, List, [], ◌∷◌, ◌++◌, length, map, Option, Some, None, cond, refl, sym, ap, ◌∙◌, subst, is_some, slice_get, IsTrue}
use Rattle.std.specs.Option.{option_and_then, option_map, option_map_or, option_to_list}
use Rattle.tl_params.specs.declared.ops.Policy.{Policy}
use Rattle.tl_params.specs.declared.ops.Policy.TheVariants.{Lowest, Round}
use Rattle.tl_edge.specs.declared.beat.ABeat.{ABeat}
use Rattle.tl_edge.specs.declared.beat.DBeat.{DBeat}
use Rattle.tl_edge.specs.declared.beat.Tag.{Tag}
use Rattle.tl_edge.specs.declared.plan.Leaf.{Leaf}
use Rattle.flow_core.specs.declared.moves.Move.{Move}
use Rattle.flow_core.specs.declared.moves.Move.TheVariants.{AbsorbA, AbsorbD, ForwardA, ForwardD}
use Rattle.flow_core.specs.Acts.{Act, forwards, lifted}
use Rattle.flow_core.specs.Leaves.{LeafState, down, down_alone, up, up_alone}
use Rattle.flow_core.specs.Leaves.LeafState.{BufferState, XbarState, ShrinkerState, WidthState, FragmenterState}
use Rattle.flow_core.specs.Network.{State, Job, Part, job, is_enabled, done, part_a, part_d, state_after, leaf_job_a, leaf_job_d, forwarding, absorbing}
use Rattle.flow_core.specs.Queues.{queue, head_in, has_place, still}
use Rattle.flow_core.specs.Shrinking.{Asking, Slots, is_free, shrink_down_in}
use Rattle.flow_core.specs.Tags.{Held, held_down, held_down_alone, held_up, held_up_alone, tagged_down}
use Rattle.flow_core.specs.Turns.{leaf_state, output_turn, input_turn, next_id}
use Rattle.flow_core.proofs.Untagged.{tags_law}
use Rattle.flow_choice.specs.declared.cycle.Among.TheVariants.{Down, Up}
use Rattle.flow_choice.specs.Choosing.{if_enabled, of_each, choice_of, first_enabled, chosen_down, chosen_up, input_count, output_count, leaf_moves, leaf_moves_d, state_after_moves}
use Rattle.flow_choice.specs.Turns.{in_turn}
use Rattle.flow_choice.proofs.Deeds.{deed_down, deed_up, looking}
use Rattle.flow_choice.proofs.Jobs.{between_is, part_of, picks}
use Rattle.flow_choice.proofs.Listing.{Each, each-append}
use Rattle.flow_choice.proofs.Meeting.{after_is, apart_commute}
use Rattle.flow_choice.proofs.Ordering.{AllApart}
use Rattle.net_queue.specs.Adapters.{act_a, act_d, adapter, put_by, state_by, taken_by}
use Rattle.net_queue.specs.Leaves.{LeafDone, LeafView, ins_at, outs_at}
use Rattle.net_queue.specs.Machines.{Machine}
use Rattle.net_cycle.specs.Flows.{flow_down, flow_up, first_put, any_take}
use Rattle.net_cycle.specs.Parts.{plain, seen_by, IsMachineAt}
use Rattle.net_cycle.proofs.AtPorts.{and_true}
use Rattle.net_cycle.proofs.Channel.{Channel, Made, Outcome, nothing, one, its_act, made, moves, outcome, put_is, stepped, taken_is}
use Rattle.net_cycle.proofs.OwnMoves.{put_first, put_second, take_first, take_second}

-- ---- lists

one_turn : (policy : Policy) → in_turn policy 0 1 ≡ 0 ∷ []
one_turn Lowest = refl
one_turn Round = refl

of_found : (m : ℕ → Move) (t : Bool) → option_to_list (option_map m (cond t (Some 0) None)) ≡ cond t (m 0 ∷ []) []
of_found m true = refl
of_found m false = refl

end_nil : (xs : List Move) → xs ++ [] ≡ xs
end_nil [] = refl
end_nil (x ∷ xs) = ap (λ ys. x ∷ ys) (end_nil xs)

each_if : (P : Move → Type 0) (t : Bool) (m : Move) → P m → Each P (cond t (m ∷ []) [])
each_if P true m h = (h, tt)
each_if P false m h = tt

-- ---- what is absorbed is so whichever id is asked for: a shrinker absorbs nothing, and others have no id but 0

module _ (from to : ℕ) where
  abbrev absorbed : LeafState → Tag → ℕ → Option (ABeat × Tag) → Option (Part (ABeat × Tag))
  absorbed leaf tag id head = option_and_then (picks false) (option_map (part_of from to) (deed_down (record { leaf = leaf; tag = tag }) id 0 0 head))

  shrinker_absorbs : (width : ℕ) (slots : Slots) (tag : Tag) (id : ℕ) (head : Option (ABeat × Tag)) → absorbed (ShrinkerState width slots) tag id head ≡ None
  shrinker_absorbs width slots tag id None = refl
  shrinker_absorbs width slots tag id (Some head) = by_asking slots.asking
    where
      passing : (t : Bool) (beat : ABeat) (next : Slots)
          → option_and_then (picks false) (option_map (part_of from to) (option_map looking (option_map (tagged_down head.1 tag) (option_map (lifted (ShrinkerState width)) (cond t (Some (forwards beat next)) None))))) ≡ None
      passing true beat next = refl
      passing false beat next = refl

      by_asking : (asking : Option Asking)
          → option_and_then (picks false) (option_map (part_of from to) (option_map looking (option_map (tagged_down head.1 tag) (option_map (lifted (ShrinkerState width)) (shrink_down_in asking width slots id head.0))))) ≡ None
      by_asking None = passing (is_free slots.olds id) _ _
      by_asking (Some asking) = passing (asking.id == id) _ _

  absorbs : (leaf : LeafState) (tag : Tag) (head : Option (ABeat × Tag)) → absorbed leaf tag 0 head ≡ absorbed leaf tag (next_id leaf) head
  absorbs BufferState tag head = refl
  absorbs (XbarState bar gates) tag head = refl
  absorbs (ShrinkerState width slots) tag head = shrinker_absorbs width slots tag 0 head ∙ sym (shrinker_absorbs width slots tag (next_id (ShrinkerState width slots)) head)
  absorbs (WidthState widths widget) tag head = refl
  absorbs (FragmenterState knife hand) tag head = refl

-- ---- a leaf between two edges

-- what it sees there
abbrev sees : ℕ → ℕ → State → LeafView
sees ei eo s = record {
  heads_a = plain (head_in (queue s.a ei)) ∷ [];
  room_d = has_place (queue s.d ei) ∷ [];
  heads_d = plain (head_in (queue s.d eo)) ∷ [];
  room_a = has_place (queue s.a eo) ∷ [];
}

module _ (l ei eo : ℕ) where
  abbrev move_a : ℕ → Bool → Move
  move_a id true = ForwardA l 0 0 id
  move_a id false = AbsorbA l

  abbrev move_d : Bool → Move
  move_d true = ForwardD l 0 0
  move_d false = AbsorbD l

  pub record Between (s : State) (held : Held) : Type 0 where
    pub at : slice_get s.leaves l ≡ Some held
    pub leaf : Leaf
    pub leaf_is : slice_get s.plan.leaves l ≡ Some leaf
    pub ins_is : leaf.ins ≡ ei ∷ []
    pub outs_is : leaf.outs ≡ eo ∷ []

  module _ (s : State) (held : Held) (b : Between s held) where
    part_a_is : (id : ℕ) → part_a s l 0 0 id ≡ option_map (part_of ei eo) (deed_down held id 0 0 (head_in (queue s.a ei)))
    part_a_is id = rw (b.at, b.leaf_is, b.ins_is, b.outs_is) (between_is s.a ei eo (held_down_alone held id 0 0) (held_down held id 0 0))

    part_d_is : part_d s l 0 0 ≡ option_map (part_of eo ei) (deed_up held 0 0 (head_in (queue s.d eo)))
    part_d_is = rw (b.at, b.leaf_is, b.ins_is, b.outs_is) (between_is s.d eo ei (held_up_alone held 0 0) (held_up held 0 0))

    abbrev id : ℕ
    id = next_id held.leaf

    job_a_is : (k : Bool) → job s (move_a id k) ≡ option_map (leaf_job_a l) (option_and_then (picks k) (option_map (part_of ei eo) (deed_down held id 0 0 (head_in (queue s.a ei)))))
    job_a_is true = ap (λ o. option_map (leaf_job_a l) (option_and_then forwarding o)) (part_a_is id)
    job_a_is false = ap (λ o. option_map (leaf_job_a l) (option_and_then absorbing o)) (part_a_is 0) ∙ ap (option_map (leaf_job_a l)) (absorbs ei eo held.leaf held.tag (head_in (queue s.a ei)))

    job_d_is : (k : Bool) → job s (move_d k) ≡ option_map (leaf_job_d l) (option_and_then (picks k) (option_map (part_of eo ei) (deed_up held 0 0 (head_in (queue s.d eo)))))
    job_d_is true = ap (λ o. option_map (leaf_job_d l) (option_and_then forwarding o)) part_d_is
    job_d_is false = ap (λ o. option_map (leaf_job_d l) (option_and_then absorbing o)) part_d_is

    abbrev downs : eo < length s.a → Channel ABeat s l
    downs there = record {
      queues = s.a;
      from = ei;
      to = eo;
      there = there;
      alone = held_down_alone held id 0 0;
      act = held_down held id 0 0;
      bare = down_alone held.leaf id 0 0;
      bare_by = down held.leaf id 0 0;
      alone_is = tags_law.a_alone held id 0 0;
      act_is = tags_law.a held id 0 0;
      job_of = leaf_job_a l;
      leaf_is = λ p. refl;
      may_is = λ p. and_true _;
      move = move_a id;
      job_is = job_a_is;
      flow = flow_down s;
      flow_is = λ k p e. ap (λ o. option_map_or (λ (does : Job). does.a) o still) e;
    }

    abbrev ups : ei < length s.d → Channel DBeat s l
    ups there = record {
      queues = s.d;
      from = eo;
      to = ei;
      there = there;
      alone = held_up_alone held 0 0;
      act = held_up held 0 0;
      bare = up_alone held.leaf 0 0;
      bare_by = up held.leaf 0 0;
      alone_is = tags_law.d_alone held 0 0;
      act_is = tags_law.d held 0 0;
      job_of = leaf_job_d l;
      leaf_is = λ p. refl;
      may_is = λ p. refl;
      move = move_d;
      job_is = job_d_is;
      flow = flow_up s;
      flow_is = λ k p e. ap (λ o. option_map_or (λ (does : Job). does.d) o still) e;
    }

    -- ---- each channel's moves do nothing on the other one

    idle_up : (k : Bool) → flow_up s (move_a id k) ≡ still
    idle_up k = ap (λ o. option_map_or (λ (does : Job). does.d) o still) (job_a_is k) ∙ at (option_and_then (picks k) (option_map (part_of ei eo) (deed_down held id 0 0 (head_in (queue s.a ei)))))
      where
        at : (o : Option (Part (ABeat × Tag))) → option_map_or (λ (does : Job). does.d) (option_map (leaf_job_a l) o) still ≡ still
        at None = refl
        at (Some p) = refl

    idle_down : (k : Bool) → flow_down s (move_d k) ≡ still
    idle_down k = ap (λ o. option_map_or (λ (does : Job). does.a) o still) (job_d_is k) ∙ at (option_and_then (picks k) (option_map (part_of eo ei) (deed_up held 0 0 (head_in (queue s.d eo)))))
      where
        at : (o : Option (Part (DBeat × Tag))) → option_map_or (λ (does : Job). does.a) (option_map (leaf_job_d l) o) still ≡ still
        at None = refl
        at (Some p) = refl

    -- ---- all its moves

    state_is : leaf_state s l ≡ held.leaf
    state_is = ap (λ o. option_map_or (λ (held : Held). held.leaf) o BufferState) b.at

    in_count : input_count s.plan l ≡ 1
    in_count = ap (λ o. option_map_or (λ (at : Leaf). length at.ins) o 0) b.leaf_is ∙ ap length b.ins_is

    out_count : output_count s.plan l ≡ 1
    out_count = ap (λ o. option_map_or (λ (at : Leaf). length at.outs) o 0) b.leaf_is ∙ ap length b.outs_is

    module _ (turn_down : output_turn held.leaf 0 ≡ 0) (turn_up : input_turn held.leaf 0 ≡ 0) (out_there : eo < length s.a) (in_there : ei < length s.d) where
      abbrev its_downs : List Move
      its_downs = moves (downs out_there)

      abbrev its_ups : List Move
      its_ups = moves (ups in_there)

      down_is_chosen : chosen_down s l 0 ≡ if_enabled s (ForwardA l 0 0 id)
      down_is_chosen =
          ap (λ its. first_enabled s (choice_of (Down l 0 (next_id its))) (in_turn s.plan.policy (output_turn its 0) (input_count s.plan l))) state_is
          ∙ ap (λ n. first_enabled s (choice_of (Down l 0 id)) (in_turn s.plan.policy n (input_count s.plan l))) turn_down
          ∙ ap (λ n. first_enabled s (choice_of (Down l 0 id)) (in_turn s.plan.policy 0 n)) in_count
          ∙ ap (first_enabled s (choice_of (Down l 0 id))) (one_turn s.plan.policy)
          ∙ of_found (choice_of (Down l 0 id)) (is_enabled s (ForwardA l 0 0 id))

      up_is_chosen : chosen_up s l 0 ≡ if_enabled s (ForwardD l 0 0)
      up_is_chosen =
          ap (λ its. first_enabled s (choice_of (Up l 0)) (in_turn s.plan.policy (input_turn its 0) (output_count s.plan l))) state_is
          ∙ ap (λ n. first_enabled s (choice_of (Up l 0)) (in_turn s.plan.policy n (output_count s.plan l))) turn_up
          ∙ ap (λ n. first_enabled s (choice_of (Up l 0)) (in_turn s.plan.policy 0 n)) out_count
          ∙ ap (first_enabled s (choice_of (Up l 0))) (one_turn s.plan.policy)
          ∙ of_found (choice_of (Up l 0)) (is_enabled s (ForwardD l 0 0))

      moves_are : leaf_moves s l ≡ its_downs ++ its_ups
      moves_are =
          ap (λ ms. ms ++ leaf_moves_d s l)
          (ap (λ n. if_enabled s (AbsorbA l) ++ of_each n (chosen_down s l)) out_count ∙ ap (λ ms. if_enabled s (AbsorbA l) ++ ms) (end_nil (chosen_down s l 0) ∙ down_is_chosen))
          ∙ ap (λ ms. its_downs ++ ms)
          (ap (λ n. if_enabled s (AbsorbD l) ++ of_each n (chosen_up s l)) in_count ∙ ap (λ ms. if_enabled s (AbsorbD l) ++ ms) (end_nil (chosen_up s l 0) ∙ up_is_chosen))

      downs_idle : Each (λ m. flow_up s m ≡ still) its_downs
      downs_idle =
          each-append (λ m. flow_up s m ≡ still) (if_enabled s (AbsorbA l)) (if_enabled s (ForwardA l 0 0 id))
          (each_if (λ m. flow_up s m ≡ still) (is_enabled s (AbsorbA l)) (AbsorbA l) (idle_up false)) (each_if (λ m. flow_up s m ≡ still) (is_enabled s (ForwardA l 0 0 id)) (ForwardA l 0 0 id) (idle_up true))

      ups_idle : Each (λ m. flow_down s m ≡ still) its_ups
      ups_idle =
          each-append (λ m. flow_down s m ≡ still) (if_enabled s (AbsorbD l)) (if_enabled s (ForwardD l 0 0))
          (each_if (λ m. flow_down s m ≡ still) (is_enabled s (AbsorbD l)) (AbsorbD l) (idle_down false)) (each_if (λ m. flow_down s m ≡ still) (is_enabled s (ForwardD l 0 0)) (ForwardD l 0 0) (idle_down true))

      -- ---- what they do at its edges

      take_a : any_take ei (map (flow_down s) (leaf_moves s l)) ≡ taken_by (act_a held.leaf id (sees ei eo s))
      take_a = ap (λ ms. any_take ei (map (flow_down s) ms)) moves_are ∙ take_first (flow_down s) ei its_downs its_ups ups_idle ∙ taken_is (downs out_there) (outcome (downs out_there))

      put_a : plain (first_put eo (map (flow_down s) (leaf_moves s l))) ≡ put_by (act_a held.leaf id (sees ei eo s))
      put_a = ap (λ ms. plain (first_put eo (map (flow_down s) ms))) moves_are ∙ ap plain (put_first (flow_down s) eo its_downs its_ups ups_idle) ∙ put_is (downs out_there) (outcome (downs out_there))

      take_d : any_take eo (map (flow_up s) (leaf_moves s l)) ≡ taken_by (act_d held.leaf (sees ei eo s))
      take_d = ap (λ ms. any_take eo (map (flow_up s) ms)) moves_are ∙ take_second (flow_up s) eo its_downs its_ups downs_idle ∙ taken_is (ups in_there) (outcome (ups in_there))

      put_d : plain (first_put ei (map (flow_up s) (leaf_moves s l))) ≡ put_by (act_d held.leaf (sees ei eo s))
      put_d = ap (λ ms. plain (first_put ei (map (flow_up s) ms))) moves_are ∙ ap plain (put_second (flow_up s) ei its_downs its_ups downs_idle) ∙ put_is (ups in_there) (outcome (ups in_there))

-- ---- its state afterwards

-- the machine's next state, by its act on channel A and what it does on channel D before and after that
abbrev ended : LeafState → Option (Act ABeat LeafState) → Option (Act DBeat LeafState) → (LeafState → Option (Act DBeat LeafState)) → LeafState
ended leaf down up later = cond (is_some up) (state_by (state_by leaf down) (later (state_by leaf down))) (state_by leaf down)

held_leaf : (s : State) (l : ℕ) (held : Held) → slice_get s.leaves l ≡ Some held → leaf_state s l ≡ held.leaf
held_leaf s l held e = ap (λ o. option_map_or (λ (held : Held). held.leaf) o BufferState) e

module _ (l ei eo : ℕ) (s : State) (held : Held) (b : Between l ei eo s held) (out_there : eo < length s.a) (in_there : ei < length s.d) where
  abbrev down_side : Channel ABeat s l
  down_side = downs l ei eo s held b out_there

  abbrev up_side : Channel DBeat s l
  up_side = ups l ei eo s held b in_there

  -- what the machine does on channel D in another of its states
  abbrev later : LeafState → Option (Act DBeat LeafState)
  later next = act_d next (sees ei eo s)

  -- after its moves one after the other, the second in the state after the first
  after_both : (k j : Bool) → (m : Made down_side k) → Made up_side j → AllApart s (down_side.move k ∷ up_side.move j ∷ [])
      → leaf_state (state_after (state_after s (down_side.move k)) (up_side.move j)) l ≡ state_by m.act.next (later m.act.next)
  after_both k j m n apart =
      let t : State = done s (leaf_job_a l m.part) in
      let is_t : state_after s (down_side.move k) ≡ t = after_is s (down_side.move k) (leaf_job_a l m.part) m.job_is in
      let here : slice_get t.leaves l ≡ Some m.part.next = ap (λ (t : State). slice_get t.leaves l) (sym is_t) ∙ stepped down_side held k b.at m in
      let bt : Between l ei eo t m.part.next = record { at = here; leaf = b.leaf; leaf_is = b.leaf_is; ins_is = b.ins_is; outs_is = b.outs_is } in
      let goes : is_enabled t (up_side.move j) ≡ true = subst (λ (t : State). IsTrue (is_enabled t (up_side.move j))) is_t (apart_commute s (down_side.move k) (up_side.move j) apart.1.0).second in
      let r = made (ups l ei eo t m.part.next bt in_there) j goes in
      ap (λ (t : State). leaf_state (state_after t (up_side.move j)) l) is_t
      ∙ held_leaf (state_after t (up_side.move j)) l r.part.next (stepped (ups l ei eo t m.part.next bt in_there) m.part.next j here r)
      ∙ r.nexts ∙ ap (state_by m.act.next) (sym r.act_is) ∙ ap (λ next. state_by m.act.next (later next)) m.nexts

  after_moves : Outcome down_side → Outcome up_side → AllApart s (moves down_side ++ moves up_side)
      → leaf_state (state_after_moves s (moves down_side ++ moves up_side)) l ≡ ended held.leaf (its_act down_side) (its_act up_side) later
  after_moves (nothing n a) (nothing m e) apart = ap (λ ms. leaf_state (state_after_moves s (ms ++ moves up_side)) l) n ∙ ap (λ ms. leaf_state (state_after_moves s ms) l) m ∙ held_leaf s l held b.at ∙ sym (ap (λ o. ended held.leaf o (its_act up_side) later) a ∙ ap (λ o. ended held.leaf None o later) e)
  after_moves (nothing n a) (one j m u) apart =
      ap (λ ms. leaf_state (state_after_moves s (ms ++ moves up_side)) l) n ∙ ap (λ ms. leaf_state (state_after_moves s ms) l) m
      ∙ held_leaf (state_after s (up_side.move j)) l u.part.next (stepped up_side held j b.at u) ∙ u.nexts
      ∙ sym (ap (λ o. ended held.leaf o (its_act up_side) later) a ∙ ap (λ o. ended held.leaf None o later) u.act_is ∙ ap (state_by held.leaf) u.act_is)
  after_moves (one k n d) (nothing m e) apart =
      ap (λ ms. leaf_state (state_after_moves s (ms ++ moves up_side)) l) n ∙ ap (λ ms. leaf_state (state_after_moves s (down_side.move k ∷ ms)) l) m
      ∙ held_leaf (state_after s (down_side.move k)) l d.part.next (stepped down_side held k b.at d) ∙ d.nexts
      ∙ sym (ap (λ o. ended held.leaf o (its_act up_side) later) d.act_is ∙ ap (λ o. ended held.leaf (Some d.act) o later) e)
  after_moves (one k n d) (one j m u) apart =
      let two : moves down_side ++ moves up_side ≡ down_side.move k ∷ up_side.move j ∷ [] = ap (λ ms. ms ++ moves up_side) n ∙ ap (λ ms. down_side.move k ∷ ms) m in
      ap (λ ms. leaf_state (state_after_moves s ms) l) two
      ∙ after_both k j d u (subst (AllApart s) two apart)
      ∙ sym (ap (λ o. ended held.leaf o (its_act up_side) later) d.act_is ∙ ap (λ o. ended held.leaf (Some d.act) o later) u.act_is)

-- ---- the machine

module _ (l ei eo : ℕ) (idle : LeafState) (give : LeafState → ℕ) where
  abbrev machine : Machine LeafState LeafView LeafDone
  machine = adapter idle give

  abbrev done_on : State → List ℕ → List ℕ → LeafDone
  done_on s ins outs = record {
    take_a = map (λ edge. any_take edge (map (flow_down s) (leaf_moves s l))) ins;
    put_d = map (λ edge. plain (first_put edge (map (flow_up s) (leaf_moves s l)))) ins;
    take_d = map (λ edge. any_take edge (map (flow_up s) (leaf_moves s l))) outs;
    put_a = map (λ edge. plain (first_put edge (map (flow_down s) (leaf_moves s l)))) outs;
  }

  abbrev seen_on : State → List ℕ → List ℕ → LeafView
  seen_on s ins outs = record {
    heads_a = map (λ edge. plain (head_in (queue s.a edge))) ins;
    room_d = map (λ edge. has_place (queue s.d edge)) ins;
    heads_d = map (λ edge. plain (head_in (queue s.d edge))) outs;
    room_a = map (λ edge. has_place (queue s.a edge)) outs;
  }

  -- what is done at one in edge and one out edge
  abbrev acted_on : Bool → Option DBeat → Bool → Option ABeat → LeafDone
  acted_on t p u q = record { take_a = t ∷ []; put_d = p ∷ []; take_d = u ∷ []; put_a = q ∷ [] }

  four : (t t' u u' : Bool) (p p' : Option DBeat) (q q' : Option ABeat) → t ≡ t' → p ≡ p' → u ≡ u' → q ≡ q' → acted_on t p u q ≡ acted_on t' p' u' q'
  four t t' u u' p p' q q' a b c d = rw (a, b, c, d) refl

  pub is_adapter : (s : State) (held : Held) → Between l ei eo s held → output_turn held.leaf 0 ≡ 0 → input_turn held.leaf 0 ≡ 0 → eo < length s.a → ei < length s.d
      → give (leaf_state s l) ≡ next_id (leaf_state s l) → AllApart s (leaf_moves s l) → IsMachineAt s l machine
  is_adapter s held b turn_down turn_up out_there in_there gives apart =
      let ins : ins_at s.plan l ≡ ei ∷ [] = ap (λ o. option_map_or (λ (at : Leaf). at.ins) o []) b.leaf_is ∙ b.ins_is in
      let outs : outs_at s.plan l ≡ eo ∷ [] = ap (λ o. option_map_or (λ (at : Leaf). at.outs) o []) b.leaf_is ∙ b.outs_is in
      let now : leaf_state s l ≡ held.leaf = held_leaf s l held b.at in
      let its_id : give held.leaf ≡ next_id held.leaf = ap give (sym now) ∙ gives ∙ ap next_id now in
      let saw : seen_by s l ≡ sees ei eo s = ap (λ xs. seen_on s xs (outs_at s.plan l)) ins ∙ ap (seen_on s (ei ∷ [])) outs in
      let are = moves_are l ei eo s held b turn_down turn_up out_there in_there in
      let down_side = downs l ei eo s held b out_there in
      let up_side = ups l ei eo s held b in_there in
      let x : LeafView = sees ei eo s in
      record {
        does =
            ap (λ xs. done_on s xs (outs_at s.plan l)) ins ∙ ap (done_on s (ei ∷ [])) outs
            ∙ four _ _ _ _ _ _ _ _ (take_a l ei eo s held b turn_down turn_up out_there in_there) (put_d l ei eo s held b turn_down turn_up out_there in_there)
            (take_d l ei eo s held b turn_down turn_up out_there in_there) (put_a l ei eo s held b turn_down turn_up out_there in_there)
            ∙ sym (ap (λ its. machine.does its (seen_by s l)) now ∙ ap (machine.does held.leaf) saw
            ∙ ap (λ id. acted_on (taken_by (act_a held.leaf id x)) (put_by (act_d held.leaf x)) (taken_by (act_d held.leaf x)) (put_by (act_a held.leaf id x))) its_id);
        after =
            ap (λ ms. leaf_state (state_after_moves s ms) l) are
            ∙ after_moves l ei eo s held b out_there in_there (outcome down_side) (outcome up_side) (subst (AllApart s) are apart)
            ∙ sym (ap (λ its. machine.after its (seen_by s l)) now ∙ ap (machine.after held.leaf) saw
            ∙ ap (λ id. ended held.leaf (act_a held.leaf id x) (act_d held.leaf x) (λ next. act_d next x)) its_id);
      }
