-- What a crossbar makes of a beat on each channel, with its tag and without; and so the network's part of each move.
use Rattle.std.proofs.Common.{◌≡◌, ℕ, ◌+◌, ◌-◌, Bool, true, false, length, Option, Some, None, cond, refl, ap, ◌∙◌, slice_get}
use Rattle.std.specs.Option.{option_and_then, option_map, option_map_or}
use Rattle.dip_sets.specs.declared.ids.IdRange.{IdRange}
use Rattle.dip_sets.specs.Ids.{has_id}
use Rattle.tl_edge.specs.declared.beat.ABeat.{ABeat}
use Rattle.tl_edge.specs.declared.beat.DBeat.{DBeat}
use Rattle.tl_edge.specs.declared.beat.Tag.{Tag}
use Rattle.tl_edge.specs.declared.plan.Leaf.{Leaf}
use Rattle.tl_edge.specs.Beats.{request_beats, response_beats}
use Rattle.flow_core.specs.declared.locks.Gate.{Gate}
use Rattle.flow_core.specs.declared.locks.Gates.{Gates}
use Rattle.flow_core.specs.declared.moves.Move.TheVariants.{AbsorbA, AbsorbD, ForwardA, ForwardD}
use Rattle.flow_core.specs.Acts.{forwards, lifted, with_a_id, with_d_id}
use Rattle.flow_core.specs.Crossing.{Crossbar, goes_to, passed_at, with_in, with_out}
use Rattle.flow_core.specs.Leaves.{down, up}
use Rattle.flow_core.specs.Leaves.LeafState.{XbarState}
use Rattle.flow_core.specs.Network.{State, Job, job, is_enabled, may_do, both, part_a, part_d, part_down, part_up, in_edge, out_edge, leaf_job_a, leaf_job_d, forwarding, absorbing}
use Rattle.flow_core.specs.Tags.{Held, held_down, held_up, tagged, tagged_down}
use Rattle.net_bar_cycle.proofs.Passing.{Pass, Way, way, act_of, bar_held, part_by, parts_are, tagged_act, all_forward, none_absorbs}

module _ (bar : Crossbar) (gates : Gates) (input output : ℕ) where
  -- ---- channel A: where the output owns the address and its gate lets the input pass

  abbrev range_down : ABeat → Option Gate → IdRange → Option (ABeat × Gates)
  range_down beat gate range = option_map (λ next. (with_a_id (beat.source + range.start) beat, with_out gates output next)) gate

  abbrev pub pass_down : Pass ABeat
  pass_down beat =
      cond (goes_to bar output beat.address)
      (option_and_then (range_down beat (passed_at gates.outs output input (length bar.ranges) (request_beats beat.op beat.size bar.width))) (slice_get bar.ranges input))
      None

  pub down_is : (beat : ABeat) → down (XbarState bar gates) 0 input output beat ≡ option_map (act_of bar) (pass_down beat)
  down_is beat = at (goes_to bar output beat.address) (slice_get bar.ranges input) (passed_at gates.outs output input (length bar.ranges) (request_beats beat.op beat.size bar.width))
    where
      at : (owned : Bool) (range : Option IdRange) (gate : Option Gate)
          → option_map (lifted (XbarState bar)) (cond owned (option_and_then (λ (range : IdRange). option_map (λ next. forwards (with_a_id (beat.source + range.start) beat) (with_out gates output next)) gate) range) None)
          ≡ option_map (act_of bar) (cond owned (option_and_then (range_down beat gate) range) None)
      at false range gate = refl
      at true None gate = refl
      at true (Some range) None = refl
      at true (Some range) (Some next) = refl

  pub held_down_is : (tag : Tag) (head : ABeat × Tag) → held_down (bar_held bar tag gates) 0 input output head ≡ option_map (tagged_act bar tag head.1) (pass_down head.0)
  held_down_is tag head = ap (option_map (tagged_down head.1 tag)) (down_is head.0) ∙ at (pass_down head.0)
    where
      at : (o : Option (ABeat × Gates)) → option_map (tagged_down head.1 tag) (option_map (act_of bar) o) ≡ option_map (tagged_act bar tag head.1) o
      at None = refl
      at (Some passed) = refl

  -- ---- channel D: where the input's range has the id and its gate lets the output pass

  abbrev range_up : DBeat → Option Gate → IdRange → Option (DBeat × Gates)
  range_up beat gate range = cond (has_id range beat.source) (option_map (λ next. (with_d_id (beat.source - range.start) beat, with_in gates input next)) gate) None

  abbrev pub pass_up : Pass DBeat
  pass_up beat = option_and_then (range_up beat (passed_at gates.ins input output (length bar.slaves) (response_beats beat.op beat.size bar.width))) (slice_get bar.ranges input)

  pub up_is : (beat : DBeat) → up (XbarState bar gates) input output beat ≡ option_map (act_of bar) (pass_up beat)
  up_is beat = ranged (slice_get bar.ranges input) (passed_at gates.ins input output (length bar.slaves) (response_beats beat.op beat.size bar.width))
    where
      at : (range : IdRange) (has : Bool) (gate : Option Gate)
          → option_map (lifted (XbarState bar)) (cond has (option_map (λ next. forwards (with_d_id (beat.source - range.start) beat) (with_in gates input next)) gate) None)
          ≡ option_map (act_of bar) (cond has (option_map (λ next. (with_d_id (beat.source - range.start) beat, with_in gates input next)) gate) None)
      at range false gate = refl
      at range true None = refl
      at range true (Some next) = refl

      ranged : (range : Option IdRange) (gate : Option Gate)
          → option_map (lifted (XbarState bar)) (option_and_then (λ (range : IdRange). cond (has_id range beat.source) (option_map (λ next. forwards (with_d_id (beat.source - range.start) beat) (with_in gates input next)) gate) None) range)
          ≡ option_map (act_of bar) (option_and_then (range_up beat gate) range)
      ranged None gate = refl
      ranged (Some range) gate = at range (has_id range beat.source) gate

  pub held_up_is : (tag : Tag) (head : DBeat × Tag) → held_up (bar_held bar tag gates) input output head ≡ option_map (tagged_act bar tag head.1) (pass_up head.0)
  held_up_is tag head = ap (option_map (tagged head.1 tag)) (up_is head.0) ∙ at (pass_up head.0)
    where
      at : (o : Option (DBeat × Gates)) → option_map (tagged head.1 tag) (option_map (act_of bar) o) ≡ option_map (tagged_act bar tag head.1) o
      at None = refl
      at (Some passed) = refl

-- ---- a crossbar of the network, between some edges

pub record BarAt (s : State) (l : ℕ) (bar : Crossbar) (tag : Tag) (gates : Gates) (leaf : Leaf) : Type 0 where
  pub here : slice_get s.leaves l ≡ Some (bar_held bar tag gates)
  pub leaf_is : slice_get s.plan.leaves l ≡ Some leaf

module _ (s : State) (l : ℕ) (bar : Crossbar) (tag : Tag) (gates : Gates) (leaf : Leaf) (b : BarAt s l bar tag gates leaf) where
  abbrev pub way_a : ℕ → ℕ → Option (Way ABeat)
  way_a input output = way s.a (pass_down bar gates input output) (slice_get leaf.ins input) (slice_get leaf.outs output)

  abbrev pub way_d : ℕ → ℕ → Option (Way DBeat)
  way_d input output = way s.d (pass_up bar gates input output) (slice_get leaf.outs output) (slice_get leaf.ins input)

  abbrev pub job_a : Way ABeat → Job
  job_a w = leaf_job_a l (part_by bar tag w)

  abbrev pub job_d : Way DBeat → Job
  job_d w = leaf_job_d l (part_by bar tag w)

  part_a_is : (input output : ℕ) → part_a s l input output 0 ≡ option_map (part_by bar tag) (way_a input output)
  part_a_is input output =
      ap (λ (o : Option Held). option_and_then (λ held. both (in_edge s.plan l input) (out_edge s.plan l output) (part_down s.a held input output 0)) o) b.here
      ∙ ap (λ (o : Option Leaf). both (option_and_then (λ (at : Leaf). slice_get at.ins input) o) (option_and_then (λ (at : Leaf). slice_get at.outs output) o) (part_down s.a (bar_held bar tag gates) input output 0)) b.leaf_is
      ∙ parts_are bar tag (held_down (bar_held bar tag gates) 0 input output) (pass_down bar gates input output) (held_down_is bar gates input output tag) s.a (slice_get leaf.ins input) (slice_get leaf.outs output)

  part_d_is : (input output : ℕ) → part_d s l input output ≡ option_map (part_by bar tag) (way_d input output)
  part_d_is input output =
      ap (λ (o : Option Held). option_and_then (λ held. both (out_edge s.plan l output) (in_edge s.plan l input) (part_up s.d held input output)) o) b.here
      ∙ ap (λ (o : Option Leaf). both (option_and_then (λ (at : Leaf). slice_get at.outs output) o) (option_and_then (λ (at : Leaf). slice_get at.ins input) o) (part_up s.d (bar_held bar tag gates) input output)) b.leaf_is
      ∙ parts_are bar tag (held_up (bar_held bar tag gates) input output) (pass_up bar gates input output) (held_up_is bar gates input output tag) s.d (slice_get leaf.outs output) (slice_get leaf.ins input)

  fused : {A C D : Type 0} (f : A → C) (g : C → D) (o : Option A) → option_map g (option_map f o) ≡ option_map (λ x. g (f x)) o
  fused f g None = refl
  fused f g (Some x) = refl

  pub job_a_is : (input output : ℕ) → job s (ForwardA l input output 0) ≡ option_map job_a (way_a input output)
  job_a_is input output =
      ap (λ o. option_map (leaf_job_a l) (option_and_then forwarding o)) (part_a_is input output)
      ∙ ap (option_map (leaf_job_a l)) (all_forward bar tag (way_a input output)) ∙ fused (part_by bar tag) (leaf_job_a l) (way_a input output)

  pub job_d_is : (input output : ℕ) → job s (ForwardD l input output) ≡ option_map job_d (way_d input output)
  job_d_is input output =
      ap (λ o. option_map (leaf_job_d l) (option_and_then forwarding o)) (part_d_is input output)
      ∙ ap (option_map (leaf_job_d l)) (all_forward bar tag (way_d input output)) ∙ fused (part_by bar tag) (leaf_job_d l) (way_d input output)

  -- it takes no beat without putting one
  pub no_absorb_a : is_enabled s (AbsorbA l) ≡ false
  no_absorb_a =
      let none : job s (AbsorbA l) ≡ None = ap (λ o. option_map (leaf_job_a l) (option_and_then absorbing o)) (part_a_is 0 0) ∙ ap (option_map (leaf_job_a l)) (none_absorbs bar tag (way_a 0 0)) in
      ap (λ (o : Option Job). option_map_or (may_do s) o false) none

  pub no_absorb_d : is_enabled s (AbsorbD l) ≡ false
  no_absorb_d =
      let none : job s (AbsorbD l) ≡ None = ap (λ o. option_map (leaf_job_d l) (option_and_then absorbing o)) (part_d_is 0 0) ∙ ap (option_map (leaf_job_d l)) (none_absorbs bar tag (way_d 0 0)) in
      ap (λ (o : Option Job). option_map_or (may_do s) o false) none
