-- The crossbar's moves are acts through its gates.
use Rattle.std.proofs.Common.{◌≡◌, ℕ, ◌+◌, ◌-◌, Bool, true, false, cond, length, get_or, Option, Some, None, refl, sym, ap, ◌∙◌, arith, inl, inr, max}
use Rattle.std.specs.Prelude.{slice_get, nat_lt, ◌==◌}
use Rattle.std.specs.Option.{option_and_then, option_map}
use Rattle.std.proofs.lemmas.Bool.{cases_lt}
use Rattle.std.proofs.Math.ListN.{get_or-eq_default}
use Rattle.dip_sets.specs.declared.ids.IdRange.{IdRange}
use Rattle.dip_sets.specs.Ids.{has_id}
use Rattle.tl_params.specs.declared.ops.Op.{Op}
use Rattle.tl_params.specs.declared.ops.Op.TheVariants.{PutFull, PutPartial, Arithmetic, Logical, Get, Intent}
use Rattle.tl_params.specs.declared.ops.Ack.{Ack}
use Rattle.tl_params.specs.declared.ops.Ack.TheVariants as acks
use Rattle.tl_params.specs.Codes.{code_of_ack, code_of_op}
use Rattle.tl_edge.specs.declared.beat.ABeat.{ABeat}
use Rattle.tl_edge.specs.declared.beat.DBeat.{DBeat}
use Rattle.tl_edge.specs.Beats.{data_beats, request_beats, response_beats}
use Rattle.tl_edge.specs.Wires.{a_fields, d_fields}
use Rattle.flow_core.specs.Acts.{forwards, lifted, with_a_id, with_d_id}
use Rattle.flow_core.specs.declared.locks.Gate.{Gate}
use Rattle.flow_core.specs.declared.locks.Gates.{Gates}
use Rattle.flow_core.specs.Crossing.{Crossbar, crossed_down, crossed_up, goes_to, passed_by, with_in, with_out}
use Rattle.flow_core.specs.Leaves.{LeafState, down, up}
use Rattle.flow_core.specs.Leaves.LeafState.{XbarState}
use Rattle.net_queue.specs.Adapters.{act_by, with_room}
use Rattle.net_queue.specs.Leaves.{LeafView}
use Rattle.net_xbar.specs.Crossings.{act_down, act_up}
use Rattle.net_xbar.specs.Ways.{asks_input, asks_output, no_ids, offers_from, range_of, rest_a, rest_d}
use Rattle.net_xbar.proofs.Acting.{offer_act, offers_at_place, slice_get_at, through}

-- ---- how many beats follow

one_more : (n : ℕ) → max 1 n - 1 + 1 ≡ max 1 n
one_more n = omega arith

rest_by_op : (op : Op) (size width : ℕ) → cond (nat_lt (code_of_op op) 4) (data_beats size width - 1) 0 + 1 ≡ request_beats op size width
rest_by_op PutFull size width = one_more _
rest_by_op PutPartial size width = one_more _
rest_by_op Arithmetic size width = one_more _
rest_by_op Logical size width = one_more _
rest_by_op Get size width = refl
rest_by_op Intent size width = refl

pub rest_of_request : (width : ℕ) (beat : ABeat) → rest_a width (a_fields beat) + 1 ≡ request_beats beat.op beat.size width
rest_of_request width beat = rest_by_op beat.op beat.size width

rest_by_ack : (op : Ack) (size width : ℕ) → cond (code_of_ack op == 1) (data_beats size width - 1) 0 + 1 ≡ response_beats op size width
rest_by_ack acks.Ack size width = refl
rest_by_ack acks.AckData size width = one_more _
rest_by_ack acks.HintAck size width = refl

pub rest_of_response : (width : ℕ) (beat : DBeat) → rest_d width (d_fields beat) + 1 ≡ response_beats beat.op beat.size width
rest_of_response width beat = rest_by_ack beat.op beat.size width

-- ---- channel A

module _ (bar : Crossbar) (gates : Gates) (output : ℕ) (gate : Gate) (is : slice_get gates.outs output ≡ Some gate) where
  abbrev pub state_out : Gate → LeafState
  state_out next = XbarState bar (with_out gates output next)

  abbrev pub beats_a : ABeat → ℕ
  beats_a beat = request_beats beat.op beat.size bar.width

  abbrev moved : ABeat → IdRange → ABeat
  moved beat range = with_a_id (beat.source + range.start) beat

  crossed : (room : Bool) (input : ℕ) (beat : ABeat) (range : IdRange) → slice_get bar.ranges input ≡ Some range
      → option_and_then (with_room room) (option_map (lifted (XbarState bar)) (option_and_then (crossed_down bar gates input output beat) (slice_get bar.ranges input)))
      ≡ through room gate.lock gate.next input (length bar.ranges) beats_a state_out (moved beat range)
  crossed room input beat range e =
      ap (λ (o : Option IdRange). option_and_then (with_room room) (option_map (lifted (XbarState bar)) (option_and_then (crossed_down bar gates input output beat) o))) e
      ∙ ap (λ (o : Option Gate). option_and_then (with_room room) (option_map (lifted (XbarState bar)) (option_map (λ next. forwards (moved beat range) (with_out gates output next)) (option_and_then (λ (g : Gate). passed_by g.lock g.next input (length bar.ranges) (beats_a beat)) o)))) is
      ∙ at (passed_by gate.lock gate.next input (length bar.ranges) (beats_a beat))
    where
      at : (passed : Option Gate) → option_and_then (with_room room) (option_map (lifted (XbarState bar)) (option_map (λ next. forwards (moved beat range) (with_out gates output next)) passed)) ≡ option_and_then (with_room room) (option_map (λ (next : Gate). forwards (moved beat range) (state_out next)) passed)
      at None = refl
      at (Some next) = refl

  by_head : (room : Bool) (input : ℕ) (head : Option ABeat) → slice_get bar.ranges input ≡ Some (range_of bar input)
      → act_by None (down (XbarState bar gates) 0 input output) head room ≡ offer_act room gate.lock gate.next input (length bar.ranges) beats_a state_out (option_and_then (asks_output bar output input) head)
  by_head room input None e = refl
  by_head room input (Some beat) e = at (goes_to bar output beat.address)
    where
      at : (c : Bool) → option_and_then (with_room room) (option_map (lifted (XbarState bar)) (cond c (option_and_then (crossed_down bar gates input output beat) (slice_get bar.ranges input)) None))
          ≡ offer_act room gate.lock gate.next input (length bar.ranges) beats_a state_out (cond c (Some (moved beat (range_of bar input))) None)
      at true = crossed room input beat (range_of bar input) e
      at false = refl

  pub acts_down : (x : LeafView) → length x.heads_a ≡ length bar.ranges → (input : ℕ)
      → act_down (XbarState bar gates) x output input ≡ offer_act (get_or x.room_a output false) gate.lock gate.next input (length bar.ranges) beats_a state_out (get_or (offers_from (asks_output bar output) 0 x.heads_a) input None)
  acts_down x l input =
      elim (cases_lt input (length bar.ranges)) [
        | inl b ↦ by_head (get_or x.room_a output false) input (get_or x.heads_a input None) (slice_get_at bar.ranges input no_ids b)
        | inr b ↦
            let n : get_or x.heads_a input None ≡ None = get_or-eq_default x.heads_a None (omega (arith, l)) in
            ap (λ (head : Option ABeat). act_by None (down (XbarState bar gates) 0 input output) head (get_or x.room_a output false)) n
            ∙ sym (ap (λ (head : Option ABeat). offer_act (get_or x.room_a output false) gate.lock gate.next input (length bar.ranges) beats_a state_out (option_and_then (asks_output bar output input) head)) n)
      ]
      ∙ sym (ap (offer_act (get_or x.room_a output false) gate.lock gate.next input (length bar.ranges) beats_a state_out) (offers_at_place (asks_output bar output) 0 x.heads_a input ∙ ap (λ (n : ℕ). option_and_then (asks_output bar output n) (get_or x.heads_a input None)) (omega arith)))

-- ---- channel D

module _ (bar : Crossbar) (gates : Gates) (input : ℕ) (gate : Gate) (is : slice_get gates.ins input ≡ Some gate) (in_range : slice_get bar.ranges input ≡ Some (range_of bar input)) where
  abbrev pub state_in : Gate → LeafState
  state_in next = XbarState bar (with_in gates input next)

  abbrev pub beats_d : DBeat → ℕ
  beats_d beat = response_beats beat.op beat.size bar.width

  abbrev moved_back : DBeat → DBeat
  moved_back beat = with_d_id (beat.source - (range_of bar input).start) beat

  crossed_back : (room : Bool) (output : ℕ) (beat : DBeat)
      → option_and_then (with_room room) (option_map (lifted (XbarState bar)) (crossed_up bar gates input output beat (range_of bar input)))
      ≡ through room gate.lock gate.next output (length bar.slaves) beats_d state_in (moved_back beat)
  crossed_back room output beat =
      ap (λ (o : Option Gate). option_and_then (with_room room) (option_map (lifted (XbarState bar)) (option_map (λ next. forwards (moved_back beat) (with_in gates input next)) (option_and_then (λ (g : Gate). passed_by g.lock g.next output (length bar.slaves) (beats_d beat)) o)))) is
      ∙ at (passed_by gate.lock gate.next output (length bar.slaves) (beats_d beat))
    where
      at : (passed : Option Gate) → option_and_then (with_room room) (option_map (lifted (XbarState bar)) (option_map (λ next. forwards (moved_back beat) (with_in gates input next)) passed)) ≡ option_and_then (with_room room) (option_map (λ (next : Gate). forwards (moved_back beat) (state_in next)) passed)
      at None = refl
      at (Some next) = refl

  by_response : (room : Bool) (output : ℕ) (head : Option DBeat)
      → act_by None (up (XbarState bar gates) input output) head room ≡ offer_act room gate.lock gate.next output (length bar.slaves) beats_d state_in (option_and_then (asks_input bar input) head)
  by_response room output None = refl
  by_response room output (Some beat) =
      ap (λ (o : Option IdRange). option_and_then (with_room room) (option_map (lifted (XbarState bar)) (option_and_then (λ (range : IdRange). cond (has_id range beat.source) (crossed_up bar gates input output beat range) None) o))) in_range
      ∙ at (has_id (range_of bar input) beat.source)
    where
      at : (c : Bool) → option_and_then (with_room room) (option_map (lifted (XbarState bar)) (cond c (crossed_up bar gates input output beat (range_of bar input)) None))
          ≡ offer_act room gate.lock gate.next output (length bar.slaves) beats_d state_in (cond c (Some (moved_back beat)) None)
      at true = crossed_back room output beat
      at false = refl

  pub acts_up : (x : LeafView) (output : ℕ)
      → act_up (XbarState bar gates) x input output ≡ offer_act (get_or x.room_d input false) gate.lock gate.next output (length bar.slaves) beats_d state_in (get_or (offers_from (λ n. asks_input bar input) 0 x.heads_d) output None)
  acts_up x output =
      by_response (get_or x.room_d input false) output (get_or x.heads_d output None)
      ∙ sym (ap (offer_act (get_or x.room_d input false) gate.lock gate.next output (length bar.slaves) beats_d state_in) (offers_at_place (λ n. asks_input bar input) 0 x.heads_d output))
