-- A width widget that turns the beats of a request to a wider bus.
use Rattle.std.proofs.Common.{ℕ, suc, ◌≡◌, ◌+◌, ◌*◌, ◌^◌, ◌<◌, Bool, true, false, ◌==◌, cond, nat_lt, Some, None, refl, sym, ap, ◌∙◌, arith}
use Rattle.std.specs.Prelude.{◌↔◌, bit_or}
use Rattle.std.specs.Option.{option_map}
use Rattle.std.proofs.Math.Nat.{min-eq_left}
use Rattle.std.proofs.lemmas.Bool.{false_from_ne_true, cond-true, cond-false, ne_eqb, eq-eqb, lt-ltb}
use Rattle.tl_edge.specs.declared.beat.ABeat.{ABeat}
use Rattle.tl_edge.specs.declared.message.Request.{Request}
use Rattle.tl_edge.specs.Beats.{data_beats, a_beat}
use Rattle.tl_edge.proofs.Digits.{byte_shift}
use Rattle.tl_pieces.specs.TwoBuses.{IsAsking, lane_in_wide, wide_number, first_narrow, narrow_count, gathered}
use Rattle.tl_pieces.proofs.Keeping.{kept_law}
use Rattle.tl_pieces.proofs.Widening.{last_law, wide_law}
use Rattle.flow_core.specs.Acts.{Act, with_a_lanes}
use Rattle.flow_core.specs.Turning.{Side, Widget, Lanes, ends_wide, number_after, with_lanes, widens, lanes_of, data_down, turn_down}
use Rattle.flow_core.specs.TurningLaws.{HasCollected, PutsWide, WideningLaw}
use Rattle.flow_core.proofs.Rows.{StandsIn, stands}
use Rattle.flow_core.proofs.ToNarrow.{moved, tested}

pub placed : (side : Side) (place : ℕ) (lanes : Lanes) → with_lanes side place lanes ≡ record { mask = bit_or side.mask (lanes.mask * 2 ^ place); payload = bit_or side.payload (lanes.payload * 256 ^ place) }
placed side place lanes =
    ap (λ (k : ℕ). record { mask = bit_or side.mask (lanes.mask * 2 ^ place); payload = bit_or side.payload (lanes.payload * k) }) (byte_shift place)

module _ (narrow wide : ℕ) (request : Request) (number count : ℕ) (widget : Widget) (asks : IsAsking narrow wide request) (less : narrow < wide)
    (below : number < data_beats request.size wide) (inside : count < narrow_count narrow wide request.size) (has : HasCollected narrow wide request number count widget.a) where
  abbrev first : ℕ
  first = first_narrow narrow wide number

  abbrev beats : ℕ
  beats = data_beats request.size narrow

  abbrev head : ABeat
  head = a_beat narrow request (first + count)

  -- the sum of so many narrow beats
  abbrev sum_of : ℕ → Lanes
  sum_of many = record {
    mask = gathered 2 (lane_in_wide narrow wide request.address) (λ k. (a_beat narrow request k).mask) first many;
    payload = gathered 256 (lane_in_wide narrow wide request.address) (λ k. (a_beat narrow request k).payload) first many;
  }

  in_it : StandsIn narrow wide request number count
  in_it = stands narrow wide request number count asks below inside

  abbrev ends : Bool
  ends = ends_wide narrow wide request.address beats widget.a.done

  abbrev wide_act : Act ABeat Widget
  wide_act = data_down widget head (widens ends (number_after beats widget.a.done) (sum_of (suc count)))

  -- the next narrow beat is kept with those before it
  kept_too : with_lanes widget.a (lane_in_wide narrow wide request.address widget.a.done) (lanes_of head) ≡ sum_of (suc count)
  kept_too =
      ap (λ (k : ℕ). with_lanes widget.a (lane_in_wide narrow wide request.address k) (lanes_of head)) has.done
      ∙ placed widget.a (lane_in_wide narrow wide request.address (first + count)) (lanes_of head)
      ∙ ap (λ (k : ℕ). record { mask = bit_or k (head.mask * 2 ^ lane_in_wide narrow wide request.address (first + count)); payload = bit_or widget.a.payload (head.payload * 256 ^ lane_in_wide narrow wide request.address (first + count)) }) has.mask
      ∙ ap (λ (k : ℕ). record { mask = bit_or (sum_of count).mask (head.mask * 2 ^ lane_in_wide narrow wide request.address (first + count)); payload = bit_or k (head.payload * 256 ^ lane_in_wide narrow wide request.address (first + count)) }) has.payload
      ∙ ap (λ (k : ℕ). record { mask = k; payload = bit_or (sum_of count).payload (head.payload * 256 ^ lane_in_wide narrow wide request.address (first + count)) }) (kept_law.mask narrow wide request number count asks below inside)
      ∙ ap (λ (k : ℕ). record { mask = (sum_of (suc count)).mask; payload = k }) (kept_law.payload narrow wide request number count asks below inside)

  is_turned_wide : turn_down (record { above = narrow; below = wide }) widget head ≡ Some wide_act
  is_turned_wide =
      moved narrow wide narrow widget head (λ same. omega (arith, same, less)) asks.data_too (min-eq_left (omega (arith, less))) (omega (arith, has.done, in_it.within))
      ∙ ap (λ turned. Some (data_down widget head turned))
      (cond-true (nat_lt narrow wide) _ _ (lt-ltb narrow wide less)
      ∙ ap (λ lanes. widens ends (number_after beats widget.a.done) lanes) kept_too)

  -- the head ends its wide beat exactly where it is the last there
  last_here : (widget.a.done + 1 ≡ first + narrow_count narrow wide request.size) ↔ (ends ≡ true)
  last_here =
      let test = tested narrow wide request.size request.address (first + count) in
      let last = last_law narrow wide request (first + count) asks in_it.within in
      let row : first_narrow narrow wide (wide_number narrow wide request.address (first + count)) ≡ first = ap (first_narrow narrow wide) in_it.wide_is in
      let moved_test : ends ≡ ends_wide narrow wide request.address beats (first + count) = ap (ends_wide narrow wide request.address beats) has.done in
      (λ e. moved_test ∙ test.1 (last.1 (omega (arith, e, has.done, row))), λ t. omega (arith, last.0 (test.0 (sym moved_test ∙ t)), has.done, row))

  full : suc count ≡ narrow_count narrow wide request.size → ends ≡ true
  full e = last_here.0 (omega (arith, e, has.done))

  short : suc count < narrow_count narrow wide request.size → ends ≡ false
  short e = false_from_ne_true ends (λ t. omega (arith, e, has.done, last_here.1 t))

  counted : widget.a.done + 1 < beats → number_after beats widget.a.done ≡ widget.a.done + 1
  counted e = cond-false (widget.a.done + 1 == beats) _ _ (ne_eqb (widget.a.done + 1) beats (λ same. omega (arith, e, same)))

  wide_lanes : suc count ≡ narrow_count narrow wide request.size → sum_of (suc count) ≡ lanes_of (a_beat wide request number)
  wide_lanes e =
      ap sum_of e
      ∙ sym (ap (λ (k : ℕ). record { mask = k; payload = (sum_of (narrow_count narrow wide request.size)).payload }) (wide_law.mask narrow wide request number asks below))
      ∙ sym (ap (λ (k : ℕ). record { mask = (a_beat wide request number).mask; payload = k }) (wide_law.payload narrow wide request number asks below))

  abbrev side_after : Bool → ℕ → Side
  side_after e next = record { done = next; mask = cond e 0 (sum_of (suc count)).mask; payload = cond e 0 (sum_of (suc count)).payload }

  puts_wide : PutsWide narrow wide request number count wide_act
  puts_wide = record {
    take = refl;
    put = λ e.
        ap (λ b. option_map (λ (lanes : Lanes). with_a_lanes lanes.mask lanes.payload head) (cond b (Some (sum_of (suc count))) None)) (full e)
        ∙ ap (λ (lanes : Lanes). Some (with_a_lanes lanes.mask lanes.payload head)) (wide_lanes e);
    next = λ e later.
        let at : widget.a.done + 1 ≡ first_narrow narrow wide (number + 1) = omega (arith, e, has.done, in_it.next later) in
        let more : StandsIn narrow wide request (number + 1) 0 = stands narrow wide request (number + 1) 0 asks later (omega (arith, inside)) in
        record {
          done = omega (arith, counted (omega (arith, at, more.within)), at);
          mask = cond-true ends 0 (sum_of (suc count)).mask (full e);
          payload = cond-true ends 0 (sum_of (suc count)).payload (full e);
        };
    end = λ e last.
        let all : widget.a.done + 1 ≡ beats = omega (arith, e, has.done, in_it.end last) in
        ap (λ b. side_after b (number_after beats widget.a.done)) (full e)
        ∙ ap (side_after true) (cond-true (widget.a.done + 1 == beats) _ _ (eq-eqb (widget.a.done + 1) beats all));
    wait = λ e. ap (λ b. option_map (λ (lanes : Lanes). with_a_lanes lanes.mask lanes.payload head) (cond b (Some (sum_of (suc count))) None)) (short e);
    kept = λ e.
        let more : StandsIn narrow wide request number (suc count) = stands narrow wide request number (suc count) asks below e in
        record {
          done = omega (arith, counted (omega (arith, has.done, more.within)), has.done);
          mask = cond-false ends 0 (sum_of (suc count)).mask (short e);
          payload = cond-false ends 0 (sum_of (suc count)).payload (short e);
        };
  }

pub widening_law : WideningLaw
widening_law narrow wide request number count widget asks less below inside has = (
  wide_act narrow wide request number count widget asks less below inside has,
  is_turned_wide narrow wide request number count widget asks less below inside has,
  puts_wide narrow wide request number count widget asks less below inside has,
)
