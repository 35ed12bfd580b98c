-- A width widget that turns the beats of a response to a wider bus.
use Rattle.std.proofs.Common.{ℕ, suc, ◌≡◌, ◌+◌, ◌*◌, ◌%◌, ◌^◌, ◌<◌, Bool, true, false, ◌==◌, cond, nat_lt, Some, None, sym, ap, ◌∙◌, refl, arith}
use Rattle.std.specs.Prelude.{◌↔◌, bit_or}
use Rattle.std.specs.Option.{option_map}
use Rattle.std.proofs.Math.Nat.{min-eq_left}
use Rattle.std.proofs.lemmas.Bool.{false_from_ne_true, cond-true, cond-false, ne_eqb, eq-eqb, lt-ltb}
use Rattle.tl_edge.specs.declared.beat.DBeat.{DBeat}
use Rattle.tl_edge.specs.declared.message.Request.{Request}
use Rattle.tl_edge.specs.declared.message.Response.{Response}
use Rattle.tl_edge.specs.Beats.{data_beats, d_beat, most_lanes}
use Rattle.tl_pieces.specs.TwoBuses.{IsAsking, IsTelling, lane_in_wide, wide_number, first_narrow, narrow_count, gathered}
use Rattle.tl_pieces.proofs.Keeping.{kept_law}
use Rattle.tl_pieces.proofs.Widening.{last_law, wide_law}
use Rattle.flow_core.specs.Acts.{Act, with_d_lanes}
use Rattle.flow_core.specs.Turning.{Side, Widget, Lanes, ends_wide, number_after, with_lanes, widens, data_up, turn_up}
use Rattle.flow_core.specs.TurningLaws.{KeepsAddress, HasCollectedBack, PutsWideBack, WideningBackLaw}
use Rattle.flow_core.proofs.Back.{moved_up, same_lane, same_end, put_like, like_asks}
use Rattle.flow_core.proofs.Rows.{StandsIn, stands}
use Rattle.flow_core.proofs.ToNarrow.{tested}
use Rattle.flow_core.proofs.ToWide.{placed}

module _ (narrow wide : ℕ) (request : Request) (response : Response) (number count : ℕ) (widget : Widget) (tells : IsTelling narrow wide request response) (less : narrow < wide) (keeps : KeepsAddress widget request response)
    (below : number < data_beats response.size wide) (inside : count < narrow_count narrow wide response.size) (has : HasCollectedBack narrow wide request response number count widget.d) where
  abbrev first : ℕ
  first = first_narrow narrow wide number

  abbrev beats : ℕ
  beats = data_beats response.size narrow

  abbrev head : DBeat
  head = d_beat narrow request.address response (first + count)

  abbrev lanes : Lanes
  lanes = record { mask = 0; payload = head.payload }

  abbrev place : ℕ
  place = lane_in_wide narrow wide request.address (first + count)

  -- the sum of so many narrow beats
  abbrev sum_of : ℕ → ℕ
  sum_of many = gathered 256 (lane_in_wide narrow wide request.address) (λ k. (d_beat narrow request.address response k).payload) first many

  abbrev lanes_with : ℕ → Lanes
  lanes_with payload = record { mask = bit_or widget.d.mask (0 * 2 ^ place); payload = payload }

  abbrev like : Request
  like = put_like request response

  asks : IsAsking narrow wide like
  asks = like_asks narrow wide request response tells

  in_it : StandsIn narrow wide like number count
  in_it = stands narrow wide like number count asks below inside

  abbrev ends : Bool
  ends = ends_wide narrow wide request.address beats widget.d.done

  abbrev act : Act DBeat Widget
  act = data_up widget head (widens ends (number_after beats widget.d.done) (lanes_with (sum_of (suc count))))

  -- the next narrow beat is kept with those before it
  kept_too : with_lanes widget.d (lane_in_wide narrow wide (request.address % most_lanes) widget.d.done) lanes ≡ lanes_with (sum_of (suc count))
  kept_too =
      ap (λ (k : ℕ). with_lanes widget.d k lanes) (same_lane narrow wide request.address widget.d.done tells.buses)
      ∙ ap (λ (k : ℕ). with_lanes widget.d (lane_in_wide narrow wide request.address k) lanes) has.done
      ∙ placed widget.d place lanes
      ∙ ap (λ (k : ℕ). lanes_with (bit_or k (head.payload * 256 ^ place))) has.payload
      ∙ ap lanes_with (kept_law.back narrow wide request response number count tells below inside)

  is_turned : turn_up (record { above = wide; below = narrow }) widget head ≡ Some act
  is_turned =
      moved_up narrow wide narrow (request.address % most_lanes) widget head (λ same. omega (arith, same, less)) tells.data_too keeps (min-eq_left (omega (arith, less))) (omega (arith, has.done, in_it.within))
      ∙ ap (λ turned. Some (data_up widget head turned))
      (cond-true (nat_lt narrow wide) _ _ (lt-ltb narrow wide less)
      ∙ ap (λ e. widens e (number_after beats widget.d.done) (with_lanes widget.d (lane_in_wide narrow wide (request.address % most_lanes) widget.d.done) lanes)) (same_end narrow wide request.address beats widget.d.done tells.buses)
      ∙ ap (λ l. widens ends (number_after beats widget.d.done) l) kept_too)

  -- the head ends its wide beat exactly where it is the last there
  last_here : (widget.d.done + 1 ≡ first + narrow_count narrow wide response.size) ↔ (ends ≡ true)
  last_here =
      let test = tested narrow wide response.size request.address (first + count) in
      let last = last_law narrow wide like (first + count) asks in_it.within in
      let row : first_narrow narrow wide (wide_number narrow wide request.address (first + count)) ≡ first = ap (first_narrow narrow wide) in_it.wide_is in
      let moved_test : ends ≡ ends_wide narrow wide request.address beats (first + count) = ap (ends_wide narrow wide request.address beats) has.done in
      (λ e. moved_test ∙ test.1 (last.1 (omega (arith, e, has.done, row))), λ t. omega (arith, last.0 (test.0 (sym moved_test ∙ t)), has.done, row))

  full : suc count ≡ narrow_count narrow wide response.size → ends ≡ true
  full e = last_here.0 (omega (arith, e, has.done))

  short : suc count < narrow_count narrow wide response.size → ends ≡ false
  short e = false_from_ne_true ends (λ t. omega (arith, e, has.done, last_here.1 t))

  counted : widget.d.done + 1 < beats → number_after beats widget.d.done ≡ widget.d.done + 1
  counted e = cond-false (widget.d.done + 1 == beats) _ _ (ne_eqb (widget.d.done + 1) beats (λ same. omega (arith, e, same)))

  wide_data : suc count ≡ narrow_count narrow wide response.size → sum_of (suc count) ≡ (d_beat wide request.address response number).payload
  wide_data e = ap sum_of e ∙ sym (wide_law.back narrow wide request response number tells below)

  abbrev side_after : Bool → ℕ → Side
  side_after e next = record { done = next; mask = cond e 0 (lanes_with (sum_of (suc count))).mask; payload = cond e 0 (sum_of (suc count)) }

  puts_wide_back : PutsWideBack narrow wide request response number count act
  puts_wide_back = record {
    take = refl;
    put = λ e.
        ap (λ b. option_map (λ (lanes : Lanes). with_d_lanes lanes.payload head) (cond b (Some (lanes_with (sum_of (suc count)))) None)) (full e)
        ∙ ap (λ (k : ℕ). Some (with_d_lanes k head)) (wide_data e);
    next = λ e later.
        let at : widget.d.done + 1 ≡ first_narrow narrow wide (number + 1) = omega (arith, e, has.done, in_it.next later) in
        let more : StandsIn narrow wide like (number + 1) 0 = stands narrow wide like (number + 1) 0 asks later (omega (arith, inside)) in
        record {
          done = omega (arith, counted (omega (arith, at, more.within)), at);
          payload = cond-true ends 0 (sum_of (suc count)) (full e);
        };
    end = λ e last.
        let all : widget.d.done + 1 ≡ beats = omega (arith, e, has.done, in_it.end last) in
        ap (λ b. side_after b (number_after beats widget.d.done)) (full e)
        ∙ ap (side_after true) (cond-true (widget.d.done + 1 == beats) _ _ (eq-eqb (widget.d.done + 1) beats all));
    wait = λ e. ap (λ b. option_map (λ (lanes : Lanes). with_d_lanes lanes.payload head) (cond b (Some (lanes_with (sum_of (suc count)))) None)) (short e);
    kept = λ e.
        let more : StandsIn narrow wide like number (suc count) = stands narrow wide like number (suc count) asks below e in
        record {
          done = omega (arith, counted (omega (arith, has.done, more.within)), has.done);
          payload = cond-false ends 0 (sum_of (suc count)) (short e);
        };
  }

pub widening_back_law : WideningBackLaw
widening_back_law narrow wide request response number count widget tells less keeps below inside has = (
  act narrow wide request response number count widget tells less keeps below inside has,
  is_turned narrow wide request response number count widget tells less keeps below inside has,
  puts_wide_back narrow wide request response number count widget tells less keeps below inside has,
)
