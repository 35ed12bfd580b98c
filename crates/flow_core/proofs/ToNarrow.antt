-- A width widget that turns the beats of a request to a narrower bus.
use Rattle.std.proofs.Common.{ℕ, ◌≡◌, ◌+◌, ◌*◌, ◌/◌, ◌%◌, ◌^◌, ◌<◌, inl, inr, Bool, true, ◌==◌, cond, min, nat_lt, Some, None, refl, sym, ap, ◌∙◌, arith}
use Rattle.std.specs.Prelude.{◌↔◌}
use Rattle.std.specs.Option.{option_map}
use Rattle.std.proofs.Math.Nat.{min-eq_right}
use Rattle.std.proofs.lemmas.Bool.{cond-true, cond-false, ne_eqb, eq-eqb, eqb-true, lt-ltb, le-ltb, or_cases, or_left, or_right}
use Rattle.tl_edge.specs.declared.beat.ABeat.{ABeat}
use Rattle.tl_edge.specs.declared.message.Request.{Request}
use Rattle.tl_edge.specs.Messages.{has_data}
use Rattle.tl_edge.specs.Beats.{data_beats, a_beat}
use Rattle.tl_edge.proofs.Digits.{byte_shift}
use Rattle.tl_pieces.specs.TwoBuses.{IsAsking, EndsWide, lane_in_wide, wide_number, lanes_at}
use Rattle.tl_pieces.proofs.Narrowing.{narrow_law}
use Rattle.tl_pieces.proofs.Widening.{last_law}
use Rattle.flow_core.specs.Acts.{Act}
use Rattle.flow_core.specs.Turning.{Widget, Lanes, ends_wide, number_after, narrowed, narrows, turned_at, lanes_of, data_down, turn_down}
use Rattle.flow_core.specs.TurningLaws.{IsLastInWide, PutsNarrow, NarrowingLaw}

-- between buses of two widths a beat with data is turned, where not all of its narrow beats are done
pub moved : (from to least : ℕ) (widget : Widget) (beat : ABeat) → (from ≡ to → ⊥) → has_data beat.op ≡ true → min from to ≡ least → widget.a.done < data_beats beat.size least
    → turn_down (record { above = from; below = to }) widget beat ≡ Some (data_down widget beat (turned_at from to beat.address (data_beats beat.size least) widget.a (lanes_of beat)))
moved from to least widget beat differ carries is below =
    cond-false (from == to) _ _ (ne_eqb from to differ)
    ∙ cond-true (has_data beat.op) _ _ carries
    ∙ ap (option_map (data_down widget beat))
    (ap (λ (n : ℕ). cond (nat_lt widget.a.done (data_beats beat.size n)) (Some (turned_at from to beat.address (data_beats beat.size n) widget.a (lanes_of beat))) None) is
    ∙ cond-true (nat_lt widget.a.done (data_beats beat.size least)) _ _ (lt-ltb widget.a.done (data_beats beat.size least) below))

-- the test of the last narrow beat is its definition
pub tested : (narrow wide size address number : ℕ) → (ends_wide narrow wide address (data_beats size narrow) number ≡ true) ↔ EndsWide narrow wide size address number
tested narrow wide size address number = (
  λ t. elim (or_cases (number + 1 == data_beats size narrow) ((address + (number + 1) * narrow) % wide == 0) t) [
    | inl last ↦ inl (eqb-true (number + 1) (data_beats size narrow) last)
    | inr multiple ↦ inr (eqb-true ((address + (number + 1) * narrow) % wide) 0 multiple)
  ],
  λ e. elim e [
    | inl last ↦ or_left (number + 1 == data_beats size narrow) _ (eq-eqb (number + 1) (data_beats size narrow) last)
    | inr multiple ↦ or_right (number + 1 == data_beats size narrow) _ (eq-eqb ((address + (number + 1) * narrow) % wide) 0 multiple)
  ],
)

-- ---- from wide to narrow

pub cut : (narrow place : ℕ) (lanes : Lanes) → narrowed narrow place lanes ≡ record { mask = lanes_at 2 narrow place lanes.mask; payload = lanes_at 256 narrow place lanes.payload }
cut narrow place lanes =
    ap (λ (k : ℕ). record { mask = lanes_at 2 narrow place lanes.mask; payload = lanes.payload / k % 2 ^ (8 * narrow) }) (byte_shift place)
    ∙ ap (λ (k : ℕ). record { mask = lanes_at 2 narrow place lanes.mask; payload = lanes.payload / 256 ^ place % k }) (byte_shift narrow)

module _ (narrow wide : ℕ) (request : Request) (widget : Widget) (asks : IsAsking narrow wide request) (less : narrow < wide) (below : widget.a.done < data_beats request.size narrow) where
  abbrev number : ℕ
  number = widget.a.done

  abbrev head : ABeat
  head = a_beat wide request (wide_number narrow wide request.address number)

  abbrev place : ℕ
  place = lane_in_wide narrow wide request.address number

  cut_out : narrowed narrow place (lanes_of head) ≡ lanes_of (a_beat narrow request number)
  cut_out =
      cut narrow place (lanes_of head)
      ∙ sym (ap (λ (m : ℕ). record { mask = m; payload = lanes_at 256 narrow place head.payload }) (narrow_law.mask narrow wide request number asks below))
      ∙ sym (ap (λ (p : ℕ). record { mask = (a_beat narrow request number).mask; payload = p }) (narrow_law.payload narrow wide request number asks below))

  abbrev ends : Bool
  ends = ends_wide narrow wide request.address (data_beats request.size narrow) number

  abbrev next : ℕ
  next = number_after (data_beats request.size narrow) number

  abbrev act : Act ABeat Widget
  act = data_down widget head (narrows ends next widget.a (lanes_of (a_beat narrow request number)))

  is_turned : turn_down (record { above = wide; below = narrow }) widget head ≡ Some act
  is_turned =
      moved wide narrow narrow widget head (λ same. omega (arith, same, less)) asks.data_too (min-eq_right (omega (arith, less))) below
      ∙ ap (λ turned. Some (data_down widget head turned))
      (cond-false (nat_lt wide narrow) _ _ (le-ltb wide narrow (omega (arith, less)))
      ∙ ap (λ lanes. narrows ends next widget.a lanes) cut_out)

  takes : (act.take ≡ true) ↔ IsLastInWide narrow wide request.size request.address number
  takes =
      let test = tested narrow wide request.size request.address number in
      let last = last_law narrow wide request number asks below in
      (λ t. last.0 (test.0 t), λ e. test.1 (last.1 e))

  puts_narrow : PutsNarrow narrow wide request number act
  puts_narrow = record { put = refl; take = takes; done = refl }

pub narrowing_law : NarrowingLaw
narrowing_law narrow wide request widget asks less below =
    (act narrow wide request widget asks less below, is_turned narrow wide request widget asks less below, puts_narrow narrow wide request widget asks less below)
