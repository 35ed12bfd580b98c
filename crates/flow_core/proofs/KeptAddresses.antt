-- For which ids a width widget keeps addresses.
use Rattle.std.proofs.Common.{ℕ, zero, suc, ◌≡◌, ◌%◌, ◌<◌, List, [], ◌∷◌, length, Bool, true, false, ◌==◌, cond, Option, Some, None, refl, sym, ap, ◌∙◌, arith}
use Rattle.std.specs.Prelude.{slice_get, slice_set}
use Rattle.std.specs.Option.{option_map, option_and_then}
use Rattle.std.proofs.lemmas.Bool.{cond-false, ne_eqb, eq-eqb}
use Rattle.std.proofs.lemmas.Option.{same_Some, none-some}
use Rattle.tl_edge.specs.declared.beat.ABeat.{ABeat}
use Rattle.tl_edge.specs.declared.beat.DBeat.{DBeat}
use Rattle.tl_edge.specs.Messages.{has_data, brings_data}
use Rattle.tl_edge.specs.Beats.{most_lanes}
use Rattle.flow_core.specs.Acts.{Act, forwards, with_d_lanes}
use Rattle.flow_core.specs.Turning.{Widths, Side, Widget, Lanes, turned, lanes_of, kept_after, data_down, plain_down, turn_down, address_of, data_up, turned_up, turn_up}
use Rattle.flow_core.specs.TurningLaws.{KeptAddressLaw}

set_here : {A : Type 0} (xs : List A) (i : ℕ) (x : A) → i < length xs → slice_get (slice_set xs i x) i ≡ Some x
set_here [] i x h = absurd (omega (arith, h))
set_here (y ∷ ys) zero x h = refl
set_here (y ∷ ys) (suc i) x h = set_here ys i x (omega (arith, h))

set_there : {A : Type 0} (xs : List A) (i j : ℕ) (x : A) → (j ≡ i → ⊥) → slice_get (slice_set xs i x) j ≡ slice_get xs j
set_there [] i j x ne = refl
set_there (y ∷ ys) zero zero x ne = absurd (ne refl)
set_there (y ∷ ys) zero (suc j) x ne = refl
set_there (y ∷ ys) (suc i) zero x ne = refl
set_there (y ∷ ys) (suc i) (suc j) x ne = set_there ys i j x (λ e. ne (ap (λ (n : ℕ). suc n) e))

-- ---- channel A

module _ (widths : Widths) (widget : Widget) (beat : ABeat) (act : Act ABeat Widget) (differ : widths.above ≡ widths.below → ⊥) (is : turn_down widths widget beat ≡ Some act) where
  -- whether the move keeps the address
  abbrev keeps : Bool → Bool
  keeps carries = cond carries (widget.a.done == 0) true

  of_data : (o : Option (Act Lanes Side)) → option_map (data_down widget beat) o ≡ Some act → act.next.kept ≡ kept_after (keeps true) widget.kept beat
  of_data None e = absurd (none-some _ e)
  of_data (Some a) e = ap (λ (a : Act ABeat Widget). a.next.kept) (sym (same_Some _ _ e))

  of_either : (carries : Bool) → cond carries (option_map (data_down widget beat) (turned widths.above widths.below beat.address beat.size widget.a (lanes_of beat))) (Some (plain_down widths widget beat)) ≡ Some act
      → act.next.kept ≡ kept_after (keeps carries) widget.kept beat
  of_either true e = of_data (turned widths.above widths.below beat.address beat.size widget.a (lanes_of beat)) e
  of_either false e = ap (λ (a : Act ABeat Widget). a.next.kept) (sym (same_Some _ _ e))

  kept_is : act.next.kept ≡ kept_after (keeps (has_data beat.op)) widget.kept beat
  kept_is = of_either (has_data beat.op) (sym (cond-false (widths.above == widths.below) _ _ (ne_eqb widths.above widths.below differ)) ∙ is)

  surely : (carries test : Bool) → test ≡ true → cond carries test true ≡ true
  surely true test e = e
  surely false test e = refl

  pub first_kept : widget.a.done ≡ 0 → beat.source < length widget.kept → address_of act.next.kept beat.source ≡ Some (beat.address % most_lanes)
  first_kept start within =
      ap (λ kept. address_of kept beat.source) (kept_is ∙ ap (λ (b : Bool). kept_after b widget.kept beat) (surely (has_data beat.op) (widget.a.done == 0) (eq-eqb widget.a.done 0 start)))
      ∙ ap (option_and_then (λ address. address)) (set_here widget.kept beat.source (Some (beat.address % most_lanes)) within)

  pub later_kept : 0 < widget.a.done → has_data beat.op ≡ true → act.next.kept ≡ widget.kept
  later_kept some carries =
      kept_is
      ∙ ap (λ (b : Bool). kept_after (keeps b) widget.kept beat) carries
      ∙ ap (λ (b : Bool). kept_after b widget.kept beat) (ne_eqb widget.a.done 0 (λ e. omega (arith, e, some)))

  unchanged : (b : Bool) (id : ℕ) → (id ≡ beat.source → ⊥) → address_of (kept_after b widget.kept beat) id ≡ address_of widget.kept id
  unchanged false id other = refl
  unchanged true id other = ap (option_and_then (λ address. address)) (set_there widget.kept beat.source id (Some (beat.address % most_lanes)) other)

  pub others_kept : (id : ℕ) → (id ≡ beat.source → ⊥) → address_of act.next.kept id ≡ address_of widget.kept id
  others_kept id other = ap (λ kept. address_of kept id) kept_is ∙ unchanged (keeps (has_data beat.op)) id other

-- ---- channel D

module _ (widths : Widths) (widget : Widget) (beat : DBeat) (act : Act DBeat Widget) where
  of_answer : (o : Option (Act Lanes Side)) → option_map (data_up widget beat) o ≡ Some act → act.next.kept ≡ widget.kept
  of_answer None e = absurd (none-some _ e)
  of_answer (Some a) e = ap (λ (a : Act DBeat Widget). a.next.kept) (sym (same_Some _ _ e))

  of_address : (o : Option ℕ) → option_and_then (turned_up widths widget beat) o ≡ Some act → act.next.kept ≡ widget.kept
  of_address None e = absurd (none-some _ e)
  of_address (Some address) e = of_answer (turned widths.below widths.above address beat.size widget.d (record { mask = 0; payload = beat.payload })) e

  of_tests : (same carries : Bool)
      → cond same (Some (forwards beat widget)) (cond carries (option_and_then (turned_up widths widget beat) (address_of widget.kept beat.source)) (Some (forwards (with_d_lanes 0 beat) widget))) ≡ Some act
      → act.next.kept ≡ widget.kept
  of_tests true carries e = ap (λ (a : Act DBeat Widget). a.next.kept) (sym (same_Some _ _ e))
  of_tests false true e = of_address (address_of widget.kept beat.source) e
  of_tests false false e = ap (λ (a : Act DBeat Widget). a.next.kept) (sym (same_Some _ _ e))

  pub back_kept : turn_up widths widget beat ≡ Some act → act.next.kept ≡ widget.kept
  back_kept e = of_tests (widths.above == widths.below) (brings_data beat.op) e

pub kept_address_law : KeptAddressLaw
kept_address_law = record {
  first = λ widths widget beat act differ is. first_kept widths widget beat act differ is;
  later = λ widths widget beat act differ is. later_kept widths widget beat act differ is;
  others = λ widths widget beat act id differ is. others_kept widths widget beat act differ is id;
  back = back_kept;
}
