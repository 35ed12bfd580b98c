-- What is kept of a wide beat lies below the next narrow one.
use Rattle.std.proofs.Common.{ℕ, zero, suc, ◌≡◌, ◌+◌, ◌*◌, ◌/◌, ◌%◌, ◌^◌, ◌-◌, ◌<◌, ◌≤◌, inl, inr, min, List, length, map, Bool, true, false, cond, bit_or, lit<, ap, sym, ◌∙◌, refl, subst, arith}
use Rattle.std.specs.Int.{from_bool}
use Rattle.std.proofs.lemmas.Nat.{pow-add, or_shifted, or_comm, row_fits}
use Rattle.tl_edge.specs.declared.message.Request.{Request}
use Rattle.tl_edge.specs.declared.message.Response.{Response}
use Rattle.tl_edge.specs.Beats.{on_lanes, first_lane, data_beats, part, flags_of, a_beat, d_beat}
use Rattle.tl_edge.specs.Messages.{bytes_of}
use Rattle.tl_edge.proofs.Active.{bus_of}
use Rattle.tl_edge.proofs.Digits.{byte_shift}
use Rattle.tl_edge.proofs.LaneByLane.{base_pos, are_on_lanes, map-part}
use Rattle.tl_pieces.specs.TwoBuses.{AreBuses, IsAsking, IsTelling, lane_in_wide, first_narrow, narrow_count, gathered, KeptLaw}
use Rattle.tl_pieces.proofs.Placing.{AreMultiples, multiples, large, middle, small, kind_of, beats_of_large, beats_of_small, in_row, aligned_wide, in_one}
use Rattle.tl_pieces.proofs.Narrowing.{AreOnBus, large_beats, data_on_bus, flags_on_bus, answer_on_bus}
use Rattle.tl_pieces.proofs.Widening.{large_count, middle_count, small_count}

-- ---- places follow each other

-- the next narrow beat of the same wide one begins where the one before it ends
abbrev pub IsNextPlace : ℕ → ℕ → ℕ → ℕ → Type 0
IsNextPlace narrow wide address number = lane_in_wide narrow wide address (number + 1) ≡ lane_in_wide narrow wide address number + narrow

next_place : (base narrow wide size address number i : ℕ) (xs : List ℕ) → AreOnBus base narrow wide size address xs → number < data_beats size wide → i + 1 < narrow_count narrow wide size
    → IsNextPlace narrow wide address (first_narrow narrow wide number + i)
next_place base narrow wide size address number i xs on below more = elim (kind_of narrow wide size on.buses) [
  | large times some is ↦
      let m : AreMultiples narrow wide = multiples narrow wide on.buses in
      let count : narrow_count narrow wide size ≡ m.ratio = large_count narrow wide size m.ratio times m.is_ratio (large_beats narrow wide size m.ratio times m.is m.positive m.some some is) some in
      let first : first_narrow narrow wide number ≡ number * m.ratio = ap (λ (r : ℕ). number * r) m.is_ratio in
      let aligned : address % wide ≡ 0 = aligned_wide wide size times address (omega (arith, on.buses.less, m.positive)) is on.aligned in
      let here : lane_in_wide narrow wide address (number * m.ratio + i) ≡ i * narrow = (in_row narrow wide address number i m.ratio m.is m.positive (omega (arith, more, count)) aligned).place_is in
      let there : lane_in_wide narrow wide address (number * m.ratio + (i + 1)) ≡ (i + 1) * narrow = (in_row narrow wide address number (i + 1) m.ratio m.is m.positive (omega (arith, more, count)) aligned).place_is in
      let step : number * m.ratio + i + 1 ≡ number * m.ratio + (i + 1) = omega arith in
      ap (λ (f : ℕ). lane_in_wide narrow wide address (f + i + 1)) first ∙ ap (lane_in_wide narrow wide address) step ∙ there ∙ omega arith
      ∙ sym (ap (λ (p : ℕ). p + narrow) (ap (λ (f : ℕ). lane_in_wide narrow wide address (f + i)) first ∙ here))
  | middle times fewer some any fits is under ↦
      let m : AreMultiples narrow wide = multiples narrow wide on.buses in
      let beats : data_beats size narrow ≡ times = beats_of_large narrow size times m.positive some fits in
      let only : number ≡ 0 = omega (arith, below, beats_of_small wide size under) in
      let count : narrow_count narrow wide size ≡ times = middle_count narrow wide size m.ratio times m.is_ratio m.is fits under beats in
      let first : first_narrow narrow wide number ≡ 0 = ap (λ (k : ℕ). k * (wide / narrow)) only ∙ omega arith in
      let own : first_narrow narrow wide number + i ≡ i = omega (arith, first) in
      let here : lane_in_wide narrow wide address i ≡ address % wide + i * narrow = (in_one narrow wide size address i times fewer m.positive any fits is on.aligned (omega (arith, more, count))).place_is in
      let there : lane_in_wide narrow wide address (i + 1) ≡ address % wide + (i + 1) * narrow = (in_one narrow wide size address (i + 1) times fewer m.positive any fits is on.aligned (omega (arith, more, count))).place_is in
      ap (λ (f : ℕ). lane_in_wide narrow wide address (f + 1)) own ∙ there ∙ omega arith
      ∙ sym (ap (λ (p : ℕ). p + narrow) (ap (lane_in_wide narrow wide address) own ∙ here))
  | small fewer any fits under ↦
      let m : AreMultiples narrow wide = multiples narrow wide on.buses in
      absurd (omega (arith, more, small_count narrow wide size m.ratio m.is_ratio m.some (beats_of_small narrow size under)))
]

-- ---- what is kept is below the next place

above : (base n power place : ℕ) → n < power → n * place + place ≤ power * place
above base n power place h = omega (arith, row n power place h)
  where
    row : (a m b : ℕ) → a < m → a * b + b ≤ m * b
    row a m b l = row_fits a b m b l (omega arith)

kept_below : (base narrow : ℕ) (place value : ℕ → ℕ) (first more : ℕ) → 0 < base → ((k : ℕ) → value k < base ^ narrow) → ((i : ℕ) → i < more → place (first + i + 1) ≡ place (first + i) + narrow)
    → gathered base place value first more < base ^ place (first + more)
kept_below base narrow place value first zero b fits next = base_pos base (place (first + 0)) b
kept_below base narrow place value first (suc more) b fits next =
    let before : gathered base place value first more < base ^ place (first + more) = kept_below base narrow place value first more b fits (λ i l. next i (omega (arith, l))) in
    let step : first + suc more ≡ first + more + 1 = omega arith in
    let power : base ^ place (first + suc more) ≡ base ^ narrow * base ^ place (first + more) =
    ap (λ (k : ℕ). base ^ place k) step ∙ ap (λ (k : ℕ). base ^ k) (next more (omega arith) ∙ omega arith) ∙ pow-add base narrow (place (first + more)) in
    omega (arith, before, power, above base (value (first + more)) (base ^ narrow) (base ^ place (first + more)) (fits (first + more)))

-- a base that is a power of two
pub record IsBits (base : ℕ) : Type 0 where
  pub bits : ℕ
  pub is : (k : ℕ) → base ^ k ≡ 2 ^ (bits * k)

or_is_sum : (base kept value place : ℕ) → IsBits base → kept < base ^ place → bit_or kept (value * base ^ place) ≡ kept + value * base ^ place
or_is_sum base kept value place b below =
    let small : kept < 2 ^ (b.bits * place) = omega (arith, below, b.is place) in
    ap (λ (p : ℕ). bit_or kept (value * p)) (b.is place)
    ∙ or_comm kept (value * 2 ^ (b.bits * place)) ∙ or_shifted value (b.bits * place) kept small
    ∙ sym (ap (λ (p : ℕ). value * p + kept) (b.is place)) ∙ omega arith

-- the value of a narrow beat
narrow_small : (base narrow wide size address number : ℕ) (xs : List ℕ) → AreOnBus base narrow wide size address xs → on_lanes base (first_lane narrow size address) (part narrow number xs) < base ^ narrow
narrow_small base narrow wide size address number xs on = (are_on_lanes base narrow size address number xs on.base_positive on.are_digits (bus_of narrow on.buses.narrow_bus) on.aligned on.few).fits

keeps : (base narrow wide size address number more : ℕ) (value : ℕ → ℕ) (xs : List ℕ) → IsBits base → AreOnBus base narrow wide size address xs → number < data_beats size wide → more < narrow_count narrow wide size
    → ((k : ℕ) → value k < base ^ narrow)
    → bit_or (gathered base (lane_in_wide narrow wide address) value (first_narrow narrow wide number) more) (value (first_narrow narrow wide number + more) * base ^ lane_in_wide narrow wide address (first_narrow narrow wide number + more))
    ≡ gathered base (lane_in_wide narrow wide address) value (first_narrow narrow wide number) (suc more)
keeps base narrow wide size address number more value xs b on below within fits =
    or_is_sum base (gathered base (lane_in_wide narrow wide address) value (first_narrow narrow wide number) more) (value (first_narrow narrow wide number + more)) (lane_in_wide narrow wide address (first_narrow narrow wide number + more)) b
    (kept_below base narrow (lane_in_wide narrow wide address) value (first_narrow narrow wide number) more on.base_positive fits
    (λ i l. next_place base narrow wide size address number i xs on below (omega (arith, l, within))))

two_bits : IsBits 2
two_bits = record { bits = 1; is = λ k. let same : k ≡ 1 * k = omega arith in ap (λ (n : ℕ). 2 ^ n) same }

byte_bits : IsBits 256
byte_bits = record { bits = 8; is = λ k. sym (byte_shift k) }

mask_small : (narrow wide : ℕ) (request : Request) → IsAsking narrow wide request → (k : ℕ) → (a_beat narrow request k).mask < 2 ^ narrow
mask_small narrow wide request asks k =
    subst (λ (xs : List ℕ). on_lanes 2 (first_lane narrow request.size request.address) xs < 2 ^ narrow) (map-part narrow k (flags_of request))
    (narrow_small 2 narrow wide request.size request.address k (map from_bool (flags_of request)) (flags_on_bus narrow wide request asks))

denied_small : (denied : Bool) (base narrow n : ℕ) → 0 < base → n < base ^ narrow → cond denied 0 n < base ^ narrow
denied_small true base narrow n b h = base_pos base narrow b
denied_small false base narrow n b h = h

pub kept_law : KeptLaw
kept_law = record {
  mask = λ narrow wide request number more asks below within.
      keeps 2 narrow wide request.size request.address number more (λ k. (a_beat narrow request k).mask) (map from_bool (flags_of request)) two_bits (flags_on_bus narrow wide request asks) below within
      (mask_small narrow wide request asks);
  payload = λ narrow wide request number more asks below within.
      keeps 256 narrow wide request.size request.address number more (λ k. (a_beat narrow request k).payload) request.payload byte_bits (data_on_bus narrow wide request asks) below within
      (λ k. narrow_small 256 narrow wide request.size request.address k request.payload (data_on_bus narrow wide request asks));
  back = λ narrow wide request response number more tells below within.
      keeps 256 narrow wide response.size request.address number more (λ k. (d_beat narrow request.address response k).payload) response.payload byte_bits (answer_on_bus narrow wide request response tells) below within
      (λ k. denied_small response.denied 256 narrow _ (lit< tt) (narrow_small 256 narrow wide response.size request.address k response.payload (answer_on_bus narrow wide request response tells)));
}
