-- Narrow beats cut out of wide ones.
use Rattle.std.proofs.Common.{ℕ, zero, suc, ◌≡◌, ◌+◌, ◌*◌, ◌/◌, ◌%◌, ◌^◌, ◌<◌, ◌≤◌, List, length, take, drop, map, Bool, true, false, cond, lit<, ap, sym, ◌∙◌, arith}
use Rattle.std.specs.Int.{from_bool}
use Rattle.std.proofs.Math.Nat.{pow-zero, div-div-eq-div-mul, mul-div_cancel_left, mod-eq_of_lt, zero-div, pow-le-pow_right}
use Rattle.std.proofs.lemmas.Nat.{pow-add, div-add-mod', mod_below, div_below}
use Rattle.std.proofs.lemmas.List.{length-map, take_all, get_or-drop}
use Rattle.tl_edge.specs.declared.message.Request.{Request}
use Rattle.tl_edge.specs.declared.message.Response.{Response}
use Rattle.tl_edge.specs.Messages.{bytes_of}
use Rattle.tl_edge.specs.Beats.{of_digits, on_lanes, first_lane, data_beats, part, flags_of, a_beat}
use Rattle.tl_edge.proofs.Digits.{AreDigits, on_lanes-lt, flag_bits}
use Rattle.tl_edge.proofs.Active.{bus_of, first_large, first_small, lanes_fit, all_or_none, times-le}
use Rattle.tl_edge.proofs.LaneByLane.{base_pos, part_digits, digits_from_bytes, map-part, flags_of-length}
use Rattle.tl_pieces.specs.TwoBuses.{AreBuses, IsAsking, IsTelling, lane_in_wide, wide_number, lanes_at, NarrowLaw}
use Rattle.tl_pieces.proofs.Parts.{part-part}
use Rattle.tl_pieces.proofs.Blocks.{block_digits}
use Rattle.tl_pieces.proofs.Placing.{AreMultiples, multiples, large, middle, small, kind_of, beats_of_large, beats_of_small, IsInRow, in_row, aligned_wide, IsInOne, in_one, IsAlone, alone}

-- ---- lists and lanes

pub drop_are_digits : (base place : ℕ) (xs : List ℕ) → AreDigits base xs → AreDigits base (drop place xs)
drop_are_digits base place xs h i = omega (arith, get_or-drop place xs i 0, h (place + i))

pub from_lane_0 : (base : ℕ) (xs : List ℕ) → on_lanes base 0 xs ≡ of_digits base xs
from_lane_0 base xs = ap (λ (n : ℕ). n * of_digits base xs) (pow-zero base) ∙ omega arith

-- a short list is its first part
pub part-first : (width : ℕ) (xs : List ℕ) → length xs ≤ width → part width 0 xs ≡ xs
part-first width xs h = let start : 0 * width ≡ 0 = omega arith in ap (λ (n : ℕ). take width (drop n xs)) start ∙ take_all width xs h

-- lanes moved up and cut out again
cut_moved : (base count first place : ℕ) (n : ℕ) → 0 < base → lanes_at base count (first + place) (base ^ first * n) ≡ n / base ^ place % base ^ count
cut_moved base count first place n b =
    ap (λ (k : ℕ). base ^ first * n / k % base ^ count) (pow-add base first place)
    ∙ ap (λ (k : ℕ). k % base ^ count) (sym (div-div-eq-div-mul (base ^ first * n) (base ^ first) (base ^ place)))
    ∙ ap (λ (k : ℕ). k / base ^ place % base ^ count) (mul-div_cancel_left n (base_pos base first b))

-- ---- what is said of one list, whatever the base

pub record IsCutOut (base narrow wide size address number : ℕ) (xs : List ℕ) : Type 0 where
  pub wide_beat : wide_number narrow wide address number < data_beats size wide
  pub is : on_lanes base (first_lane narrow size address) (part narrow number xs)
      ≡ lanes_at base narrow (lane_in_wide narrow wide address number) (on_lanes base (first_lane wide size address) (part wide (wide_number narrow wide address number) xs))

-- digits on a bus
pub record AreOnBus (base narrow wide size address : ℕ) (xs : List ℕ) : Type 0 where
  pub base_positive : 0 < base
  pub are_digits : AreDigits base xs
  pub buses : AreBuses narrow wide
  pub aligned : address % bytes_of size ≡ 0
  pub few : length xs ≤ bytes_of size

-- both first lanes are 0 in a large message
pub large_lanes : (narrow wide size address times : ℕ) → narrow ≤ wide → 0 < times → bytes_of size ≡ wide * times → (first_lane narrow size address ≡ 0) × (first_lane wide size address ≡ 0)
large_lanes narrow wide size address times less some is =
    let fits : wide ≤ bytes_of size = omega (arith, is, times-le wide times some) in
    (first_large narrow size address (omega (arith, less, fits)), first_large wide size address fits)

-- the beats of a large message on the narrow bus
pub large_beats : (narrow wide size ratio times : ℕ) → wide ≡ ratio * narrow → 0 < narrow → 0 < ratio → 0 < times → bytes_of size ≡ wide * times → data_beats size narrow ≡ times * ratio
large_beats narrow wide size ratio times is positive some any total =
    beats_of_large narrow size (times * ratio) positive (some_product times ratio any some) (total ∙ ap (λ (k : ℕ). k * times) is ∙ turned ratio narrow times)
  where
    turned : (r n t : ℕ) → r * n * t ≡ n * (t * r)
    turned r n t = grind arith

    some_product : (a b : ℕ) → 0 < a → 0 < b → 0 < a * b
    some_product zero b h k = absurd (omega arith)
    some_product (suc a) zero h k = absurd (omega arith)
    some_product (suc a) (suc b) h k = omega arith

large_cut : (base narrow wide size address number : ℕ) (xs : List ℕ) (on : AreOnBus base narrow wide size address xs) (times : ℕ) → 0 < times → bytes_of size ≡ wide * times → number < data_beats size narrow
    → IsCutOut base narrow wide size address number xs
large_cut base narrow wide size address number xs on times some is below =
    let m : AreMultiples narrow wide = multiples narrow wide on.buses in
    let row : ℕ = number / m.ratio in
    let column : ℕ = number % m.ratio in
    let split : number / m.ratio * m.ratio + number % m.ratio ≡ number = div-add-mod' number m.ratio in
    let inside : number % m.ratio < m.ratio = mod_below number m.ratio m.some in
    let positive : 0 < wide = omega (arith, on.buses.less, m.positive) in
    let at : IsInRow narrow wide address (number / m.ratio) (number % m.ratio) m.ratio =
    in_row narrow wide address (number / m.ratio) (number % m.ratio) m.ratio m.is m.positive inside (aligned_wide wide size times address positive is on.aligned) in
    let narrow_beats : data_beats size narrow ≡ times * m.ratio = large_beats narrow wide size m.ratio times m.is m.positive m.some some is in
    let wide_beats : data_beats size wide ≡ times = beats_of_large wide size times positive some is in
    let few : number / m.ratio < times = div_below number m.ratio times m.some (omega (arith, below, narrow_beats)) in
    let digits_too : AreDigits base (part wide (number / m.ratio) xs) = part_digits base wide (number / m.ratio) xs on.base_positive on.are_digits in
    let lanes = large_lanes narrow wide size address times on.buses.less some is in
    let wide_is : wide_number narrow wide address number ≡ number / m.ratio = sym (ap (λ (k : ℕ). wide_number narrow wide address k) split) ∙ at.wide_is in
    let place_is : lane_in_wide narrow wide address number ≡ number % m.ratio * narrow = sym (ap (λ (k : ℕ). lane_in_wide narrow wide address k) split) ∙ at.place_is in
    record {
      wide_beat = omega (arith, wide_is, few, wide_beats);
      is =
          ap (λ (f : ℕ). on_lanes base f (part narrow number xs)) lanes.0 ∙ from_lane_0 base (part narrow number xs)
          ∙ sym (ap (λ (k : ℕ). of_digits base (part narrow k xs)) split)
          ∙ sym (ap (of_digits base) (ap (λ (w : ℕ). part narrow (number % m.ratio) (part w (number / m.ratio) xs)) m.is ∙ part-part narrow m.ratio (number / m.ratio) (number % m.ratio) xs inside))
          ∙ sym (block_digits base narrow (number % m.ratio) (part wide (number / m.ratio) xs) on.base_positive digits_too (drop_are_digits base (number % m.ratio * narrow) (part wide (number / m.ratio) xs) digits_too))
          ∙ sym (ap (λ (p : ℕ). of_digits base (part wide (number / m.ratio) xs) / base ^ p % base ^ narrow) place_is)
          ∙ sym (ap (λ (k : ℕ). lanes_at base narrow (lane_in_wide narrow wide address number) k) (from_lane_0 base (part wide (number / m.ratio) xs)))
          ∙ sym (ap (λ (f : ℕ). lanes_at base narrow (lane_in_wide narrow wide address number) (on_lanes base f (part wide (number / m.ratio) xs))) lanes.1)
          ∙ sym (ap (λ (k : ℕ). lanes_at base narrow (lane_in_wide narrow wide address number) (on_lanes base (first_lane wide size address) (part wide k xs))) wide_is);
    }

middle_cut : (base narrow wide size address number : ℕ) (xs : List ℕ) (on : AreOnBus base narrow wide size address xs) (times more : ℕ) → 0 < times → 0 < more → bytes_of size ≡ narrow * times → wide ≡ bytes_of size * more
    → bytes_of size < wide → number < data_beats size narrow → IsCutOut base narrow wide size address number xs
middle_cut base narrow wide size address number xs on times more some any fits is under below =
    let m : AreMultiples narrow wide = multiples narrow wide on.buses in
    let narrow_beats : data_beats size narrow ≡ times = beats_of_large narrow size times m.positive some fits in
    let wide_beats : data_beats size wide ≡ 1 = beats_of_small wide size under in
    let at : IsInOne narrow wide size address number = in_one narrow wide size address number times more m.positive any fits is on.aligned (omega (arith, below, narrow_beats)) in
    let whole : part wide 0 xs ≡ xs = part-first wide xs (omega (arith, on.few, under)) in
    let lane_narrow : first_lane narrow size address ≡ 0 = first_large narrow size address (omega (arith, fits, times-le narrow times some)) in
    let lane_wide : first_lane wide size address ≡ address % wide = first_small wide size address under in
    record {
      wide_beat = omega (arith, at.wide_is, wide_beats);
      is =
          ap (λ (f : ℕ). on_lanes base f (part narrow number xs)) lane_narrow ∙ from_lane_0 base (part narrow number xs)
          ∙ sym (block_digits base narrow number xs on.base_positive on.are_digits (drop_are_digits base (number * narrow) xs on.are_digits))
          ∙ sym (cut_moved base narrow (address % wide) (number * narrow) (of_digits base xs) on.base_positive)
          ∙ sym (ap (λ (p : ℕ). lanes_at base narrow p (on_lanes base (address % wide) xs)) at.place_is)
          ∙ sym (ap (λ (ys : List ℕ). lanes_at base narrow (lane_in_wide narrow wide address number) (on_lanes base (address % wide) ys)) whole)
          ∙ sym (ap (λ (f : ℕ). lanes_at base narrow (lane_in_wide narrow wide address number) (on_lanes base f (part wide 0 xs))) lane_wide)
          ∙ sym (ap (λ (k : ℕ). lanes_at base narrow (lane_in_wide narrow wide address number) (on_lanes base (first_lane wide size address) (part wide k xs))) at.wide_is);
    }

-- lanes that fit a bus are cut out whole
cut_whole : (base count first : ℕ) (place : ℕ) (xs : List ℕ) → 0 < base → AreDigits base xs → first + length xs ≤ count → lanes_at base count place (on_lanes base (place + first) xs) ≡ on_lanes base first xs
cut_whole base count first place xs b h fits =
    let below : on_lanes base first xs < base ^ (first + length xs) = on_lanes-lt base first xs b h in
    let within : base ^ (first + length xs) ≤ base ^ count = pow-le-pow_right b fits in
    let moved : on_lanes base (place + first) xs ≡ base ^ place * on_lanes base first xs = ap (λ (k : ℕ). k * of_digits base xs) (pow-add base place first) ∙ regroup (base ^ place) (base ^ first) (of_digits base xs) in
    ap (λ (k : ℕ). k / base ^ place % base ^ count) moved
    ∙ ap (λ (k : ℕ). k % base ^ count) (mul-div_cancel_left (on_lanes base first xs) (base_pos base place b))
    ∙ mod-eq_of_lt (omega (arith, below, within))
  where
    regroup : (a c n : ℕ) → a * c * n ≡ a * (c * n)
    regroup a c n = grind arith

small_cut : (base narrow wide size address number : ℕ) (xs : List ℕ) (on : AreOnBus base narrow wide size address xs) → bytes_of size < narrow → number < data_beats size narrow
    → IsCutOut base narrow wide size address number xs
small_cut base narrow wide size address number xs on under below =
    let m : AreMultiples narrow wide = multiples narrow wide on.buses in
    let narrow_beats : data_beats size narrow ≡ 1 = beats_of_small narrow size under in
    let wide_beats : data_beats size wide ≡ 1 = beats_of_small wide size (omega (arith, under, on.buses.less)) in
    let first : number ≡ 0 = omega (arith, below, narrow_beats) in
    let at : IsAlone narrow wide address number = alone narrow wide address number m.ratio m.positive m.some m.is first in
    let whole : part wide 0 xs ≡ xs = part-first wide xs (omega (arith, on.few, under, on.buses.less)) in
    let whole_too : part narrow 0 xs ≡ xs = part-first narrow xs (omega (arith, on.few, under)) in
    let lane_narrow : first_lane narrow size address ≡ address % narrow = first_small narrow size address under in
    let lane_wide : first_lane wide size address ≡ address % wide = first_small wide size address (omega (arith, under, on.buses.less)) in
    let inside : address % narrow + length xs ≤ narrow =
    omega (arith, on.few, lane_narrow, lanes_fit narrow size address (bus_of narrow on.buses.narrow_bus) on.aligned, under) in
    record {
      wide_beat = omega (arith, at.wide_is, wide_beats);
      is =
          ap (λ (f : ℕ). on_lanes base f (part narrow number xs)) lane_narrow
          ∙ ap (λ (k : ℕ). on_lanes base (address % narrow) (part narrow k xs)) first
          ∙ ap (on_lanes base (address % narrow)) whole_too
          ∙ sym (cut_whole base narrow (address % narrow) (address % wide / narrow * narrow) xs on.base_positive on.are_digits inside)
          ∙ ap (λ (f : ℕ). lanes_at base narrow (address % wide / narrow * narrow) (on_lanes base f xs)) at.lane
          ∙ sym (ap (λ (p : ℕ). lanes_at base narrow p (on_lanes base (address % wide) xs)) at.place_is)
          ∙ sym (ap (λ (ys : List ℕ). lanes_at base narrow (lane_in_wide narrow wide address number) (on_lanes base (address % wide) ys)) whole)
          ∙ sym (ap (λ (f : ℕ). lanes_at base narrow (lane_in_wide narrow wide address number) (on_lanes base f (part wide 0 xs))) lane_wide)
          ∙ sym (ap (λ (k : ℕ). lanes_at base narrow (lane_in_wide narrow wide address number) (on_lanes base (first_lane wide size address) (part wide k xs))) at.wide_is);
    }

pub cut_out : (base narrow wide size address number : ℕ) (xs : List ℕ) → AreOnBus base narrow wide size address xs → number < data_beats size narrow → IsCutOut base narrow wide size address number xs
cut_out base narrow wide size address number xs on below = elim (kind_of narrow wide size on.buses) [
  | large times some is ↦ large_cut base narrow wide size address number xs on times some is below
  | middle times more some any fits is under ↦ middle_cut base narrow wide size address number xs on times more some any fits is under below
  | small more any fits under ↦ small_cut base narrow wide size address number xs on under below
]

-- ---- messages

pub data_on_bus : (narrow wide : ℕ) (request : Request) → IsAsking narrow wide request → AreOnBus 256 narrow wide request.size request.address request.payload
data_on_bus narrow wide request asks = record {
  base_positive = lit< tt;
  are_digits = digits_from_bytes request.payload asks.whole.bytes;
  buses = asks.buses;
  aligned = asks.whole.shape.aligned;
  few = all_or_none _ _ _ asks.whole.shape.bytes;
}

pub flags_on_bus : (narrow wide : ℕ) (request : Request) → IsAsking narrow wide request → AreOnBus 2 narrow wide request.size request.address (map from_bool (flags_of request))
flags_on_bus narrow wide request asks = record {
  base_positive = lit< tt;
  are_digits = flag_bits (flags_of request);
  buses = asks.buses;
  aligned = asks.whole.shape.aligned;
  few = omega (arith, length-map (flags_of request) from_bool, flags_of-length request asks.whole.shape);
}

pub answer_on_bus : (narrow wide : ℕ) (request : Request) (response : Response) → IsTelling narrow wide request response → AreOnBus 256 narrow wide response.size request.address response.payload
answer_on_bus narrow wide request response tells = record {
  base_positive = lit< tt;
  are_digits = digits_from_bytes response.payload tells.whole.bytes;
  buses = tells.buses;
  aligned = ap (λ (size : ℕ). request.address % bytes_of size) tells.whole.answers.size ∙ tells.asked.shape.aligned;
  few = all_or_none _ _ _ tells.whole.answers.bytes;
}

mask_cut : (narrow wide : ℕ) (request : Request) (number : ℕ) → IsAsking narrow wide request → number < data_beats request.size narrow
    → (a_beat narrow request number).mask ≡ lanes_at 2 narrow (lane_in_wide narrow wide request.address number) (a_beat wide request (wide_number narrow wide request.address number)).mask
mask_cut narrow wide request number asks below =
    sym (ap (on_lanes 2 (first_lane narrow request.size request.address)) (map-part narrow number (flags_of request)))
    ∙ (cut_out 2 narrow wide request.size request.address number (map from_bool (flags_of request)) (flags_on_bus narrow wide request asks) below).is
    ∙ ap (λ (xs : List ℕ). lanes_at 2 narrow (lane_in_wide narrow wide request.address number) (on_lanes 2 (first_lane wide request.size request.address) xs)) (map-part wide (wide_number narrow wide request.address number) (flags_of request))

denied_cut : (denied : Bool) (base narrow place n m : ℕ) → 0 < base → n ≡ lanes_at base narrow place m → cond denied 0 n ≡ lanes_at base narrow place (cond denied 0 m)
denied_cut false base narrow place n m b e = e
denied_cut true base narrow place n m b e = sym (ap (λ (k : ℕ). k % base ^ narrow) (zero-div (base ^ place)) ∙ mod-eq_of_lt (base_pos base narrow b))

pub narrow_law : NarrowLaw
narrow_law = record {
  wide_beat = λ narrow wide request number asks below. (cut_out 256 narrow wide request.size request.address number request.payload (data_on_bus narrow wide request asks) below).wide_beat;
  mask = mask_cut;
  payload = λ narrow wide request number asks below. (cut_out 256 narrow wide request.size request.address number request.payload (data_on_bus narrow wide request asks) below).is;
  back = λ narrow wide request response number tells below.
      denied_cut response.denied 256 narrow (lane_in_wide narrow wide request.address number) _ _ (lit< tt)
      (cut_out 256 narrow wide response.size request.address number response.payload (answer_on_bus narrow wide request response tells) below).is;
}
