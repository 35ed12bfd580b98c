-- Wide beats put together from narrow ones.
use Rattle.std.proofs.Common.{ℕ, zero, suc, ◌≡◌, ◌+◌, ◌*◌, ◌/◌, ◌%◌, ◌^◌, ◌<◌, ◌≤◌, inl, inr, List, length, drop, map, Bool, true, false, cond, ap, sym, ◌∙◌, refl, subst, arith}
use Rattle.std.specs.Prelude.{◌↔◌}
use Rattle.std.specs.Int.{from_bool}
use Rattle.std.proofs.Math.Nat.{pow-zero, mod-add-mod, mod-eq_of_lt, mul-mod_left}
use Rattle.std.proofs.lemmas.Bool.{cases_lt}
use Rattle.std.proofs.lemmas.Nat.{pow-add, row_fits, div-add-mod', mod_below, mod-mul-add}
use Rattle.std.proofs.lemmas.List.{take_all, length-take}
use Rattle.tl_edge.specs.declared.message.Request.{Request}
use Rattle.tl_edge.specs.Messages.{bytes_of}
use Rattle.tl_edge.specs.Beats.{of_digits, on_lanes, first_lane, data_beats, part, flags_of, a_beat}
use Rattle.tl_edge.proofs.Active.{first_large, first_small, times-le}
use Rattle.tl_edge.proofs.LaneByLane.{map-part}
use Rattle.tl_pieces.specs.TwoBuses.{IsAsking, lane_in_wide, wide_number, first_narrow, narrow_count, gathered, EndsWide, WideLaw, LastLaw}
use Rattle.tl_pieces.proofs.Parts.{part-part}
use Rattle.tl_pieces.proofs.Blocks.{blocks, same_gathered}
use Rattle.tl_pieces.proofs.Placing.{AreMultiples, multiples, large, middle, small, kind_of, beats_of_large, beats_of_small, IsInRow, in_row, aligned_wide, IsInOne, in_one, IsAlone, alone, column_fits}
use Rattle.tl_pieces.proofs.Narrowing.{from_lane_0, part-first, AreOnBus, large_lanes, large_beats, data_on_bus, flags_on_bus, answer_on_bus}

-- how many narrow beats lie in each wide one
pub large_count : (narrow wide size ratio times : ℕ) → wide / narrow ≡ ratio → data_beats size narrow ≡ times * ratio → 0 < times → narrow_count narrow wide size ≡ ratio
large_count narrow wide size ratio times is beats some =
    let few : ratio ≤ times * ratio = at_least times ratio some in omega (arith, is, beats, few)
  where
    at_least : (t r : ℕ) → 0 < t → r ≤ t * r
    at_least zero r h = absurd (omega arith)
    at_least (suc t) r h = omega arith

pub middle_count : (narrow wide size ratio times : ℕ) → wide / narrow ≡ ratio → wide ≡ ratio * narrow → bytes_of size ≡ narrow * times → bytes_of size < wide → data_beats size narrow ≡ times → narrow_count narrow wide size ≡ times
middle_count narrow wide size ratio times is whole fits under beats =
    elim (cases_lt ratio times) [
      | inl fewer ↦ absurd (omega (arith, under, whole, fits, turned narrow times, row_fits ratio narrow times narrow fewer (omega arith)))
      | inr enough ↦ omega (arith, is, beats, enough)
    ]
  where
    turned : (a b : ℕ) → a * b ≡ b * a
    turned a b = grind arith

pub small_count : (narrow wide size ratio : ℕ) → wide / narrow ≡ ratio → 0 < ratio → data_beats size narrow ≡ 1 → narrow_count narrow wide size ≡ 1
small_count narrow wide size ratio is some beats = omega (arith, is, some, beats)

-- ---- what is said of one list, whatever the base

-- the narrow beats of a list
abbrev pub narrow_beats_of : ℕ → ℕ → ℕ → ℕ → List ℕ → ℕ → ℕ
narrow_beats_of base narrow size address xs k = on_lanes base (first_lane narrow size address) (part narrow k xs)

abbrev pub Gathers : ℕ → ℕ → ℕ → ℕ → ℕ → ℕ → List ℕ → Type 0
Gathers base narrow wide size address number xs =
    on_lanes base (first_lane wide size address) (part wide number xs)
    ≡ gathered base (lane_in_wide narrow wide address) (narrow_beats_of base narrow size address xs) (first_narrow narrow wide number) (narrow_count narrow wide size)

-- a sum that is moved by nothing
unmoved : (base n : ℕ) → n * base ^ 0 ≡ n
unmoved base n = ap (λ (k : ℕ). n * k) (pow-zero base) ∙ omega arith

large_gathers : (base narrow wide size address number : ℕ) (xs : List ℕ) (on : AreOnBus base narrow wide size address xs) (times : ℕ) → 0 < times → bytes_of size ≡ wide * times → Gathers base narrow wide size address number xs
large_gathers base narrow wide size address number xs on times some is =
    let m : AreMultiples narrow wide = multiples narrow wide on.buses in
    let lanes = large_lanes narrow wide size address times on.buses.less some is in
    let positive : 0 < wide = omega (arith, on.buses.less, m.positive) in
    let aligned : address % wide ≡ 0 = aligned_wide wide size times address positive is on.aligned in
    let count : narrow_count narrow wide size ≡ m.ratio = large_count narrow wide size m.ratio times m.is_ratio (large_beats narrow wide size m.ratio times m.is m.positive m.some some is) some in
    let first : first_narrow narrow wide number ≡ number * m.ratio = ap (λ (r : ℕ). number * r) m.is_ratio in
    let short : length (part wide number xs) ≤ m.ratio * narrow = omega (arith, length-take wide (drop (number * wide) xs), m.is) in
    let nothing : (i : ℕ) → 0 + i ≡ i = λ i. omega arith in
    let places : (i : ℕ) → i < m.ratio → lane_in_wide narrow wide address (number * m.ratio + i) ≡ (0 + i) * narrow + 0 =
    λ i inside. (in_row narrow wide address number i m.ratio m.is m.positive inside aligned).place_is ∙ omega arith in
    let values : (i : ℕ) → i < m.ratio → narrow_beats_of base narrow size address xs (number * m.ratio + i) ≡ of_digits base (part narrow (0 + i) (part wide number xs)) =
    λ i inside.
    ap (λ (f : ℕ). on_lanes base f (part narrow (number * m.ratio + i) xs)) lanes.0 ∙ from_lane_0 base (part narrow (number * m.ratio + i) xs)
    ∙ sym (ap (of_digits base) (ap (λ (w : ℕ). part narrow i (part w number xs)) m.is ∙ part-part narrow m.ratio number i xs inside))
    ∙ sym (ap (λ (k : ℕ). of_digits base (part narrow k (part wide number xs))) (nothing i)) in
    ap (λ (f : ℕ). on_lanes base f (part wide number xs)) lanes.1 ∙ from_lane_0 base (part wide number xs)
    ∙ sym (ap (of_digits base) (take_all (m.ratio * narrow) (part wide number xs) short))
    ∙ blocks base narrow m.ratio (part wide number xs)
    ∙ sym (unmoved base (gathered base (λ k. k * narrow) (λ k. of_digits base (part narrow k (part wide number xs))) 0 m.ratio))
    ∙ sym (same_gathered base (lane_in_wide narrow wide address) (λ k. k * narrow) (narrow_beats_of base narrow size address xs) (λ k. of_digits base (part narrow k (part wide number xs))) (number * m.ratio) 0 m.ratio 0 places values)
    ∙ sym (ap (λ (f : ℕ). gathered base (lane_in_wide narrow wide address) (narrow_beats_of base narrow size address xs) f m.ratio) first)
    ∙ sym (ap (gathered base (lane_in_wide narrow wide address) (narrow_beats_of base narrow size address xs) (first_narrow narrow wide number)) count)

middle_gathers : (base narrow wide size address number : ℕ) (xs : List ℕ) (on : AreOnBus base narrow wide size address xs) (times more : ℕ) → 0 < times → 0 < more → bytes_of size ≡ narrow * times → wide ≡ bytes_of size * more
    → bytes_of size < wide → number < data_beats size wide → Gathers base narrow wide size address number xs
middle_gathers base narrow wide size address number xs on times more some any fits is under below =
    let m : AreMultiples narrow wide = multiples narrow wide on.buses in
    let beats : data_beats size narrow ≡ times = beats_of_large narrow size times m.positive some fits in
    let only : number ≡ 0 = omega (arith, below, beats_of_small wide size under) in
    let whole : part wide 0 xs ≡ xs = part-first wide xs (omega (arith, on.few, under)) in
    let lane_narrow : first_lane narrow size address ≡ 0 = first_large narrow size address (omega (arith, fits, times-le narrow times some)) in
    let lane_wide : first_lane wide size address ≡ address % wide = first_small wide size address under in
    let count : narrow_count narrow wide size ≡ times = middle_count narrow wide size m.ratio times m.is_ratio m.is fits under beats in
    let first : first_narrow narrow wide number ≡ 0 = ap (λ (k : ℕ). k * (wide / narrow)) only ∙ omega arith in
    let short : length xs ≤ times * narrow = omega (arith, on.few, fits, turned narrow times) in
    let nothing : (i : ℕ) → 0 + i ≡ i = λ i. omega arith in
    let places : (i : ℕ) → i < times → lane_in_wide narrow wide address (0 + i) ≡ (0 + i) * narrow + address % wide =
    λ i inside.
    ap (λ (k : ℕ). lane_in_wide narrow wide address k) (nothing i) ∙ (in_one narrow wide size address i times more m.positive any fits is on.aligned inside).place_is ∙ omega arith in
    let values : (i : ℕ) → i < times → narrow_beats_of base narrow size address xs (0 + i) ≡ of_digits base (part narrow (0 + i) xs) =
    λ i inside. ap (λ (f : ℕ). on_lanes base f (part narrow (0 + i) xs)) lane_narrow ∙ from_lane_0 base (part narrow (0 + i) xs) in
    ap (λ (k : ℕ). on_lanes base (first_lane wide size address) (part wide k xs)) only
    ∙ ap (on_lanes base (first_lane wide size address)) whole
    ∙ ap (λ (f : ℕ). on_lanes base f xs) lane_wide
    ∙ ap (λ (ys : List ℕ). base ^ (address % wide) * of_digits base ys) (sym (take_all (times * narrow) xs short))
    ∙ ap (λ (n : ℕ). base ^ (address % wide) * n) (blocks base narrow times xs)
    ∙ turned (base ^ (address % wide)) (gathered base (λ k. k * narrow) (λ k. of_digits base (part narrow k xs)) 0 times)
    ∙ sym (same_gathered base (lane_in_wide narrow wide address) (λ k. k * narrow) (narrow_beats_of base narrow size address xs) (λ k. of_digits base (part narrow k xs)) 0 0 times (address % wide) places values)
    ∙ sym (ap (λ (f : ℕ). gathered base (lane_in_wide narrow wide address) (narrow_beats_of base narrow size address xs) f times) first)
    ∙ sym (ap (gathered base (lane_in_wide narrow wide address) (narrow_beats_of base narrow size address xs) (first_narrow narrow wide number)) count)
  where
    turned : (a b : ℕ) → a * b ≡ b * a
    turned a b = grind arith

small_gathers : (base narrow wide size address number : ℕ) (xs : List ℕ) (on : AreOnBus base narrow wide size address xs) → bytes_of size < narrow → number < data_beats size wide → Gathers base narrow wide size address number xs
small_gathers base narrow wide size address number xs on under below =
    let m : AreMultiples narrow wide = multiples narrow wide on.buses in
    let only : number ≡ 0 = omega (arith, below, beats_of_small wide size (omega (arith, under, on.buses.less))) in
    let at : IsAlone narrow wide address 0 = alone narrow wide address 0 m.ratio m.positive m.some m.is refl in
    let whole : part wide 0 xs ≡ xs = part-first wide xs (omega (arith, on.few, under, on.buses.less)) in
    let whole_too : part narrow 0 xs ≡ xs = part-first narrow xs (omega (arith, on.few, under)) in
    let lane_narrow : first_lane narrow size address ≡ address % narrow = first_small narrow size address under in
    let lane_wide : first_lane wide size address ≡ address % wide = first_small wide size address (omega (arith, under, on.buses.less)) in
    let count : narrow_count narrow wide size ≡ 1 = small_count narrow wide size m.ratio m.is_ratio m.some (beats_of_small narrow size under) in
    let first : first_narrow narrow wide number ≡ 0 = ap (λ (k : ℕ). k * (wide / narrow)) only ∙ omega arith in
    let beat : narrow_beats_of base narrow size address xs 0 ≡ on_lanes base (address % narrow) xs = ap (λ (f : ℕ). on_lanes base f (part narrow 0 xs)) lane_narrow ∙ ap (on_lanes base (address % narrow)) whole_too in
    ap (λ (k : ℕ). on_lanes base (first_lane wide size address) (part wide k xs)) only
    ∙ ap (on_lanes base (first_lane wide size address)) whole
    ∙ ap (λ (f : ℕ). on_lanes base f xs) (lane_wide ∙ sym at.lane)
    ∙ ap (λ (k : ℕ). k * of_digits base xs) (pow-add base (address % wide / narrow * narrow) (address % narrow))
    ∙ regroup (base ^ (address % wide / narrow * narrow)) (base ^ (address % narrow)) (of_digits base xs)
    ∙ sym (ap (λ (n : ℕ). 0 + n * base ^ (address % wide / narrow * narrow)) beat)
    ∙ sym (ap (λ (p : ℕ). 0 + narrow_beats_of base narrow size address xs 0 * base ^ p) at.place_is)
    ∙ sym (ap (λ (f : ℕ). gathered base (lane_in_wide narrow wide address) (narrow_beats_of base narrow size address xs) f 1) first)
    ∙ sym (ap (gathered base (lane_in_wide narrow wide address) (narrow_beats_of base narrow size address xs) (first_narrow narrow wide number)) count)
  where
    regroup : (a c n : ℕ) → a * c * n ≡ 0 + c * n * a
    regroup a c n = grind arith

pub gathers : (base narrow wide size address number : ℕ) (xs : List ℕ) → AreOnBus base narrow wide size address xs → number < data_beats size wide → Gathers base narrow wide size address number xs
gathers base narrow wide size address number xs on below = elim (kind_of narrow wide size on.buses) [
  | large times some is ↦ large_gathers base narrow wide size address number xs on times some is
  | middle times more some any fits is under ↦ middle_gathers base narrow wide size address number xs on times more some any fits is under below
  | small more any fits under ↦ small_gathers base narrow wide size address number xs on under below
]

-- ---- messages

same_values : (base : ℕ) (place value other : ℕ → ℕ) (first count : ℕ) → ((k : ℕ) → value k ≡ other k) → gathered base place value first count ≡ gathered base place other first count
same_values base place value other first zero e = refl
same_values base place value other first (suc count) e =
    ap (λ (n : ℕ). n + value (first + count) * base ^ place (first + count)) (same_values base place value other first count e)
    ∙ ap (λ (n : ℕ). gathered base place other first count + n * base ^ place (first + count)) (e (first + count))

mask_gathers : (narrow wide : ℕ) (request : Request) (number : ℕ) → IsAsking narrow wide request → number < data_beats request.size wide
    → (a_beat wide request number).mask ≡ gathered 2 (lane_in_wide narrow wide request.address) (λ k. (a_beat narrow request k).mask) (first_narrow narrow wide number) (narrow_count narrow wide request.size)
mask_gathers narrow wide request number asks below =
    sym (ap (on_lanes 2 (first_lane wide request.size request.address)) (map-part wide number (flags_of request)))
    ∙ gathers 2 narrow wide request.size request.address number (map from_bool (flags_of request)) (flags_on_bus narrow wide request asks) below
    ∙ same_values 2 (lane_in_wide narrow wide request.address) (narrow_beats_of 2 narrow request.size request.address (map from_bool (flags_of request))) (λ k. (a_beat narrow request k).mask)
    (first_narrow narrow wide number) (narrow_count narrow wide request.size)
    (λ k. ap (on_lanes 2 (first_lane narrow request.size request.address)) (map-part narrow k (flags_of request)))

-- where a response is denied all are 0
no_sum : (base : ℕ) (place : ℕ → ℕ) (first count : ℕ) → gathered base place (λ k. 0) first count ≡ 0
no_sum base place first zero = refl
no_sum base place first (suc count) = ap (λ (n : ℕ). n + 0 * base ^ place (first + count)) (no_sum base place first count) ∙ omega arith

denied_gathers : (denied : Bool) (base : ℕ) (place value : ℕ → ℕ) (first count n : ℕ) → n ≡ gathered base place value first count → cond denied 0 n ≡ gathered base place (λ k. cond denied 0 (value k)) first count
denied_gathers false base place value first count n e = e
denied_gathers true base place value first count n e = sym (no_sum base place first count)

pub wide_law : WideLaw
wide_law = record {
  mask = mask_gathers;
  payload = λ narrow wide request number asks below. gathers 256 narrow wide request.size request.address number request.payload (data_on_bus narrow wide request asks) below;
  back = λ narrow wide request response number tells below.
      denied_gathers response.denied 256 (lane_in_wide narrow wide request.address) (narrow_beats_of 256 narrow response.size request.address response.payload) (first_narrow narrow wide number)
      (narrow_count narrow wide response.size) _ (gathers 256 narrow wide response.size request.address number response.payload (answer_on_bus narrow wide request response tells) below);
}

-- ---- the last narrow beat of a wide one

-- a row that isn't filled doesn't end at a multiple
not_multiple : (rows unit wide : ℕ) → 0 < unit → unit < wide → (rows * wide + unit) % wide ≡ 0 → ⊥
not_multiple rows unit wide some below h = omega (arith, some, h, mod-mul-add rows wide unit below)

large_ends : (narrow wide size address row column ratio times : ℕ) → wide ≡ ratio * narrow → 0 < narrow → column < ratio → address % wide ≡ 0 → data_beats size narrow ≡ times * ratio
    → EndsWide narrow wide size address (row * ratio + column) → column + 1 ≡ ratio
large_ends narrow wide size address row column ratio times is positive inside aligned beats ends =
    elim (cases_lt (column + 1) ratio) [
      | inr full ↦ omega (arith, full, inside)
      | inl more ↦ elim ends [
        | inl last ↦
            let whole : row * ratio + (column + 1) ≡ times * ratio = omega (arith, last, beats) in
            absurd (not_multiple row (column + 1) ratio (omega arith) more (ap (λ (k : ℕ). k % ratio) whole ∙ mul-mod_left times ratio))
        | inr multiple ↦
            let next : row * ratio + column + 1 ≡ row * ratio + (column + 1) = omega arith in
            let at : IsInRow narrow wide address row (column + 1) ratio = in_row narrow wide address row (column + 1) ratio is positive more aligned in
            let fits : (column + 1) * narrow < wide = column_fits (column + 1) ratio narrow wide more is positive in
            absurd (not_multiple (address / wide + row) ((column + 1) * narrow) wide (omega (arith, positive)) fits
            (sym (ap (λ (k : ℕ). k % wide) at.bytes) ∙ sym (ap (λ (k : ℕ). (address + k * narrow) % wide) next) ∙ multiple))
      ]
    ]

large_ends_back : (narrow wide size address row column ratio : ℕ) → wide ≡ ratio * narrow → 0 < narrow → 0 < wide → address % wide ≡ 0 → column + 1 ≡ ratio → EndsWide narrow wide size address (row * ratio + column)
large_ends_back narrow wide size address row column ratio is positive some aligned full =
    let start : address / wide * wide ≡ address = omega (arith, div-add-mod' address wide, aligned) in
    let count : row * ratio + column + 1 ≡ (row + 1) * ratio = omega (arith, full) in
    let bytes : address + (row * ratio + column + 1) * narrow ≡ (address / wide + (row + 1)) * wide =
    ap (λ (k : ℕ). address + k * narrow) count ∙ ap (λ (k : ℕ). k + (row + 1) * ratio * narrow) (sym start) ∙ joined (address / wide) (row + 1) ratio narrow wide is in
    inr (ap (λ (k : ℕ). k % wide) bytes ∙ mul-mod_left (address / wide + (row + 1)) wide)
  where
    spread : (a b w : ℕ) → a * w + b * w ≡ (a + b) * w
    spread a b w = grind arith

    regroup : (b r n : ℕ) → b * r * n ≡ b * (r * n)
    regroup b r n = grind arith

    joined : (a b r n w : ℕ) → w ≡ r * n → a * w + b * r * n ≡ (a + b) * w
    joined a b r n w e = ap (λ (k : ℕ). a * w + k) (regroup b r n ∙ ap (λ (k : ℕ). b * k) (sym e)) ∙ spread a b w

middle_ends : (narrow wide size address number times more : ℕ) → 0 < narrow → 0 < more → bytes_of size ≡ narrow * times → wide ≡ bytes_of size * more → address % bytes_of size ≡ 0 → number < times
    → data_beats size narrow ≡ times → EndsWide narrow wide size address number → number + 1 ≡ times
middle_ends narrow wide size address number times more positive any fits is aligned below beats ends =
    elim (cases_lt (number + 1) times) [
      | inr full ↦ omega (arith, full, below)
      | inl fewer ↦ elim ends [
        | inl last ↦ last ∙ beats
        | inr multiple ↦
            let at : IsInOne narrow wide size address (number + 1) = in_one narrow wide size address (number + 1) times more positive any fits is aligned fewer in
            let inner : (number + 1) * narrow + narrow ≤ bytes_of size = omega (arith, fits, turned narrow times, row_fits (number + 1) narrow times narrow fewer (omega arith)) in
            let within : address % wide + (number + 1) * narrow < wide = omega (arith, at.end, inner, positive) in
            let rest : address % wide + (number + 1) * narrow ≡ 0 = sym (sym (mod-add-mod address wide ((number + 1) * narrow)) ∙ mod-eq_of_lt within) ∙ multiple in
            absurd (omega (arith, rest, positive))
      ]
    ]
  where
    turned : (a b : ℕ) → a * b ≡ b * a
    turned a b = grind arith

-- from a number to its row and column
large_both : (narrow wide size address number ratio times : ℕ) → wide ≡ ratio * narrow → 0 < narrow → 0 < ratio → 0 < wide → address % wide ≡ 0 → data_beats size narrow ≡ times * ratio
    → EndsWide narrow wide size address number ↔ (number + 1 ≡ wide_number narrow wide address number * ratio + ratio)
large_both narrow wide size address number ratio times is positive some any aligned beats =
    let split : number / ratio * ratio + number % ratio ≡ number = div-add-mod' number ratio in
    let inside : number % ratio < ratio = mod_below number ratio some in
    let at : IsInRow narrow wide address (number / ratio) (number % ratio) ratio = in_row narrow wide address (number / ratio) (number % ratio) ratio is positive inside aligned in
    let row : wide_number narrow wide address number ≡ number / ratio = sym (ap (λ (k : ℕ). wide_number narrow wide address k) split) ∙ at.wide_is in
    let moved : wide_number narrow wide address number * ratio ≡ number / ratio * ratio = ap (λ (k : ℕ). k * ratio) row in (
      λ ends.
          let full : number % ratio + 1 ≡ ratio =
          large_ends narrow wide size address (number / ratio) (number % ratio) ratio times is positive inside aligned beats (subst (λ (k : ℕ). EndsWide narrow wide size address k) (sym split) ends) in
          omega (arith, split, full, moved),
      λ last.
          let full : number % ratio + 1 ≡ ratio = omega (arith, split, last, moved) in
          subst (λ (k : ℕ). EndsWide narrow wide size address k) split (large_ends_back narrow wide size address (number / ratio) (number % ratio) ratio is positive any aligned full),
    )

pub last_law : LastLaw
last_law narrow wide request number asks below = elim (kind_of narrow wide request.size asks.buses) [
  | large times some is ↦
      let m : AreMultiples narrow wide = multiples narrow wide asks.buses in
      let any : 0 < wide = omega (arith, asks.buses.less, m.positive) in
      let beats : data_beats request.size narrow ≡ times * m.ratio = large_beats narrow wide request.size m.ratio times m.is m.positive m.some some is in
      let count : narrow_count narrow wide request.size ≡ m.ratio = large_count narrow wide request.size m.ratio times m.is_ratio beats some in
      let first : first_narrow narrow wide (wide_number narrow wide request.address number) ≡ wide_number narrow wide request.address number * m.ratio = ap (λ (r : ℕ). wide_number narrow wide request.address number * r) m.is_ratio in
      let both = large_both narrow wide request.size request.address number m.ratio times m.is m.positive m.some any (aligned_wide wide request.size times request.address any is asks.whole.shape.aligned) beats in
      (λ ends. omega (arith, both.0 ends, first, count), λ last. both.1 (omega (arith, last, first, count)))
  | middle times more some any fits is under ↦
      let m : AreMultiples narrow wide = multiples narrow wide asks.buses in
      let beats : data_beats request.size narrow ≡ times = beats_of_large narrow request.size times m.positive some fits in
      let within : number < times = omega (arith, below, beats) in
      let at : IsInOne narrow wide request.size request.address number = in_one narrow wide request.size request.address number times more m.positive any fits is asks.whole.shape.aligned within in
      let count : narrow_count narrow wide request.size ≡ times = middle_count narrow wide request.size m.ratio times m.is_ratio m.is fits under beats in
      let first : first_narrow narrow wide (wide_number narrow wide request.address number) ≡ 0 = ap (λ (k : ℕ). k * (wide / narrow)) at.wide_is ∙ omega arith in (
        λ ends. omega (arith, middle_ends narrow wide request.size request.address number times more m.positive any fits is asks.whole.shape.aligned within beats ends, first, count),
        λ last. inl (omega (arith, last, first, count, beats)),
      )
  | small more any fits under ↦
      let m : AreMultiples narrow wide = multiples narrow wide asks.buses in
      let beats : data_beats request.size narrow ≡ 1 = beats_of_small narrow request.size under in
      let zero_too : number ≡ 0 = omega (arith, below, beats) in
      let at : IsAlone narrow wide request.address number = alone narrow wide request.address number m.ratio m.positive m.some m.is zero_too in
      let count : narrow_count narrow wide request.size ≡ 1 = small_count narrow wide request.size m.ratio m.is_ratio m.some beats in
      let first : first_narrow narrow wide (wide_number narrow wide request.address number) ≡ 0 = ap (λ (k : ℕ). k * (wide / narrow)) at.wide_is ∙ omega arith in
      (λ ends. omega (arith, zero_too, first, count), λ last. inl (omega (arith, zero_too, beats)))
]
