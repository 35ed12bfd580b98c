-- The active lanes of a message, and the part of it that a beat carries.
use Rattle.std.proofs.Common.{ℕ, zero, suc, ◌≡◌, ◌+◌, ◌*◌, ◌/◌, ◌%◌, ◌^◌, ◌-◌, ◌<◌, ◌≤◌, inl, inr, min, List, [], ◌∷◌, ◌++◌, append_assoc, length, take, drop, replicate, map, Bool, true, false, IsTrue, cond, nat_le, ◌==◌, ◌||◌, lit<, ap, sym, ◌∙◌, refl, arith, pow_pos}
use Rattle.std.specs.Int.{from_bool}
use Rattle.std.specs.List.{range_with_len}
use Rattle.std.proofs.Math.Nat.{pow-le-pow_right, mul-le-mul_left, mod-mod_of_dvd, dvd-mul_right, mul-div_cancel_left}
use Rattle.std.proofs.lemmas.Bool.{or_cases, eqb-true, cases_lt, le-leb, lt-leb, cond-true, cond-false}
use Rattle.std.proofs.lemmas.Nat.{pow-add, pow_below, div-add-mod', mod_below, div_below, row_fits}
use Rattle.std.proofs.lemmas.List.{length-take, length-drop, drop-replicate, take-replicate, take_all, length-replicate}
use Rattle.tl_params.specs.Arguments.{is_width}
use Rattle.tl_params.specs.declared.ops.Op.{Op}
use Rattle.tl_edge.specs.declared.message.Request.{Request}
use Rattle.tl_edge.specs.Messages.{bytes_of, has_data, has_flags}
use Rattle.tl_edge.specs.Beats.{first_lane, lane_count, data_beats, request_beats, part, on_lanes, on_bits, flags_of}

-- a bus has a power of two of lanes
pub record IsBus (width : ℕ) : Type 0 where
  pub exponent : ℕ
  pub power : width ≡ 2 ^ exponent
  pub small : width ≤ 8

bus_at : (width k : ℕ) → k ≤ 3 → width ≡ 2 ^ k → IsBus width
bus_at width k h e =
    let below : 2 ^ k ≤ 2 ^ 3 = pow-le-pow_right (lit< tt) h in
    record { exponent = k; power = e; small = omega arith }

pub bus_of : (width : ℕ) → IsTrue (is_width width) → IsBus width
bus_of w h =
    elim (or_cases (w == 1 || w == 2 || w == 4) (w == 8) h) [
      | inr eight ↦ bus_at w 3 (omega arith) (eqb-true w 8 eight)
      | inl rest ↦ elim (or_cases (w == 1 || w == 2) (w == 4) rest) [
        | inr four ↦ bus_at w 2 (omega arith) (eqb-true w 4 four)
        | inl less ↦ elim (or_cases (w == 1) (w == 2) less) [
          | inr two ↦ bus_at w 1 (omega arith) (eqb-true w 2 two)
          | inl one ↦ bus_at w 0 (omega arith) (eqb-true w 1 one)
        ]
      ]
    ]

pub bus_pos : (width : ℕ) → IsBus width → 0 < width
bus_pos width bus = omega (arith, bus.power, pow_pos bus.exponent)

-- of two powers of two the one is a multiple of the other
record IsMultiple (whole unit : ℕ) : Type 0 where
  pub times : ℕ
  pub is : whole ≡ unit * times
  pub some : 0 < times

multiple_of : (i j : ℕ) → i ≤ j → IsMultiple (2 ^ j) (2 ^ i)
multiple_of i j h = record {
  times = 2 ^ (j - i);
  is = ap (λ (n : ℕ). 2 ^ n) (omega arith) ∙ pow-add 2 i (j - i);
  some = pow_pos (j - i);
}

-- which of the two is the larger
pub data Compared (width size : ℕ) : Type 0 where
  larger : (times : ℕ) → 0 < times → bytes_of size ≡ width * times → Compared width size
  smaller : (times : ℕ) → 0 < times → width ≡ bytes_of size * times → bytes_of size < width → Compared width size

pub compared : (width size : ℕ) → IsBus width → Compared width size
compared width size bus =
    elim (cases_lt size bus.exponent) [
      | inl lt ↦
          let m = multiple_of size bus.exponent (omega arith) in
          let below : 2 ^ size < 2 ^ bus.exponent = pow_below size bus.exponent lt in
          smaller m.times m.some (bus.power ∙ m.is) (omega (arith, below, bus.power))
      | inr ge ↦
          let m = multiple_of bus.exponent size ge in
          larger m.times m.some (m.is ∙ ap (λ (n : ℕ). n * m.times) (sym bus.power))
    ]

-- ---- the first lane and the number of lanes, in the two cases

pub times-le : (unit times : ℕ) → 0 < times → unit ≤ unit * times
times-le unit times h = omega (arith, mul-le-mul_left unit (one h))
  where
    one : 0 < times → 1 ≤ times
    one p = omega arith

pub first_large : (width size address : ℕ) → width ≤ bytes_of size → first_lane width size address ≡ 0
first_large width size address h = cond-true (nat_le width (bytes_of size)) 0 (address % width) (le-leb width (bytes_of size) h)

pub first_small : (width size address : ℕ) → bytes_of size < width → first_lane width size address ≡ address % width
first_small width size address h = cond-false (nat_le width (bytes_of size)) 0 (address % width) (lt-leb width (bytes_of size) h)

pub mod-mul_first : (n unit times : ℕ) → n % (unit * times) % unit ≡ n % unit
mod-mul_first n unit times = mod-mod_of_dvd unit n (dvd-mul_right unit times)

-- an aligned message smaller than the bus doesn't pass its end
pub small_fits : (width unit times address : ℕ) → 0 < unit → 0 < times → width ≡ unit * times → address % unit ≡ 0 → address % width + unit ≤ width
small_fits width unit times address h t w a =
    let rest : ℕ = address % width in
    let divided : address % width % unit ≡ 0 = ap (λ (n : ℕ). address % n % unit) w ∙ mod-mul_first address unit times ∙ a in
    let whole : address % width ≡ address % width / unit * unit = omega (arith, div-add-mod' (address % width) unit, divided) in
    let below : address % width < width = mod_below address width (omega (arith, w, times-le unit times t)) in
    let fewer : address % width / unit < times = div_below (address % width) unit times h (omega (arith, below, w)) in
    omega (arith, whole, row_fits (address % width / unit) unit times unit fewer (omega arith), w)

pub lanes_fit : (width size address : ℕ) → IsBus width → address % bytes_of size ≡ 0 → first_lane width size address + lane_count width size ≤ width
lanes_fit width size address bus aligned =
    elim (compared width size bus) [
      | larger times some is ↦ omega (arith, first_large width size address (omega (arith, is, times-le width times some)))
      | smaller times some is below ↦ omega (arith, first_small width size address below, small_fits width (bytes_of size) times address (pow_pos size) some is aligned)
    ]

-- a message has none of something, or one for each of its bytes
pub all_or_none : (b : Bool) (n m : ℕ) → n ≡ cond b m 0 → n ≤ m
all_or_none true n m h = omega arith
all_or_none false n m h = omega arith

-- ---- what a beat carries of a list

pub part-length : {A : Type 0} (width size number : ℕ) (items : List A) → length items ≤ bytes_of size → length (part width number items) ≤ lane_count width size
part-length width size number items h = omega (arith, h, length-take width (drop (number * width) items), length-drop (number * width) items)

-- a beat of data within the message carries all active lanes
pub part_within : (width size number : ℕ) → IsBus width → number < data_beats size width → number * width + lane_count width size ≤ bytes_of size
part_within width size number bus h =
    elim (compared width size bus) [
      | larger times some is ↦
          let count : bytes_of size / width ≡ times = ap (λ (n : ℕ). n / width) is ∙ mul-div_cancel_left times (bus_pos width bus) in
          omega (arith, is, count, row_fits number width times width (omega (arith, h, count, some)) (omega arith))
      | smaller times some is below ↦
          let count : bytes_of size / width < 1 = div_below (bytes_of size) width 1 (bus_pos width bus) (omega arith) in
          let none : number ≡ 0 = omega (arith, h, count) in
          let first : number * width ≡ 0 = ap (λ (n : ℕ). n * width) none ∙ omega arith in
          omega (arith, first)
    ]

pub part_fits : {A : Type 0} (width size address number first : ℕ) (items whole : List A) → IsTrue (is_width width) → address % bytes_of size ≡ 0 → length whole ≤ bytes_of size
    → first ≡ first_lane width size address → items ≡ part width number whole → first + length items ≤ 8
part_fits width size address number first items whole is aligned few e p =
    let bus : IsBus width = bus_of width is in
    omega (arith, e, ap length p, part-length width size number whole few, lanes_fit width size address bus aligned, bus.small)

pub lanes_fit_word : (width size address first count : ℕ) → IsTrue (is_width width) → address % bytes_of size ≡ 0
    → first ≡ first_lane width size address → count ≡ lane_count width size → first + count ≤ 8
lanes_fit_word width size address first count is aligned e f =
    let bus : IsBus width = bus_of width is in omega (arith, e, f, lanes_fit width size address bus aligned, bus.small)

-- ---- lanes that are all set

pub take-replicate-min : {A : Type 0} (n m : ℕ) (y : A) → take n (replicate m y) ≡ replicate (min n m) y
take-replicate-min n m y =
    elim (cases_lt m n) [
      | inl lt ↦ take_all n (replicate m y) (omega (arith, length-replicate m y)) ∙ ap (λ (k : ℕ). replicate k y) (omega arith)
      | inr ge ↦ take-replicate n m y ge ∙ ap (λ (k : ℕ). replicate k y) (omega arith)
    ]

map-replicate-true : (n : ℕ) → map from_bool (replicate n true) ≡ replicate n 1
map-replicate-true zero = refl
map-replicate-true (suc n) = ap (λ (xs : List ℕ). 1 ∷ xs) (map-replicate-true n)

pub set_part : (width size number : ℕ) → number * width + lane_count width size ≤ bytes_of size → part width number (replicate (bytes_of size) true) ≡ replicate (lane_count width size) true
set_part width size number h =
    ap (λ (flags : List Bool). take width flags) (drop-replicate (number * width) (bytes_of size) true)
    ∙ take-replicate-min width (bytes_of size - number * width) true
    ∙ ap (λ (k : ℕ). replicate k true) (omega arith)

-- a beat without flags of its own marks all active lanes
pub all_marked : (width size number first : ℕ) → number * width + lane_count width size ≤ bytes_of size
    → on_lanes 2 first (replicate (lane_count width size) 1) ≡ on_bits first (part width number (replicate (bytes_of size) true))
all_marked width size number first h =
    ap (λ (xs : List ℕ). on_lanes 2 first xs) (sym (ap (λ (flags : List Bool). map from_bool flags) (set_part width size number h) ∙ map-replicate-true (lane_count width size)))

-- a beat within a request, with data or without
pub request_within : (op : Op) (width size number : ℕ) → IsTrue (is_width width) → number < request_beats op size width → number * width + lane_count width size ≤ bytes_of size
request_within op width size number is h = within (has_data op) h
  where
    within : (data_too : Bool) → number < cond data_too (data_beats size width) 1 → number * width + lane_count width size ≤ bytes_of size
    within true l = part_within width size number (bus_of width is) l
    within false l = let none : number ≡ 0 = omega arith in omega (arith, ap (λ (n : ℕ). n * width) none)

-- the mask of a request that has no flags of its own
pub mask_without_flags : (width number first count mask : ℕ) (request : Request) → IsTrue (is_width width) → number < request_beats request.op request.size width
    → has_flags request.op ≡ false → count ≡ lane_count width request.size → mask ≡ on_lanes 2 first (replicate count 1)
    → mask ≡ on_bits first (part width number (flags_of request))
mask_without_flags width number first count mask request is h none c m =
    m ∙ ap (λ (n : ℕ). on_lanes 2 first (replicate n 1)) c
    ∙ all_marked width request.size number first (request_within request.op width request.size number is h)
    ∙ ap (λ (flags : List Bool). on_bits first (part width number flags)) (sym (cond-false (has_flags request.op) request.mask (replicate (bytes_of request.size) true) none))

-- ---- a loop over beats

pub beats_step : {A : Type 0} (f : ℕ → A) (list pushed : List A) (item : A) (number end : ℕ) (all : List A) → number < end → item ≡ f number → pushed ≡ list ++ item ∷ []
    → list ++ map f (range_with_len number (end - number)) ≡ all → pushed ++ map f (range_with_len (number + 1) (end - (number + 1))) ≡ all
beats_step {A = A} f list pushed item number end all h i p e =
    let rest : List A = map f (range_with_len (number + 1) (end - (number + 1))) in
    let more : end - number ≡ suc (end - (number + 1)) = omega arith in
    ap (λ (xs : List A). xs ++ rest) (p ∙ ap (λ (x : A). list ++ x ∷ []) i)
    ∙ append_assoc list (f number ∷ []) rest
    ∙ sym (ap (λ (left : ℕ). list ++ map f (range_with_len number left)) more) ∙ e
