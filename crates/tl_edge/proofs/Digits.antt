-- Numbers by their digits, on the lanes of a bus.
use Rattle.std.proofs.Common.{ℕ, zero, suc, ◌≡◌, ◌+◌, ◌*◌, ◌^◌, ◌-◌, ◌%◌, ◌<◌, ◌≤◌, List, [], ◌∷◌, length, get_or, drop, replicate, map, Bool, true, false, Fits, w8, lit<, ap, ◌∙◌, refl, arith, pow-suc, add-one}
use Rattle.std.proofs.Math.Nat.{mul-le-mul_left, pow-le-pow_right, one-le-pow}
use Rattle.std.proofs.lemmas.Nat.{pow-add, shl_whole}
use Rattle.std.proofs.lemmas.List.{drop_more, length-map}
use Rattle.std.specs.List.{drop-map}
use Rattle.std.specs.Int.{from_bool}
use Rattle.tl_edge.specs.Beats.{of_digits, on_lanes, on_bits}

-- each digit is below the base
abbrev pub AreDigits : ℕ → List ℕ → Type 0
AreDigits base digits = (i : ℕ) → get_or digits i 0 < base

pub of_digits-lt : (base : ℕ) (xs : List ℕ) → 0 < base → AreDigits base xs → of_digits base xs < base ^ length xs
of_digits-lt base [] b h = lit_one
  where
    lit_one : 0 < base ^ 0
    lit_one = omega (arith, one-le-pow 0 base b)
of_digits-lt base (x ∷ xs) b h =
    let rest : of_digits base xs + 1 ≤ base ^ length xs = omega (arith, of_digits-lt base xs b (λ i. h (suc i))) in
    let first : x < base = h 0 in
    omega (arith, first, mul-le-mul_left base rest, pow-suc base (length xs))

-- one lane more
pub on_lanes-cons : (base first x : ℕ) (xs : List ℕ) → on_lanes base first (x ∷ xs) ≡ x * base ^ first + on_lanes base (first + 1) xs
on_lanes-cons base first x xs = rw (add-one first, pow-suc base first) (grind arith)

pub on_lanes-lt : (base first : ℕ) (xs : List ℕ) → 0 < base → AreDigits base xs → on_lanes base first xs < base ^ (first + length xs)
on_lanes-lt base first xs b h =
    let some : 0 < base ^ first = omega (arith, one-le-pow first base b) in
    let below : of_digits base xs + 1 ≤ base ^ length xs = omega (arith, of_digits-lt base xs b h) in
    rw (pow-add base first (length xs)) (omega (arith, some, mul-le-mul_left (base ^ first) below))

-- a loop over lanes: what is done, and what is left
pub lanes_step : (base first place lanes total : ℕ) (xs : List ℕ) → place < length xs
    → lanes + on_lanes base (first + place) (drop place xs) ≡ total
    → lanes + get_or xs place 0 * base ^ (first + place) + on_lanes base (first + (place + 1)) (drop (place + 1) xs) ≡ total
lanes_step base first place lanes total xs h e =
    let shown : on_lanes base (first + place) (drop place xs) ≡ get_or xs place 0 * base ^ (first + place) + on_lanes base (first + place + 1) (drop (place + 1) xs) =
    ap (λ (l : List ℕ). on_lanes base (first + place) l) (drop_more xs place 0 h) ∙ on_lanes-cons base (first + place) (get_or xs place 0) (drop (place + 1) xs) in
    let same : on_lanes base (first + (place + 1)) (drop (place + 1) xs) ≡ on_lanes base (first + place + 1) (drop (place + 1) xs) =
    ap (λ (n : ℕ). on_lanes base n (drop (place + 1) xs)) (omega arith) in
    omega (arith, e, shown, same)

-- ---- bytes and bits

pub byte_shift : (k : ℕ) → 2 ^ (8 * k) ≡ 256 ^ k
byte_shift zero = refl
byte_shift (suc k) = ap (λ (n : ℕ). 2 ^ n) (omega arith) ∙ pow-add 2 8 (8 * k) ∙ ap (λ (n : ℕ). 256 * n) (byte_shift k) ∙ omega (arith, pow-suc 256 k)

-- a byte moved to its lane
pub byte_on_lane : (x k : ℕ) → x < 256 → k < 8 → x * 2 ^ (8 * k) % 2 ^ 64 ≡ x * 256 ^ k
byte_on_lane x k h l = shl_whole x 8 (8 * k) 64 h (omega arith) ∙ ap (λ (n : ℕ). x * n) (byte_shift k)

-- a flag moved to its lane
pub bit_on_lane : (x k : ℕ) → x < 2 → k < 8 → x * 2 ^ k % 2 ^ 64 ≡ x * 2 ^ k
bit_on_lane x k h l = shl_whole x 1 k 64 h (omega arith)

pub flag_bits : (flags : List Bool) → AreDigits 2 (map from_bool flags)
flag_bits [] i = lit< tt
flag_bits (true ∷ flags) zero = lit< tt
flag_bits (false ∷ flags) zero = lit< tt
flag_bits (flag ∷ flags) (suc i) = flag_bits flags i

get_or-map_at : (flags : List Bool) (place : ℕ) → place < length flags → from_bool (get_or flags place false) ≡ get_or (map from_bool flags) place 0
get_or-map_at [] place h = absurd (omega arith)
get_or-map_at (f ∷ flags) zero h = refl
get_or-map_at (f ∷ flags) (suc place) h = get_or-map_at flags place (omega arith)

pub bytes_are_digits : (xs : List ℕ) → ((i : ℕ) → Fits w8 (get_or xs i 0)) → AreDigits 256 xs
bytes_are_digits xs h i = omega (arith, h i)

-- lanes that are all set
pub of_digits-ones : (n : ℕ) → of_digits 2 (replicate n 1) + 1 ≡ 2 ^ n
of_digits-ones zero = refl
of_digits-ones (suc n) = omega (arith, of_digits-ones n, pow-suc 2 n)

-- lanes that are all set, as a number of 64 bits
pub ones_on_lanes : (first count : ℕ) → first + count ≤ 8 → (1 * 2 ^ count % 2 ^ 64 - 1) * 2 ^ first % 2 ^ 64 ≡ on_lanes 2 first (replicate count 1)
ones_on_lanes first count h =
    let within : count ≤ 63 = omega arith in
    let below : 2 ^ count ≤ 2 ^ 63 = pow-le-pow_right (lit< tt) within in
    let whole : 1 * 2 ^ count % 2 ^ 64 ≡ 2 ^ count = shl_whole 1 1 count 64 (lit< tt) (omega arith) ∙ omega arith in
    let ones : 1 * 2 ^ count % 2 ^ 64 - 1 ≡ of_digits 2 (replicate count 1) = omega (arith, whole, of_digits-ones count) in
    let few : of_digits 2 (replicate count 1) < 2 ^ count = omega (arith, of_digits-ones count) in
    ap (λ (n : ℕ). n * 2 ^ first % 2 ^ 64) ones ∙ shl_whole (of_digits 2 (replicate count 1)) count first 64 few (omega arith) ∙ omega arith

-- a loop that puts one digit after another on its lane: the sum fits, and what is left is one lane less
pub lane_loop : (base first place lanes moved digit : ℕ) (xs : List ℕ) → 0 < base → AreDigits base xs → base ^ (first + length xs) ≤ 2 ^ 64 → place < length xs
    → digit ≡ get_or xs place 0 → moved ≡ digit * base ^ (first + place) → lanes + on_lanes base (first + place) (drop place xs) ≡ on_lanes base first xs
    → (lanes + moved < 2 ^ 64) × (lanes + moved + on_lanes base (first + (place + 1)) (drop (place + 1) xs) ≡ on_lanes base first xs)
lane_loop base first place lanes moved digit xs b d fits l is_digit is_moved e =
    let step : lanes + get_or xs place 0 * base ^ (first + place) + on_lanes base (first + (place + 1)) (drop (place + 1) xs) ≡ on_lanes base first xs = lanes_step base first place lanes _ xs l e in
    let same : moved ≡ get_or xs place 0 * base ^ (first + place) = is_moved ∙ ap (λ (n : ℕ). n * base ^ (first + place)) is_digit in
    (omega (arith, step, same, fits, on_lanes-lt base first xs b d), omega (arith, step, same))

-- the same for bytes
pub byte_loop : (first place lanes byte : ℕ) (bytes : List ℕ) → first + length bytes ≤ 8 → place < length bytes → AreDigits 256 bytes → byte ≡ get_or bytes place 0
    → lanes + on_lanes 256 (first + place) (drop place bytes) ≡ on_lanes 256 first bytes
    → (lanes + byte * 2 ^ (8 * (first + place)) % 2 ^ 64 < 2 ^ 64) × (lanes + byte * 2 ^ (8 * (first + place)) % 2 ^ 64 + on_lanes 256 (first + (place + 1)) (drop (place + 1) bytes) ≡ on_lanes 256 first bytes)
byte_loop first place lanes byte bytes h l d b e =
    let small : byte < 256 = omega (arith, b, d place) in
    let all : 256 ^ (first + length bytes) ≤ 256 ^ 8 = pow-le-pow_right (lit< tt) h in
    lane_loop 256 first place lanes _ byte bytes (lit< tt) d all l b (byte_on_lane byte (first + place) small (omega arith)) e

-- the same for flags
pub bit_loop : (first place lanes bit : ℕ) (flags : List Bool) → first + length flags ≤ 8 → place < length flags → bit ≡ from_bool (get_or flags place false)
    → lanes + on_bits (first + place) (drop place flags) ≡ on_bits first flags
    → (lanes + bit * 2 ^ (first + place) % 2 ^ 64 < 2 ^ 64) × (lanes + bit * 2 ^ (first + place) % 2 ^ 64 + on_bits (first + (place + 1)) (drop (place + 1) flags) ≡ on_bits first flags)
bit_loop first place lanes bit flags h l is_bit e =
    let xs : List ℕ = map from_bool flags in
    let same : length xs ≡ length flags = length-map flags from_bool in
    let few : first + length xs ≤ 8 = omega arith in
    let read : bit ≡ get_or xs place 0 = is_bit ∙ get_or-map_at flags place l in
    let small : bit < 2 = omega (arith, read, flag_bits flags place) in
    let all : 2 ^ (first + length xs) ≤ 2 ^ 8 = pow-le-pow_right (lit< tt) few in
    let left : lanes + on_lanes 2 (first + place) (drop place xs) ≡ on_lanes 2 first xs = rw (drop-map from_bool place flags) e in
    let step : (lanes + bit * 2 ^ (first + place) % 2 ^ 64 < 2 ^ 64) × (lanes + bit * 2 ^ (first + place) % 2 ^ 64 + on_lanes 2 (first + (place + 1)) (drop (place + 1) xs) ≡ on_lanes 2 first xs) =
    lane_loop 2 first place lanes _ bit xs (lit< tt) (flag_bits flags) (omega (arith, all)) (omega arith) read (bit_on_lane bit (first + place) small (omega arith)) left in
    (step.0, rw (← drop-map from_bool (place + 1) flags) (step.1))
