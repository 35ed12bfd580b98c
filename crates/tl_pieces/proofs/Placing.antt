-- Where narrow beats lie in wide ones.
use Rattle.std.proofs.Common.{ℕ, zero, suc, ◌≡◌, ◌+◌, ◌*◌, ◌/◌, ◌%◌, ◌^◌, ◌-◌, ◌<◌, ◌≤◌, inl, inr, ap, sym, ◌∙◌, arith}
use Rattle.std.proofs.Math.Nat.{mul-div_cancel_left, mod-mod_of_dvd, dvd-mul_right, mod-add-mod, mod-eq_of_lt, div-eq_of_lt}
use Rattle.std.proofs.lemmas.Bool.{cases_lt}
use Rattle.std.proofs.lemmas.Nat.{pow_pos, pow_below, pow-add, row_fits, div-add-mod', mod_below, div-mul-add, mod-mul-add}
use Rattle.tl_edge.specs.Messages.{bytes_of}
use Rattle.tl_edge.specs.Beats.{data_beats}
use Rattle.tl_edge.proofs.Active.{IsBus, bus_of, bus_pos, compared, larger, smaller, small_fits, mod-mul_first}
use Rattle.tl_pieces.specs.TwoBuses.{AreBuses, lane_in_wide, wide_number}

-- ---- the two widths

pub record AreMultiples (narrow wide : ℕ) : Type 0 where
  pub ratio : ℕ
  pub is : wide ≡ ratio * narrow
  pub some : 0 < ratio
  pub positive : 0 < narrow
  pub is_ratio : wide / narrow ≡ ratio

pub multiples : (narrow wide : ℕ) → AreBuses narrow wide → AreMultiples narrow wide
multiples narrow wide buses =
    let n : IsBus narrow = bus_of narrow buses.narrow_bus in
    let w : IsBus wide = bus_of wide buses.wide_bus in
    let order : n.exponent ≤ w.exponent = elim (cases_lt w.exponent n.exponent) [
      | inl less ↦ absurd (omega (arith, pow_below w.exponent n.exponent less, n.power, w.power, buses.less))
      | inr fits ↦ fits
    ] in
    let is : wide ≡ narrow * 2 ^ (w.exponent - n.exponent) =
    w.power ∙ ap (λ (k : ℕ). 2 ^ k) (omega (arith, order)) ∙ pow-add 2 n.exponent (w.exponent - n.exponent) ∙ ap (λ (k : ℕ). k * 2 ^ (w.exponent - n.exponent)) (sym n.power) in
    record {
      ratio = 2 ^ (w.exponent - n.exponent);
      is = is ∙ turned narrow (2 ^ (w.exponent - n.exponent));
      some = pow_pos (w.exponent - n.exponent);
      positive = bus_pos narrow n;
      is_ratio = ap (λ (k : ℕ). k / narrow) is ∙ mul-div_cancel_left (2 ^ (w.exponent - n.exponent)) (bus_pos narrow n);
    }
  where
    turned : (a b : ℕ) → a * b ≡ b * a
    turned a b = grind arith

-- ---- a message is as large as the wide bus, or as the narrow one, or smaller

pub data Kind (narrow wide size : ℕ) : Type 0 where
  large : (times : ℕ) → 0 < times → bytes_of size ≡ wide * times → Kind narrow wide size
  middle : (times more : ℕ) → 0 < times → 0 < more → bytes_of size ≡ narrow * times → wide ≡ bytes_of size * more → bytes_of size < wide → Kind narrow wide size
  small : (more : ℕ) → 0 < more → narrow ≡ bytes_of size * more → bytes_of size < narrow → Kind narrow wide size

pub kind_of : (narrow wide size : ℕ) → AreBuses narrow wide → Kind narrow wide size
kind_of narrow wide size buses = elim (compared wide size (bus_of wide buses.wide_bus)) [
  | larger times some is ↦ large times some is
  | smaller more any is below ↦ elim (compared narrow size (bus_of narrow buses.narrow_bus)) [
    | larger times some fits ↦ middle times more some any fits is below
    | smaller fewer few fits under ↦ small fewer few fits under
  ]
]

-- a multiple of a multiple
multiple_mod : (unit times n : ℕ) → 0 < unit → n % (unit * times) ≡ 0 → n % unit ≡ 0
multiple_mod unit times n some h = sym (mod-mod_of_dvd unit n (dvd-mul_right unit times)) ∙ ap (λ (k : ℕ). k % unit) h ∙ mod-eq_of_lt some

-- how many beats
pub beats_of_large : (width size times : ℕ) → 0 < width → 0 < times → bytes_of size ≡ width * times → data_beats size width ≡ times
beats_of_large width size times positive some is =
    let count : bytes_of size / width ≡ times = ap (λ (k : ℕ). k / width) is ∙ mul-div_cancel_left times positive in
    omega (arith, count, some)

pub beats_of_small : (width size : ℕ) → bytes_of size < width → data_beats size width ≡ 1
beats_of_small width size below = let count : bytes_of size / width ≡ 0 = div-eq_of_lt below in omega (arith, count)

-- ---- a message as large as the wide bus: beat q r + m is the one with number m of the wide beat q

pub record IsInRow (narrow wide address row column ratio : ℕ) : Type 0 where
  pub bytes : address + (row * ratio + column) * narrow ≡ (address / wide + row) * wide + column * narrow
  pub wide_is : wide_number narrow wide address (row * ratio + column) ≡ row
  pub place_is : lane_in_wide narrow wide address (row * ratio + column) ≡ column * narrow

pub column_fits : (column ratio narrow wide : ℕ) → column < ratio → wide ≡ ratio * narrow → 0 < narrow → column * narrow < wide
column_fits column ratio narrow wide inside is positive = omega (arith, is, positive, row_fits column narrow ratio narrow inside (omega arith))

rounded_multiple : (times unit : ℕ) → 0 < unit → times * unit / unit * unit ≡ times * unit
rounded_multiple times unit some =
    let whole : times * unit ≡ times * unit + 0 = omega arith in
    ap (λ (k : ℕ). k * unit) (ap (λ (k : ℕ). k / unit) whole ∙ div-mul-add times unit 0 some)

-- the row and the column of a number are those that its quotient and remainder tell
pub in_row : (narrow wide address row column ratio : ℕ) → wide ≡ ratio * narrow → 0 < narrow → column < ratio → address % wide ≡ 0 → IsInRow narrow wide address row column ratio
in_row narrow wide address row column ratio is positive inside aligned =
    let start : address / wide * wide ≡ address = omega (arith, div-add-mod' address wide, aligned) in
    let bytes : (row * ratio + column) * narrow ≡ row * wide + column * narrow = spread row ratio column narrow ∙ ap (λ (k : ℕ). row * k + column * narrow) (sym is) in
    let all : address + (row * ratio + column) * narrow ≡ (address / wide + row) * wide + column * narrow = sums address (address / wide) row wide ((row * ratio + column) * narrow) (column * narrow) start bytes in
    let fits : column * narrow < wide = column_fits column ratio narrow wide inside is positive in
    record {
      bytes = all;
      wide_is = ap (λ (k : ℕ). (k + (row * ratio + column) * narrow) / wide) aligned ∙ ap (λ (k : ℕ). k / wide) (none_more ((row * ratio + column) * narrow) ∙ bytes) ∙ div-mul-add row wide (column * narrow) fits;
      place_is = ap (λ (k : ℕ). k % wide / narrow * narrow) all ∙ ap (λ (k : ℕ). k / narrow * narrow) (mod-mul-add (address / wide + row) wide (column * narrow) fits) ∙ rounded_multiple column narrow positive;
    }
  where
    spread : (q r m n : ℕ) → (q * r + m) * n ≡ q * (r * n) + m * n
    spread q r m n = grind arith

    none_more : (k : ℕ) → 0 + k ≡ k
    none_more k = omega arith

    joined : (a b w rest : ℕ) → a * w + (b * w + rest) ≡ (a + b) * w + rest
    joined a b w rest = grind arith

    sums : (address quotient row wide bytes rest : ℕ) → quotient * wide ≡ address → bytes ≡ row * wide + rest → address + bytes ≡ (quotient + row) * wide + rest
    sums address quotient row wide bytes rest e f = omega (arith, e, f, joined quotient row wide rest)

pub aligned_wide : (wide size times address : ℕ) → 0 < wide → bytes_of size ≡ wide * times → address % bytes_of size ≡ 0 → address % wide ≡ 0
aligned_wide wide size times address positive is aligned = multiple_mod wide times address positive (sym (ap (λ (k : ℕ). address % k) is) ∙ aligned)

-- ---- a message smaller than the wide bus, but not than the narrow one: all its beats lie in one wide beat

pub record IsInOne (narrow wide size address number : ℕ) : Type 0 where
  pub wide_is : wide_number narrow wide address number ≡ 0
  pub place_is : lane_in_wide narrow wide address number ≡ address % wide + number * narrow
  pub end : address % wide + bytes_of size ≤ wide

pub in_one : (narrow wide size address number times more : ℕ) → 0 < narrow → 0 < more → bytes_of size ≡ narrow * times → wide ≡ bytes_of size * more → address % bytes_of size ≡ 0 → number < times
    → IsInOne narrow wide size address number
in_one narrow wide size address number times more positive any fits is aligned below =
    let end : address % wide + bytes_of size ≤ wide = small_fits wide (bytes_of size) more address (pow_pos size) any is aligned in
    let inner : number * narrow + narrow ≤ bytes_of size = omega (arith, fits, row_fits number narrow times narrow below (omega arith)) in
    let within : address % wide + number * narrow < wide = omega (arith, end, inner, positive) in
    let first : address % wide % bytes_of size ≡ 0 = ap (λ (k : ℕ). address % k % bytes_of size) is ∙ mod-mul_first address (bytes_of size) more ∙ aligned in
    let unit : address % wide % narrow ≡ 0 = multiple_mod narrow times (address % wide) positive (sym (ap (λ (k : ℕ). address % wide % k) fits) ∙ first) in
    let start : address % wide / narrow * narrow ≡ address % wide = omega (arith, div-add-mod' (address % wide) narrow, unit) in
    let all : address % wide + number * narrow ≡ (address % wide / narrow + number) * narrow = omega (arith, start, joined (address % wide / narrow) number narrow) in
    record {
      wide_is = div-eq_of_lt within;
      place_is = ap (λ (k : ℕ). k / narrow * narrow) (sym (mod-add-mod address wide (number * narrow)) ∙ mod-eq_of_lt within ∙ all)
          ∙ rounded_multiple (address % wide / narrow + number) narrow positive ∙ sym all;
      end = end;
    }
  where
    joined : (a b n : ℕ) → a * n + b * n ≡ (a + b) * n
    joined a b n = grind arith

-- ---- a message smaller than the narrow bus: one narrow beat in one wide one

pub record IsAlone (narrow wide address number : ℕ) : Type 0 where
  pub wide_is : wide_number narrow wide address number ≡ 0
  pub place_is : lane_in_wide narrow wide address number ≡ address % wide / narrow * narrow
  pub lane : address % wide / narrow * narrow + address % narrow ≡ address % wide

pub alone : (narrow wide address number ratio : ℕ) → 0 < narrow → 0 < ratio → wide ≡ ratio * narrow → number ≡ 0 → IsAlone narrow wide address number
alone narrow wide address number ratio positive some is first =
    let none : number * narrow ≡ 0 = ap (λ (k : ℕ). k * narrow) first ∙ omega arith in
    let positive_wide : 0 < wide = omega (arith, is, positive, some_product ratio narrow some positive) in
    let below : address % wide < wide = mod_below address wide positive_wide in
    let turned : wide ≡ narrow * ratio = is ∙ turn ratio narrow in
    let lane : address % wide % narrow ≡ address % narrow = ap (λ (k : ℕ). address % k % narrow) turned ∙ mod-mul_first address narrow ratio in
    record {
      wide_is = ap (λ (k : ℕ). (address % wide + k) / wide) none ∙ ap (λ (k : ℕ). k / wide) (nothing (address % wide)) ∙ div-eq_of_lt below;
      place_is = ap (λ (k : ℕ). (address + k) % wide / narrow * narrow) none ∙ ap (λ (k : ℕ). k % wide / narrow * narrow) (nothing address);
      lane = omega (arith, div-add-mod' (address % wide) narrow, lane);
    }
  where
    nothing : (k : ℕ) → k + 0 ≡ k
    nothing k = omega arith

    turn : (a b : ℕ) → a * b ≡ b * a
    turn a b = grind arith

    some_product : (a b : ℕ) → 0 < a → 0 < b → 0 < a * b
    some_product zero b h k = absurd (omega arith)
    some_product (suc a) zero h k = absurd (omega arith)
    some_product (suc a) (suc b) h k = omega arith
