-- What each lane holds.
use Rattle.std.proofs.Common.{ℕ, zero, suc, ◌≡◌, ◌+◌, ◌*◌, ◌/◌, ◌%◌, ◌^◌, ◌-◌, ◌<◌, ◌≤◌, inl, inr, List, [], ◌∷◌, length, get_or, take, drop, map, replicate, Bool, true, false, cond, IsTrue, lit<, ap, sym, ◌∙◌, refl, subst, arith}
use Rattle.std.specs.Int.{from_bool}
use Rattle.std.specs.List.{take-map, drop-map}
use Rattle.std.proofs.Math.Nat.{pow-le-pow_right, one-le-pow, pow-succ', pow-zero, mul-mod_right, mul-div_cancel_left, div-div-eq-div-mul, zero-div, div-one, add-mul-mod_self_left, add-mul-div_left, mod-eq_of_lt, div-eq_of_lt}
use Rattle.std.proofs.Math.ListN.{get_or-map}
use Rattle.std.proofs.lemmas.Bool.{cases_lt, true≢false, false≢true}
use Rattle.std.proofs.lemmas.Nat.{pow-add, div_below, div-add-mod'}
use Rattle.std.proofs.lemmas.List.{length-map, length-take, length-replicate, get_or-replicate, get_or-take, get_or-drop, get_or_past}
use Rattle.tl_params.specs.Arguments.{is_width}
use Rattle.tl_edge.specs.declared.message.Request.{Request}
use Rattle.tl_edge.specs.declared.message.Response.{Response}
use Rattle.tl_edge.specs.Messages.{bytes_of, has_flags, IsRequest, IsWholeRequest, IsWholeResponse, AreBytes}
use Rattle.tl_edge.specs.Beats.{of_digits, on_lanes, part, first_lane, lane_count, active_mask, flags_of, a_beat, data_on_lanes}
use Rattle.tl_edge.specs.BeatLaws.{lane_of, IsActive, IsSent, IsSentBack, HasLanes, HasLanesBack, ActiveLaw, LanesLaw}
use Rattle.tl_edge.proofs.Digits.{AreDigits, on_lanes-lt, flag_bits}
use Rattle.tl_edge.proofs.Active.{IsBus, bus_of, bus_pos, larger, smaller, compared, times-le, mod-mul_first, first_large, first_small, lanes_fit, part-length, all_or_none, mask_without_flags}

-- ---- one lane of a number

pub base_pos : (base k : ℕ) → 0 < base → 0 < base ^ k
base_pos base k h = omega (arith, one-le-pow k base h)

-- a digit of a number
digit_at : (base j : ℕ) (xs : List ℕ) → 0 < base → AreDigits base xs → of_digits base xs / base ^ j % base ≡ get_or xs j 0
digit_at base j [] b h = ap (λ (n : ℕ). n % base) (zero-div (base ^ j)) ∙ mod-eq_of_lt b
digit_at base zero (x ∷ xs) b h =
    ap (λ (n : ℕ). (x + base * of_digits base xs) / n % base) (pow-zero base)
    ∙ ap (λ (n : ℕ). n % base) (div-one (x + base * of_digits base xs))
    ∙ add-mul-mod_self_left x base (of_digits base xs) ∙ mod-eq_of_lt (h 0)
digit_at base (suc j) (x ∷ xs) b h =
    let rest : (x + base * of_digits base xs) / base ≡ of_digits base xs = add-mul-div_left x (of_digits base xs) b ∙ ap (λ (n : ℕ). n + of_digits base xs) (div-eq_of_lt (h 0)) ∙ omega arith in
    ap (λ (n : ℕ). (x + base * of_digits base xs) / n % base) (pow-succ' base j)
    ∙ ap (λ (n : ℕ). n % base) (sym (div-div-eq-div-mul (x + base * of_digits base xs) base (base ^ j)))
    ∙ ap (λ (n : ℕ). n / base ^ j % base) rest
    ∙ digit_at base j xs b (λ i. h (suc i))

-- a lane from the first one on
lane_from : (base first j : ℕ) (xs : List ℕ) → 0 < base → AreDigits base xs → lane_of base (first + j) (on_lanes base first xs) ≡ get_or xs j 0
lane_from base first j xs b h =
    ap (λ (n : ℕ). on_lanes base first xs / n % base) (pow-add base first j)
    ∙ ap (λ (n : ℕ). n % base) (sym (div-div-eq-div-mul (on_lanes base first xs) (base ^ first) (base ^ j)))
    ∙ ap (λ (n : ℕ). n / base ^ j % base) (mul-div_cancel_left (of_digits base xs) (base_pos base first b))
    ∙ digit_at base j xs b h

-- a lane before it
lane_before : (base first lane : ℕ) (xs : List ℕ) → 0 < base → lane < first → lane_of base lane (on_lanes base first xs) ≡ 0
lane_before base first lane xs b h =
    let more : ℕ = first - (lane + 1) in
    let parts : base ^ first ≡ base ^ lane * (base * base ^ (first - (lane + 1))) =
    ap (λ (n : ℕ). base ^ n) (omega arith) ∙ pow-add base lane (suc (first - (lane + 1))) ∙ ap (λ (n : ℕ). base ^ lane * n) (pow-succ' base (first - (lane + 1))) in
    let whole : on_lanes base first xs ≡ base ^ lane * (base * (base ^ (first - (lane + 1)) * of_digits base xs)) = ap (λ (n : ℕ). n * of_digits base xs) parts ∙ grind arith in
    ap (λ (n : ℕ). n / base ^ lane % base) whole
    ∙ ap (λ (n : ℕ). n % base) (mul-div_cancel_left (base * (base ^ (first - (lane + 1)) * of_digits base xs)) (base_pos base lane b))
    ∙ mul-mod_right base (base ^ (first - (lane + 1)) * of_digits base xs)

-- ---- the lanes of a beat

-- a number has the digits of a list that one beat carries on its active lanes, and 0 on the others
pub record IsOnLanes (base width size address number : ℕ) (xs : List ℕ) (n : ℕ) : Type 0 where
  pub fits : n < base ^ width
  pub at : (lane : ℕ) → lane < lane_count width size → lane_of base (first_lane width size address + lane) n ≡ get_or xs (number * width + lane) 0
  pub other : (lane : ℕ) → (IsActive width size address lane → ⊥) → lane_of base lane n ≡ 0

pub get_or-part : (width number j : ℕ) (xs : List ℕ) → j < width → get_or (part width number xs) j 0 ≡ get_or xs (number * width + j) 0
get_or-part width number j xs h = get_or-take width (drop (number * width) xs) j 0 h ∙ get_or-drop (number * width) xs j 0

pub part_digits : (base width number : ℕ) (xs : List ℕ) → 0 < base → AreDigits base xs → AreDigits base (part width number xs)
part_digits base width number xs b h i =
    elim (cases_lt i width) [
      | inl lt ↦ omega (arith, get_or-part width number i xs lt, h (number * width + i))
      | inr ge ↦ omega (arith, b, get_or_past (part width number xs) i 0 (omega (arith, length-take width (drop (number * width) xs))))
    ]

pub are_on_lanes : (base width size address number : ℕ) (xs : List ℕ) → 0 < base → AreDigits base xs → IsBus width → address % bytes_of size ≡ 0 → length xs ≤ bytes_of size
    → IsOnLanes base width size address number xs (on_lanes base (first_lane width size address) (part width number xs))
are_on_lanes base width size address number xs b d bus aligned few =
    let first : ℕ = first_lane width size address in
    let digits_too : AreDigits base (part width number xs) = part_digits base width number xs b d in
    let short : length (part width number xs) ≤ lane_count width size = part-length width size number xs few in
    let within : first_lane width size address + lane_count width size ≤ width = lanes_fit width size address bus aligned in
    let below : base ^ (first_lane width size address + length (part width number xs)) ≤ base ^ width = pow-le-pow_right b (sum_le (first_lane width size address) (length (part width number xs)) (lane_count width size) width short within) in
    record {
      fits = omega (arith, below, on_lanes-lt base (first_lane width size address) (part width number xs) b digits_too);
      at = λ lane h. lane_from base (first_lane width size address) lane (part width number xs) b digits_too ∙ get_or-part width number lane xs (omega (arith, h));
      other = λ lane h.
          elim (cases_lt lane (first_lane width size address)) [
            | inl lt ↦ lane_before base (first_lane width size address) lane (part width number xs) b lt
            | inr ge ↦
                let behind : length (part width number xs) ≤ lane - first_lane width size address =
                elim (cases_lt lane (first_lane width size address + lane_count width size)) [
                  | inl inside ↦ absurd (h (record { from = ge; to = inside }))
                  | inr beyond ↦ omega (arith, short, beyond)
                ] in
                ap (λ (n : ℕ). lane_of base n (on_lanes base (first_lane width size address) (part width number xs))) (omega (arith, ge))
                ∙ lane_from base (first_lane width size address) (lane - first_lane width size address) (part width number xs) b digits_too
                ∙ get_or_past (part width number xs) (lane - first_lane width size address) 0 behind
          ];
    }
  where
    sum_le : (a m n w : ℕ) → m ≤ n → a + n ≤ w → a + m ≤ w
    sum_le a m n w h e = omega arith

-- ---- messages

pub digits_from_bytes : (xs : List ℕ) → AreBytes xs → AreDigits 256 xs
digits_from_bytes xs h i =
    elim (cases_lt i (length xs)) [
      | inl lt ↦ h i 0 lt
      | inr ge ↦ omega (arith, get_or_past xs i 0 ge)
    ]

pub map-part : (width number : ℕ) (flags : List Bool) → part width number (map from_bool flags) ≡ map from_bool (part width number flags)
map-part width number flags = ap (λ (xs : List ℕ). take width xs) (drop-map from_bool (number * width) flags) ∙ take-map from_bool width (drop (number * width) flags)

pub flags_of-length : (request : Request) → IsRequest request → length (flags_of request) ≤ bytes_of request.size
flags_of-length request is = by_kind (has_flags request.op) is.flags
  where
    by_kind : (own : Bool) → length request.mask ≡ cond own (bytes_of request.size) 0 → length (cond own request.mask (replicate (bytes_of request.size) true)) ≤ bytes_of request.size
    by_kind true e = omega (arith, e)
    by_kind false e = omega (arith, length-replicate (bytes_of request.size) true)

request_lanes : (width : ℕ) (request : Request) (number : ℕ) → IsSent width request → HasLanes width request number
request_lanes width request number sent =
    let is : IsWholeRequest request = sent.whole in
    let bus : IsBus width = bus_of width sent.bus in
    let bytes_too : IsOnLanes 256 width request.size request.address number request.payload (a_beat width request number).payload =
    are_on_lanes 256 width request.size request.address number request.payload (lit< tt) (digits_from_bytes request.payload is.bytes) bus is.shape.aligned (all_or_none _ _ _ is.shape.bytes) in
    let flags : List ℕ = map from_bool (flags_of request) in
    let short : length (map from_bool (flags_of request)) ≤ bytes_of request.size = omega (arith, length-map (flags_of request) from_bool, flags_of-length request is.shape) in
    let marked : IsOnLanes 2 width request.size request.address number (map from_bool (flags_of request)) (on_lanes 2 (first_lane width request.size request.address) (part width number (map from_bool (flags_of request)))) =
    are_on_lanes 2 width request.size request.address number (map from_bool (flags_of request)) (lit< tt) (flag_bits (flags_of request)) bus is.shape.aligned short in
    let P : List ℕ → Type 0 = λ xs. IsOnLanes 2 width request.size request.address number (map from_bool (flags_of request)) (on_lanes 2 (first_lane width request.size request.address) xs) in
    let marks_too : IsOnLanes 2 width request.size request.address number (map from_bool (flags_of request)) (a_beat width request number).mask = subst P (map-part width number (flags_of request)) marked in
    record {
      bytes_fit = bytes_too.fits;
      bytes = bytes_too.at;
      other_bytes = bytes_too.other;
      marks_fit = marks_too.fits;
      marks = λ lane h. marks_too.at lane h ∙ get_or-map from_bool (flags_of request) (number * width + lane) false;
      other_marks = marks_too.other;
    }

-- the same for a beat that is 0 where its message is denied
record IsBack (denied : Bool) (width size address number : ℕ) (xs : List ℕ) (n : ℕ) : Type 0 where
  pub fits : n < 256 ^ width
  pub at : denied ≡ false → (lane : ℕ) → lane < lane_count width size → lane_of 256 (first_lane width size address + lane) n ≡ get_or xs (number * width + lane) 0
  pub other : (lane : ℕ) → (IsActive width size address lane → ⊥) → lane_of 256 lane n ≡ 0
  pub none : denied ≡ true → n ≡ 0

are_back : (denied : Bool) (width size address number : ℕ) (xs : List ℕ) (n : ℕ) → IsOnLanes 256 width size address number xs n → IsBack denied width size address number xs (cond denied 0 n)
are_back false width size address number xs n is = record { fits = is.fits; at = λ e. is.at; other = is.other; none = λ e. absurd (false≢true e) }
are_back true width size address number xs n is = record {
  fits = base_pos 256 width (lit< tt);
  at = λ e. absurd (true≢false e);
  other = λ lane h. ap (λ (m : ℕ). m % 256) (zero-div (256 ^ lane));
  none = λ e. refl;
}

-- a response is as aligned as its request
pub aligned_back : (width : ℕ) (request : Request) (response : Response) → IsSentBack width request response → request.address % bytes_of response.size ≡ 0
aligned_back width request response back = ap (λ (size : ℕ). request.address % bytes_of size) back.whole.answers.size ∙ back.sent.whole.shape.aligned

pub response_lanes : (width : ℕ) (request : Request) (response : Response) (number : ℕ) → IsSentBack width request response → HasLanesBack width request.address response number
response_lanes width request response number sent_back =
    let back : IsWholeResponse request response = sent_back.whole in
    let aligned : request.address % bytes_of response.size ≡ 0 = aligned_back width request response sent_back in
    let granted : IsOnLanes 256 width response.size request.address number response.payload (data_on_lanes width response.size request.address number response.payload) =
    are_on_lanes 256 width response.size request.address number response.payload (lit< tt) (digits_from_bytes response.payload back.bytes) (bus_of width sent_back.sent.bus) aligned (all_or_none _ _ _ back.answers.bytes) in
    let all = are_back response.denied width response.size request.address number response.payload _ granted in
    record { bytes_fit = all.fits; bytes = all.at; other_bytes = all.other; denied = all.none }

-- ---- a number is known by its lanes

next_lane : (base lane n : ℕ) → lane_of base lane (n / base) ≡ lane_of base (suc lane) n
next_lane base lane n = ap (λ (k : ℕ). k % base) (div-div-eq-div-mul n base (base ^ lane)) ∙ sym (ap (λ (k : ℕ). n / k % base) (pow-succ' base lane))

first_lane_of : (base n : ℕ) → lane_of base 0 n ≡ n % base
first_lane_of base n = ap (λ (k : ℕ). n / k % base) (pow-zero base) ∙ ap (λ (k : ℕ). k % base) (div-one n)

same_lanes : (base lanes n other : ℕ) → 0 < base → n < base ^ lanes → other < base ^ lanes → ((lane : ℕ) → lane < lanes → lane_of base lane n ≡ lane_of base lane other) → n ≡ other
same_lanes base zero n other b h k same = omega (arith, h, k, pow-zero base)
same_lanes base (suc lanes) n other b h k same =
    let first : n % base ≡ other % base = sym (first_lane_of base n) ∙ same 0 (omega arith) ∙ first_lane_of base other in
    let turned : base ^ suc lanes ≡ base ^ lanes * base = pow-succ' base lanes ∙ grind arith in
    let rest : n / base ≡ other / base =
    same_lanes base lanes (n / base) (other / base) b (div_below n base (base ^ lanes) b (omega (arith, h, turned))) (div_below other base (base ^ lanes) b (omega (arith, k, turned)))
    (λ lane below. next_lane base lane n ∙ same (suc lane) (omega (arith, below)) ∙ sym (next_lane base lane other)) in
    omega (arith, first, div-add-mod' n base, div-add-mod' other base, ap (λ (q : ℕ). q * base) rest)

pub lanes_law : LanesLaw
lanes_law = record {
  same = same_lanes;
  requests = λ width request number sent h. request_lanes width request number sent;
  responses = λ width request response number back h. response_lanes width request response number back;
}

-- ---- the active lanes and their mask

first_is_address : (width size address : ℕ) → IsTrue (is_width width) → address % bytes_of size ≡ 0 → first_lane width size address ≡ address % width
first_is_address width size address is_bus aligned =
    let bus : IsBus width = bus_of width is_bus in
    elim (compared width size bus) [
      | larger times some is ↦
          let none : address % (width * times) % width ≡ 0 = ap (λ (n : ℕ). n % width) (sym (ap (λ (n : ℕ). address % n) is) ∙ aligned) ∙ mod-eq_of_lt (bus_pos width bus) in
          first_large width size address (omega (arith, is, times-le width times some)) ∙ sym (sym (mod-mul_first address width times) ∙ none)
      | smaller times some is below ↦ first_small width size address below
    ]

ones_are_digits : (n : ℕ) → AreDigits 2 (replicate n 1)
ones_are_digits zero i = lit< tt
ones_are_digits (suc n) zero = lit< tt
ones_are_digits (suc n) (suc i) = ones_are_digits n i

-- the lanes of a number whose lanes from a first one on are set
set_lane : (first count lane : ℕ) → first ≤ lane → lane < first + count → lane_of 2 lane (on_lanes 2 first (replicate count 1)) ≡ 1
set_lane first count lane from to =
    ap (λ (n : ℕ). lane_of 2 n (on_lanes 2 first (replicate count 1))) (omega (arith, from))
    ∙ lane_from 2 first (lane - first) (replicate count 1) (lit< tt) (ones_are_digits count)
    ∙ get_or-replicate count (lane - first) 1 0 (omega (arith, from, to))

unset_lane : (first count lane : ℕ) → (first ≤ lane → lane < first + count → ⊥) → lane_of 2 lane (on_lanes 2 first (replicate count 1)) ≡ 0
unset_lane first count lane none =
    elim (cases_lt lane first) [
      | inl before ↦ lane_before 2 first lane (replicate count 1) (lit< tt) before
      | inr from ↦ elim (cases_lt lane (first + count)) [
        | inl to ↦ absurd (none from to)
        | inr behind ↦
            ap (λ (n : ℕ). lane_of 2 n (on_lanes 2 first (replicate count 1))) (omega (arith, from))
            ∙ lane_from 2 first (lane - first) (replicate count 1) (lit< tt) (ones_are_digits count)
            ∙ get_or_past (replicate count 1) (lane - first) 0 (omega (arith, behind, length-replicate {A = ℕ} count 1))
      ]
    ]

mask_fits : (width size address : ℕ) → IsTrue (is_width width) → address % bytes_of size ≡ 0 → active_mask width size address < 2 ^ width
mask_fits width size address is_bus aligned =
    let first : ℕ = first_lane width size address in
    let count : ℕ = lane_count width size in
    let within : first_lane width size address + length {A = ℕ} (replicate (lane_count width size) 1) ≤ width =
    omega (arith, lanes_fit width size address (bus_of width is_bus) aligned, length-replicate {A = ℕ} (lane_count width size) 1) in
    let below : 2 ^ (first_lane width size address + length {A = ℕ} (replicate (lane_count width size) 1)) ≤ 2 ^ width = pow-le-pow_right (lit< tt) within in
    omega (arith, below, on_lanes-lt 2 (first_lane width size address) (replicate (lane_count width size) 1) (lit< tt) (ones_are_digits (lane_count width size)))

pub active_law : ActiveLaw
active_law = record {
  first = first_is_address;
  within = λ width size address lane is_bus aligned h. omega (arith, h.to, lanes_fit width size address (bus_of width is_bus) aligned);
  marked = λ width size address lane h. set_lane (first_lane width size address) (lane_count width size) lane h.from h.to;
  unmarked = λ width size address lane h. unset_lane (first_lane width size address) (lane_count width size) lane (λ from to. h (record { from = from; to = to }));
  fits = mask_fits;
  unflagged = λ width request number is_bus none within.
      sym (mask_without_flags width number (first_lane width request.size request.address) (lane_count width request.size)
      (active_mask width request.size request.address) request is_bus within none refl refl);
}
