-- A request whose part for one beat is replaced by what another beat carries.
use Rattle.std.proofs.Common.{ℕ, zero, suc, ◌≡◌, ◌+◌, ◌*◌, ◌/◌, ◌%◌, ◌^◌, ◌<◌, ◌≤◌, ◌==◌, ◌⊎◌, inl, inr, List, [], ◌∷◌, ◌++◌, All, length, take, drop, map, replicate, Bool, true, false, cond, nat_eq, nat_lt, ◌&&◌, IsTrue, lit<, refl, ap, sym, subst, ◌∙◌, arith}
use Rattle.std.specs.Int.{from_bool}
use Rattle.std.proofs.Math.Nat.{mul-div_cancel_left, mul-mod_right, pow-suc, pow-zero}
use Rattle.std.proofs.lemmas.Bool.{eq-eqb, eqb-true, lt-ltb}
use Rattle.std.proofs.lemmas.Nat.{div-add-mod', div_below, mod_below, pow-add, row_fits}
use Rattle.std.proofs.lemmas.List.{append-nil, drop-take, drop_at, length-append, length-drop, length-map, length-take, nil_from_length, take-take, take_all, take_at}
use Rattle.std.proofs.lemmas.List.Elements.{All-append, All-drop, All-take}
use Rattle.tl_params.specs.Arguments.{is_width}
use Rattle.tl_params.specs.declared.ops.Op.{Op}
use Rattle.tl_params.specs.declared.ops.Op.TheVariants.{PutFull, PutPartial, Arithmetic, Logical, Get, Intent}
use Rattle.tl_edge.specs.declared.beat.ABeat.{ABeat}
use Rattle.tl_edge.specs.declared.message.Request.{Request}
use Rattle.tl_edge.specs.BeatLaws.{IsBeatOf}
use Rattle.tl_edge.specs.Beats.{a_beat, active_mask, data_beats, first_lane, lane_count, of_digits, on_bits, on_bytes, on_lanes, part, request_beats}
use Rattle.tl_edge.specs.Joined.{digits}
use Rattle.tl_edge.specs.Messages.{AreBytes, IsRequest, bytes_of, has_data, has_flags}
use Rattle.tl_edge.proofs.Active.{IsBus, bus_of, bus_pos, compared, larger, smaller, part_within, times-le}
use Rattle.tl_edge.proofs.Digits.{AreDigits, flag_bits, of_digits-lt}
use Rattle.tl_edge.proofs.LaneByLane.{active_law, base_pos, digits_from_bytes, part_digits}
use Rattle.tl_edge.proofs.Reading.{length-part_full}
use Rattle.sim_ports.specs.Nexts.{has_bytes, has_mask, stands_on}

-- ---- a list of which some items are replaced

abbrev pub splice : {A : Type 0} → ℕ → List A → List A → List A
splice start items new = take start items ++ (new ++ drop (start + length new) items)

splice_length : {A : Type 0} (start : ℕ) (items new : List A) → start + length new ≤ length items
    → length (splice start items new) ≡ length items
splice_length start items new h =
    omega (arith, h, length-append (take start items) (new ++ drop (start + length new) items), length-append new (drop (start + length new) items), length-take start items, length-drop (start + length new) items)

front_length : {A : Type 0} (start : ℕ) (items : List A) → start ≤ length items → length (take start items) ≡ start
front_length start items h = omega (arith, h, length-take start items)

-- the part that is replaced
splice_here : {A : Type 0} (width number : ℕ) (items new : List A) → length new ≤ width
    → number * width + length new ≤ length items → (length new ≡ width) ⊎ (number * width + length new ≡ length items)
    → part width number (splice (number * width) items new) ≡ new
splice_here {A = A} width number items new few within full =
    ap (λ (xs : List A). take width xs) (drop_at (take (number * width) items) (new ++ drop (number * width + length new) items) (number * width) (front_length (number * width) items (omega (arith, within))))
    ∙ rest full
  where
    rest : (length new ≡ width) ⊎ (number * width + length new ≡ length items) → take width (new ++ drop (number * width + length new) items) ≡ new
    rest (inl whole) = take_at new (drop (number * width + length new) items) width whole
    rest (inr end) =
        let none : length (drop (number * width + length new) items) ≡ 0 = omega (arith, end, length-drop (number * width + length new) items) in
        take_all width (new ++ drop (number * width + length new) items) (omega (arith, none, few, length-append new (drop (number * width + length new) items)))
        ∙ ap (λ (xs : List A). new ++ xs) (nil_from_length _ none) ∙ append-nil new

-- a part in front of it
part_of_front : {A : Type 0} (width number start : ℕ) (items : List A) → number * width + width ≤ start
    → part width number items ≡ drop (number * width) (take (number * width + width) (take start items))
part_of_front {A = A} width number start items h =
    sym (drop-take (number * width) width items)
    ∙ ap (λ (xs : List A). drop (number * width) xs) (sym (take-take (number * width + width) start items h))

splice_before : {A : Type 0} (width number start : ℕ) (items new : List A) → start ≤ length items → number * width + width ≤ start
    → part width number (splice start items new) ≡ part width number items
splice_before {A = A} width number start items new within h =
    part_of_front width number start (splice start items new) h
    ∙ ap (λ (xs : List A). drop (number * width) (take (number * width + width) xs)) (take_at (take start items) (new ++ drop (start + length new) items) start (front_length start items within))
    ∙ sym (part_of_front width number start items h)

-- what holds of all items
splice_all : {A : Type 0} (P : A → Type 0) (start : ℕ) (items new : List A) → All P items → All P new → All P (splice start items new)
splice_all P start items new h g =
    All-append P (take start items) (new ++ drop (start + length new) items) (All-take P start items h)
    (All-append P new (drop (start + length new) items) g (All-drop P (start + length new) items h))

-- ---- the digits of a number

digits_length : (base count n : ℕ) → length (digits base count n) ≡ count
digits_length base zero n = refl
digits_length base (suc count) n = ap suc (digits_length base count (n / base))

digits_are : (base count n : ℕ) → 0 < base → All (λ digit. digit < base) (digits base count n)
digits_are base zero n some i d l = absurd (omega (arith, l))
digits_are base (suc count) n some zero d l = mod_below n base some
digits_are base (suc count) n some (suc i) d l = digits_are base count (n / base) some i d (omega (arith, l))

of_digits_back : (base count n : ℕ) → 0 < base → n < base ^ count → of_digits base (digits base count n) ≡ n
of_digits_back base zero n some h = omega (arith, h, pow-zero base)
of_digits_back base (suc count) n some h =
    let below : n / base < base ^ count = div_below n base (base ^ count) some (subst (λ k. n < k) (pow-suc base count) h) in
    ap (λ k. n % base + base * k) (of_digits_back base count (n / base) some below)
    ∙ grind (arith, div-add-mod' n base)

-- a number that stands on some lanes is what their digits give
on_lanes_back : (base first count n : ℕ) → 0 < base → n % base ^ first ≡ 0 → n / base ^ first < base ^ count
    → on_lanes base first (digits base count (n / base ^ first)) ≡ n
on_lanes_back base first count n some whole few =
    ap (λ k. base ^ first * k) (of_digits_back base count (n / base ^ first) some few)
    ∙ grind (arith, div-add-mod' n (base ^ first), whole)

-- and the number that digits on some lanes give stands on these
on_lanes_stand : (base first : ℕ) (xs : List ℕ) → 0 < base → AreDigits base xs
    → (on_lanes base first xs % base ^ first ≡ 0) × (on_lanes base first xs / base ^ first < base ^ length xs)
on_lanes_stand base first xs some h =
    let rest : on_lanes base first xs / base ^ first ≡ of_digits base xs = mul-div_cancel_left (of_digits base xs) (base_pos base first some) in
    (mul-mod_right (base ^ first) (of_digits base xs), omega (arith, rest, of_digits-lt base xs some h))

-- ---- the test of a number on lanes

same_power : (bits base k : ℕ) → 2 ^ bits ≡ base → 2 ^ (bits * k) ≡ base ^ k
same_power bits base zero e =
    let none : bits * 0 ≡ 0 = omega arith in
    ap (λ n. 2 ^ n) none ∙ sym (pow-zero base)
same_power bits base (suc k) e =
    let more : bits * suc k ≡ bits + bits * k = omega arith in
    ap (λ n. 2 ^ n) more ∙ pow-add 2 bits (bits * k) ∙ ap (λ n. n * 2 ^ (bits * k)) e
    ∙ ap (λ n. base * n) (same_power bits base k e) ∙ omega (arith, pow-suc base k)

both : (a b : Bool) → IsTrue (a && b) → (IsTrue a) × (IsTrue b)
both true b h = (refl, h)
both false b h = cc

-- a number that passes it stands on the lanes, and one that stands on them passes it
pub stands : (bits base first count n : ℕ) → 2 ^ bits ≡ base → IsTrue (stands_on bits first count n)
    → (n % base ^ first ≡ 0) × (n / base ^ first < base ^ count)
stands bits base first count n e h =
    let parts = both (nat_eq (n % 2 ^ (bits * first)) 0) (nat_lt (n / 2 ^ (bits * first)) (2 ^ (bits * count))) h in
    let whole : n % 2 ^ (bits * first) ≡ 0 = grind (arith, parts.0) in
    let few : n / 2 ^ (bits * first) < 2 ^ (bits * count) = grind (arith, parts.1) in (
      ap (λ k. n % k) (sym (same_power bits base first e)) ∙ whole,
      subst (λ k. n / base ^ first < k) (same_power bits base count e) (subst (λ k. n / k < 2 ^ (bits * count)) (same_power bits base first e) few),
    )

pub stands_true : (bits base first count n : ℕ) → 2 ^ bits ≡ base → n % base ^ first ≡ 0 → n / base ^ first < base ^ count
    → IsTrue (stands_on bits first count n)
stands_true bits base first count n e whole few =
    let whole_too : n % 2 ^ (bits * first) ≡ 0 = ap (λ k. n % k) (same_power bits base first e) ∙ whole in
    let few_too : n / 2 ^ (bits * first) < 2 ^ (bits * count) =
    subst (λ k. n / 2 ^ (bits * first) < k) (sym (same_power bits base count e)) (subst (λ k. n / k < base ^ count) (sym (same_power bits base first e)) few) in
    join (nat_eq (n % 2 ^ (bits * first)) 0) (nat_lt (n / 2 ^ (bits * first)) (2 ^ (bits * count))) (eq-eqb _ _ whole_too) (lt-ltb _ _ few_too)
  where
    join : (a b : Bool) → IsTrue a → IsTrue b → IsTrue (a && b)
    join true b h g = g
    join false b h g = h

-- ---- how many lanes a part fills

lanes_filled : (width size number : ℕ) → IsBus width → number < data_beats size width
    → (lane_count width size ≡ width) ⊎ (number * width + lane_count width size ≡ bytes_of size)
lanes_filled width size number bus h =
    elim (compared width size bus) [
      | larger times some is ↦ inl (omega (arith, is, times-le width times some))
      | smaller times some is below ↦
          let count : bytes_of size / width < 1 = div_below (bytes_of size) width 1 (bus_pos width bus) (omega (arith, below)) in
          let none : number ≡ 0 = omega (arith, h, count) in
          inr (omega (arith, below, ap (λ n. n * width) none))
    ]

lanes_few : (width size : ℕ) → lane_count width size ≤ width
lanes_few width size = omega arith

behind : (width i number : ℕ) → i < number → i * width + width ≤ number * width
behind width i number h = row_fits i width number width h (omega arith)

-- what holds of a list whose part is replaced
record ArePut {A : Type 0} (kind : Bool) (width size number : ℕ) (old new : List A) (is_here : List A → Type 0) : Type 0 where
  pub long : length new ≡ cond kind (bytes_of size) 0
  pub here : is_here (part width number new)
  pub before : (i : ℕ) → i < number → part width i new ≡ part width i old

spliced : {A : Type 0} (width size number : ℕ) (old mine : List A) (is_here : List A → Type 0) → IsBus width
    → number < data_beats size width → length old ≡ bytes_of size → length mine ≡ lane_count width size → is_here mine
    → ArePut true width size number old (splice (number * width) old mine) is_here
spliced {A = A} width size number old mine is_here bus h long mine_long is =
    let within : number * width + length mine ≤ length old = omega (arith, part_within width size number bus h, long, mine_long) in
    let full : (length mine ≡ width) ⊎ (number * width + length mine ≡ length old) = elim (lanes_filled width size number bus h) [
      | inl a ↦ inl (mine_long ∙ a)
      | inr b ↦ inr (omega (arith, b, mine_long, long))
    ] in
    let few : length mine ≤ width = omega (arith, mine_long, lanes_few width size) in
    record {
      long = splice_length (number * width) old mine within ∙ long;
      here = subst is_here (sym (splice_here width number old mine few within full)) is;
      before = λ i l. splice_before width i (number * width) old mine (omega (arith, within)) (behind width i number l);
    }

-- the data of a request where a beat's stand in their part
abbrev pub bytes_with : Bool → ℕ → ℕ → ℕ → ℕ → List ℕ → ℕ → List ℕ
bytes_with kind width size address number old n =
    cond kind (splice (number * width) old (digits 256 (lane_count width size) (n / 256 ^ first_lane width size address))) old

record HasBytes (kind : Bool) (width size address number : ℕ) (old new : List ℕ) (n : ℕ) : Type 0 where
  pub long : length new ≡ cond kind (bytes_of size) 0
  pub bytes : AreBytes new
  pub here : on_bytes (first_lane width size address) (part width number new) ≡ n
  pub before : (i : ℕ) → i < number → part width i new ≡ part width i old

bytes_put : (kind : Bool) (width size address number : ℕ) (old : List ℕ) (n : ℕ) → IsBus width
    → number < cond kind (data_beats size width) 1 → length old ≡ cond kind (bytes_of size) 0 → AreBytes old
    → IsTrue (cond kind (stands_on 8 (first_lane width size address) (lane_count width size) n) (nat_eq n 0))
    → HasBytes kind width size address number old (bytes_with kind width size address number old n) n
bytes_put true width size address number old n bus h long bytes test =
    let parts = stands 8 256 (first_lane width size address) (lane_count width size) n refl test in
    let mine : List ℕ = digits 256 (lane_count width size) (n / 256 ^ first_lane width size address) in
    let all = spliced width size number old mine (λ xs. on_bytes (first_lane width size address) xs ≡ n) bus h long
    (digits_length 256 (lane_count width size) (n / 256 ^ first_lane width size address))
    (on_lanes_back 256 (first_lane width size address) (lane_count width size) n (lit< tt) parts.0 parts.1) in
    record {
      long = all.long;
      bytes = splice_all (λ byte. byte < 256) (number * width) old mine bytes (digits_are 256 (lane_count width size) (n / 256 ^ first_lane width size address) (lit< tt));
      here = all.here;
      before = all.before;
    }
bytes_put false width size address number old n bus h long bytes test =
    let zero_is : n ≡ 0 = eqb-true n 0 test in
    let none : part width number old ≡ [] = nil_from_length _ (omega (arith, long, length-take width (drop (number * width) old), length-drop (number * width) old)) in
    record {
      long = long;
      bytes = bytes;
      here = ap (λ (xs : List ℕ). on_bytes (first_lane width size address) xs) none ∙ grind (arith, zero_is);
      before = λ i l. refl;
    }

-- ---- the flags

bits_back : (digits : List ℕ) → All (λ digit. digit < 2) digits → map from_bool (map (λ bit. bit == 1) digits) ≡ digits
bits_back [] h = refl
bits_back (digit ∷ digits) h =
    ap (λ n. n ∷ map from_bool (map (λ bit. bit == 1) digits)) (bit_back digit (h 0 0 (omega arith)))
    ∙ ap (λ (ns : List ℕ). digit ∷ ns) (bits_back digits (λ i d l. h (suc i) d (omega (arith, l))))
  where
    bit_back : (n : ℕ) → n < 2 → from_bool (n == 1) ≡ n
    bit_back zero h = refl
    bit_back (suc zero) h = refl
    bit_back (suc (suc n)) h = absurd (omega (arith, h))

-- the flags of a request where a beat's stand in their part
abbrev pub flags_with : Bool → ℕ → ℕ → ℕ → ℕ → List Bool → ℕ → List Bool
flags_with kind width size address number old n =
    cond kind (splice (number * width) old (map (λ bit. bit == 1) (digits 2 (lane_count width size) (n / 2 ^ first_lane width size address)))) old

record HasFlags (kind : Bool) (width size address number : ℕ) (old new : List Bool) (n : ℕ) : Type 0 where
  pub long : length new ≡ cond kind (bytes_of size) 0
  pub here : kind ≡ true → on_bits (first_lane width size address) (part width number new) ≡ n
  pub before : (i : ℕ) → i < number → part width i new ≡ part width i old

flags_put : (kind : Bool) (width size address number : ℕ) (old : List Bool) (n active : ℕ) → IsBus width
    → (kind ≡ true → number < data_beats size width) → length old ≡ cond kind (bytes_of size) 0
    → IsTrue (cond kind (stands_on 1 (first_lane width size address) (lane_count width size) n) (nat_eq n active))
    → HasFlags kind width size address number old (flags_with kind width size address number old n) n
flags_put true width size address number old n active bus h long test =
    let parts = stands 1 2 (first_lane width size address) (lane_count width size) n refl test in
    let ds : List ℕ = digits 2 (lane_count width size) (n / 2 ^ first_lane width size address) in
    let back : map from_bool (map (λ bit. bit == 1) ds) ≡ ds = bits_back ds (digits_are 2 (lane_count width size) (n / 2 ^ first_lane width size address) (lit< tt)) in
    let all = spliced width size number old (map (λ bit. bit == 1) ds) (λ xs. on_bits (first_lane width size address) xs ≡ n) bus (h refl) long
    (length-map ds (λ bit. bit == 1) ∙ digits_length 2 (lane_count width size) (n / 2 ^ first_lane width size address))
    (ap (λ (xs : List ℕ). on_lanes 2 (first_lane width size address) xs) back ∙ on_lanes_back 2 (first_lane width size address) (lane_count width size) n (lit< tt) parts.0 parts.1) in
    record { long = all.long; here = λ e. all.here; before = all.before }
flags_put false width size address number old n active bus h long test =
    record { long = long; here = λ e. cc; before = λ i l. refl }

-- ---- the request

-- a request with what a beat carries in the part with a number
abbrev pub put : ℕ → ℕ → Request → ABeat → Request
put width number request beat = record {
  op = request.op;
  param = request.param;
  size = request.size;
  source = request.source;
  address = request.address;
  mask = flags_with (has_flags request.op) width request.size request.address number request.mask beat.mask;
  payload = bytes_with (has_data request.op) width request.size request.address number request.payload beat.payload;
}

flagged_data : (op : Op) (size width number : ℕ) → number < request_beats op size width → has_flags op ≡ true → number < data_beats size width
flagged_data PutFull size width number h e = h
flagged_data PutPartial size width number h e = h
flagged_data Arithmetic size width number h e = h
flagged_data Logical size width number h e = h
flagged_data Get size width number h e = cc
flagged_data Intent size width number h e = cc

-- a beat's mask is that of the new request, and the masks of beats before it stay
masks : (kind : Bool) (width number first : ℕ) (mask new : List Bool) (set : List Bool) (i : ℕ) → part width i new ≡ part width i mask
    → on_bits first (part width i (cond kind new set)) ≡ on_bits first (part width i (cond kind mask set))
masks true width number first mask new set i e = ap (λ (xs : List Bool). on_bits first xs) e
masks false width number first mask new set i e = refl

mask_here : (b : Bool) (width number : ℕ) (new : Request) (n : ℕ) → has_flags new.op ≡ b → IsTrue (is_width width)
    → number < request_beats new.op new.size width
    → (b ≡ true → on_bits (first_lane width new.size new.address) (part width number new.mask) ≡ n)
    → IsTrue (cond b (stands_on 1 (first_lane width new.size new.address) (lane_count width new.size) n) (nat_eq n (active_mask width new.size new.address)))
    → (a_beat width new number).mask ≡ n
mask_here true width number new n e bus h here test =
    ap (λ b. on_bits (first_lane width new.size new.address) (part width number (cond b new.mask (replicate (bytes_of new.size) true)))) e ∙ here refl
mask_here false width number new n e bus h here test =
    active_law.unflagged width new number bus e h ∙ sym (eqb-true n (active_mask width new.size new.address) test)

beat_with : Request → ℕ → ℕ → ABeat
beat_with request mask payload = record {
  op = request.op;
  param = request.param;
  size = request.size;
  source = request.source;
  address = request.address;
  mask = mask;
  payload = payload;
}

beat_is : (request : Request) (beat : ABeat) (mask payload : ℕ) → IsBeatOf request beat → mask ≡ beat.mask → payload ≡ beat.payload
    → beat_with request mask payload ≡ beat
unfolding beat_with
beat_is request beat mask payload f m p =
    let a = sym f.op in
    let b = sym f.param in
    let c = sym f.size in
    let d = sym f.source in
    let e = sym f.address in
    rw (a, b, c, d, e, m, p) refl

same_beat : (request : Request) (mask other_mask payload other_payload : ℕ) → mask ≡ other_mask → payload ≡ other_payload
    → beat_with request mask payload ≡ beat_with request other_mask other_payload
same_beat request mask other_mask payload other_payload m p =
    ap (λ n. beat_with request n payload) m ∙ ap (λ n. beat_with request other_mask n) p

-- such a request has the beat with this number, and the beats before it are those of the other one
pub record HasPut (width number : ℕ) (request new : Request) (beat : ABeat) : Type 0 where
  pub shape : IsRequest new
  pub bytes : AreBytes new.payload
  pub here : a_beat width new number ≡ beat
  pub before : (i : ℕ) → i < number → a_beat width new i ≡ a_beat width request i

pub has_put : (width number : ℕ) (request : Request) (beat : ABeat) → IsTrue (is_width width) → IsRequest request → AreBytes request.payload
    → number < request_beats request.op request.size width → IsBeatOf request beat
    → IsTrue (has_mask width beat) → IsTrue (has_bytes width beat) → HasPut width number request (put width number request beat) beat
unfolding beat_with
has_put width number request beat is_bus shape bytes h fields masked filled =
    let bus = bus_of width is_bus in
    let masked_too : IsTrue (cond (has_flags request.op) (stands_on 1 (first_lane width request.size request.address) (lane_count width request.size) beat.mask) (nat_eq beat.mask (active_mask width request.size request.address))) =
    rw (sym fields.op, sym fields.size, sym fields.address) masked in
    let filled_too : IsTrue (cond (has_data request.op) (stands_on 8 (first_lane width request.size request.address) (lane_count width request.size) beat.payload) (nat_eq beat.payload 0)) =
    rw (sym fields.op, sym fields.size, sym fields.address) filled in
    let filling = bytes_put (has_data request.op) width request.size request.address number request.payload beat.payload bus h shape.bytes bytes filled_too in
    let flags = flags_put (has_flags request.op) width request.size request.address number request.mask beat.mask (active_mask width request.size request.address) bus
    (flagged_data request.op request.size width number h) shape.flags masked_too in
    record {
      shape = record { small = shape.small; aligned = shape.aligned; flags = flags.long; bytes = filling.long };
      bytes = filling.bytes;
      here = beat_is request beat _ _ fields (mask_here (has_flags request.op) width number (put width number request beat) beat.mask refl is_bus h flags.here masked_too) filling.here;
      before = λ i l.
          same_beat request _ _ _ _ (masks (has_flags request.op) width number (first_lane width request.size request.address) request.mask _ (replicate (bytes_of request.size) true) i (flags.before i l))
          (ap (λ (xs : List ℕ). on_bytes (first_lane width request.size request.address) xs) (filling.before i l));
    }

-- ---- what each beat of a request has

standing : (base bits width size address number : ℕ) (xs : List ℕ) → 2 ^ bits ≡ base → 0 < base → AreDigits base xs → length xs ≡ lane_count width size
    → IsTrue (stands_on bits (first_lane width size address) (lane_count width size) (on_lanes base (first_lane width size address) xs))
standing base bits width size address number xs e some h long =
    let there = on_lanes_stand base (first_lane width size address) xs some h in
    stands_true bits base (first_lane width size address) (lane_count width size) (on_lanes base (first_lane width size address) xs) e there.0
    (subst (λ n. on_lanes base (first_lane width size address) xs / base ^ first_lane width size address < base ^ n) long there.1)

bytes_stand : (kind : Bool) (width size address number : ℕ) (xs : List ℕ) → IsBus width → number < cond kind (data_beats size width) 1
    → length xs ≡ cond kind (bytes_of size) 0 → AreBytes xs
    → IsTrue (cond kind (stands_on 8 (first_lane width size address) (lane_count width size) (on_bytes (first_lane width size address) (part width number xs)))
    (nat_eq (on_bytes (first_lane width size address) (part width number xs)) 0))
bytes_stand true width size address number xs bus h long bytes =
    standing 256 8 width size address number (part width number xs) refl (lit< tt) (part_digits 256 width number xs (lit< tt) (digits_from_bytes xs bytes)) (length-part_full width size number xs bus h long)
bytes_stand false width size address number xs bus h long bytes =
    let none : part width number xs ≡ [] = nil_from_length _ (omega (arith, long, length-take width (drop (number * width) xs), length-drop (number * width) xs)) in
    eq-eqb _ 0 (ap (λ (ys : List ℕ). on_bytes (first_lane width size address) ys) none ∙ omega arith)

flags_stand : (b : Bool) (width number : ℕ) (request : Request) → has_flags request.op ≡ b → IsTrue (is_width width) → IsRequest request
    → number < request_beats request.op request.size width
    → IsTrue (cond b (stands_on 1 (first_lane width request.size request.address) (lane_count width request.size) (a_beat width request number).mask)
    (nat_eq (a_beat width request number).mask (active_mask width request.size request.address)))
flags_stand true width number request e is_bus shape h =
    let mine : List Bool = part width number request.mask in
    let long : length request.mask ≡ bytes_of request.size = shape.flags ∙ ap (λ b. cond b (bytes_of request.size) 0) e in
    let is : (a_beat width request number).mask ≡ on_bits (first_lane width request.size request.address) (part width number request.mask) =
    ap (λ b. on_bits (first_lane width request.size request.address) (part width number (cond b request.mask (replicate (bytes_of request.size) true)))) e in
    subst (λ n. IsTrue (stands_on 1 (first_lane width request.size request.address) (lane_count width request.size) n)) (sym is)
    (standing 2 1 width request.size request.address number (map from_bool mine) refl (lit< tt) (flag_bits mine)
    (length-map mine from_bool ∙ length-part_full width request.size number request.mask (bus_of width is_bus) (flagged_data request.op request.size width number h e) long))
flags_stand false width number request e is_bus shape h =
    eq-eqb _ _ (active_law.unflagged width request number is_bus e h)

-- each beat of a request has a mask and data that it may have
pub beats_pass : (width number : ℕ) (request : Request) → IsTrue (is_width width) → IsRequest request → AreBytes request.payload
    → number < request_beats request.op request.size width
    → IsTrue (has_mask width (a_beat width request number)) × IsTrue (has_bytes width (a_beat width request number))
beats_pass width number request is_bus shape bytes h = (
  flags_stand (has_flags request.op) width number request refl is_bus shape h,
  bytes_stand (has_data request.op) width request.size request.address number request.payload (bus_of width is_bus) h shape.bytes bytes,
)
