-- Messages read back from their beats.
use Rattle.std.proofs.Common.{ℕ, zero, suc, ◌≡◌, ◌+◌, ◌*◌, ◌/◌, ◌%◌, ◌^◌, ◌-◌, ◌<◌, ◌≤◌, ◌==◌, min, List, [], ◌∷◌, ◌++◌, length, get_or, take, drop, map, replicate, Bool, true, false, cond, IsTrue, Option, Some, unwrap_or, inl, inr, lit<, ap, sym, ◌∙◌, refl, arith}
use Rattle.std.specs.Int.{from_bool}
use Rattle.std.specs.List.{range_with_len, flat_map}
use Rattle.std.proofs.Math.Nat.{mul-div_cancel_left, add-mul-mod_self_left, add-mul-div_left, mod-eq_of_lt, div-eq_of_lt, mul-le-mul_right}
use Rattle.std.proofs.lemmas.List.{length-map, length-take, length-drop, drop-drop, drop_all, take-append-drop, nil_from_length, drop-replicate, length-replicate, ext_get_or}
use Rattle.std.proofs.lemmas.List.FromFn.{get_or-map-range_with_len}
use Rattle.std.proofs.lemmas.Nat.{pow_pos, div-add-mod', div_below, row_fits}
use Rattle.std.proofs.lemmas.Bool.{cond-false, cases_eq, cases_order}
use Rattle.tl_params.specs.Arguments.{is_width}
use Rattle.tl_params.specs.declared.ops.Ack.{Ack}
use Rattle.tl_params.specs.declared.ops.Op.{Op}
use Rattle.tl_params.specs.declared.ops.Op.TheVariants.{PutFull, PutPartial, Arithmetic, Logical, Get, Intent}
use Rattle.tl_edge.specs.declared.message.Request.{Request}
use Rattle.tl_edge.specs.declared.message.Response.{Response}
use Rattle.tl_edge.specs.declared.beat.DBeat.{DBeat}
use Rattle.tl_edge.specs.Messages.{bytes_of, has_data, has_flags, brings_data, IsWholeRequest, AreBytes}
use Rattle.tl_edge.specs.Beats.{of_digits, on_lanes, on_bits, on_bytes, part, first_lane, lane_count, data_beats, a_beat, d_beat, request_beats, response_beats, beats_of_request, beats_of_response, data_on_lanes}
use Rattle.tl_edge.specs.Joined.{digits, active_digits, bytes_in, flags_in, bytes_back, joined_request, joined_response, told}
use Rattle.tl_edge.specs.BeatLaws.{IsSent, IsSentBack, IsActive, lane_of, JoinLaw, SameLaw}
use Rattle.tl_edge.proofs.Digits.{AreDigits, flag_bits}
use Rattle.tl_edge.proofs.Active.{IsBus, larger, smaller, compared, take-replicate-min, bus_of, bus_pos, part_within, all_or_none, times-le, first_large, first_small, mod-mul_first}
use Rattle.tl_edge.proofs.Heads.{heads_law}
use Rattle.tl_edge.proofs.LaneByLane.{base_pos, part_digits, digits_from_bytes, aligned_back, response_lanes}

-- ---- the digits of a number

digits-of_digits : (base : ℕ) (xs : List ℕ) → 0 < base → AreDigits base xs → digits base (length xs) (of_digits base xs) ≡ xs
digits-of_digits base [] b h = refl
digits-of_digits base (x ∷ xs) b h =
    let low : (x + base * of_digits base xs) % base ≡ x = add-mul-mod_self_left x base (of_digits base xs) ∙ mod-eq_of_lt (h 0) in
    let rest : (x + base * of_digits base xs) / base ≡ of_digits base xs = add-mul-div_left x (of_digits base xs) b ∙ ap (λ (n : ℕ). n + of_digits base xs) (div-eq_of_lt (h 0)) ∙ omega arith in
    ap (λ (n : ℕ). n ∷ digits base (length xs) ((x + base * of_digits base xs) / base)) low
    ∙ ap (λ (n : ℕ). x ∷ digits base (length xs) n) rest
    ∙ ap (λ (ys : List ℕ). x ∷ ys) (digits-of_digits base xs b (λ i. h (suc i)))

-- what active lanes that are all filled hold
active-on_lanes : (base width size address : ℕ) (xs : List ℕ) → 0 < base → AreDigits base xs → length xs ≡ lane_count width size
    → active_digits base width size address (on_lanes base (first_lane width size address) xs) ≡ xs
active-on_lanes base width size address xs b h full =
    ap (λ (n : ℕ). digits base (lane_count width size) n) (mul-div_cancel_left (of_digits base xs) (base_pos base (first_lane width size address) b))
    ∙ sym (ap (λ (n : ℕ). digits base n (of_digits base xs)) full)
    ∙ digits-of_digits base xs b h

-- ---- the parts of a list

pub length-part_full : {A : Type 0} (width size number : ℕ) (xs : List A) → IsBus width → number < data_beats size width → length xs ≡ bytes_of size → length (part width number xs) ≡ lane_count width size
length-part_full width size number xs bus h e =
    omega (arith, e, part_within width size number bus h, length-take width (drop (number * width) xs), length-drop (number * width) xs)

-- so many parts have all that is left
pub parts_joined : {A : Type 0} (width count number : ℕ) (xs : List A) → length xs ≤ (number + count) * width → flat_map (λ i. part width i xs) (range_with_len number count) ≡ drop (number * width) xs
parts_joined width zero number xs h = sym (drop_all (number * width) xs (omega (arith, h)))
parts_joined {A = A} width (suc count) number xs h =
    let left : length xs ≤ (number + 1 + count) * width = omega (arith, h) in
    ap (λ (ys : List A). part width number xs ++ ys) (parts_joined width count (number + 1) xs left
    ∙ ap (λ (n : ℕ). drop n xs) (omega arith) ∙ sym (drop-drop width (number * width) xs))
    ∙ take-append-drop width (drop (number * width) xs)

-- the beats of a message have room for all of it, and have all of it
beats_hold : (width size : ℕ) → IsBus width → bytes_of size ≤ data_beats size width * width
beats_hold width size bus =
    elim (compared width size bus) [
      | larger times some is ↦
          let count : bytes_of size / width ≡ times = ap (λ (n : ℕ). n / width) is ∙ mul-div_cancel_left times (bus_pos width bus) in
          let few : times ≤ data_beats size width = omega (arith, count) in
          omega (arith, is, mul-le-mul_right width few)
      | smaller times some is below ↦
          let few : 1 ≤ data_beats size width = omega arith in
          omega (arith, below, mul-le-mul_right width few)
    ]

all_parts : {A : Type 0} (width size : ℕ) (xs : List A) → IsBus width → length xs ≡ bytes_of size → flat_map (λ i. part width i xs) (range_with_len 0 (data_beats size width)) ≡ xs
all_parts width size xs bus e =
    let enough : length xs ≤ (0 + data_beats size width) * width = omega (arith, e, beats_hold width size bus) in
    let start : 0 * width ≡ 0 = omega arith in
    parts_joined width (data_beats size width) 0 xs enough ∙ ap (λ (n : ℕ). drop n xs) start

-- ---- lists of beats

pub flat_map-map : {A B C : Type 0} (f : A → B) (g : B → List C) (xs : List A) → flat_map g (map f xs) ≡ flat_map (λ x. g (f x)) xs
flat_map-map f g [] = refl
flat_map-map {C = C} f g (x ∷ xs) = ap (λ (ys : List C). g (f x) ++ ys) (flat_map-map f g xs)

-- functions that agree on the numbers of a range
flat_map-range : {C : Type 0} (f g : ℕ → List C) (from count : ℕ) → ((i : ℕ) → i < from + count → f i ≡ g i) → flat_map f (range_with_len from count) ≡ flat_map g (range_with_len from count)
flat_map-range f g from zero h = refl
flat_map-range {C = C} f g from (suc count) h =
    ap (λ (ys : List C). ys ++ flat_map f (range_with_len (from + 1) count)) (h from (omega arith))
    ∙ ap (λ (ys : List C). g from ++ ys) (flat_map-range f g (from + 1) count (λ i l. h i (omega (arith, l))))

flat_map-nil : {A C : Type 0} (xs : List A) → flat_map (λ (x : A). let ys : List C = [] in ys) xs ≡ []
flat_map-nil [] = refl
flat_map-nil (x ∷ xs) = flat_map-nil xs

-- ---- what all beats of a message hold: its data, or none
bytes_read : (kind : Bool) (width size address : ℕ) (xs : List ℕ) → IsBus width → AreDigits 256 xs → length xs ≡ cond kind (bytes_of size) 0
    → flat_map (λ i. cond kind (active_digits 256 width size address (data_on_lanes width size address i xs)) []) (range_with_len 0 (cond kind (data_beats size width) 1)) ≡ xs
bytes_read true width size address xs bus h e =
    flat_map-range (λ i. active_digits 256 width size address (data_on_lanes width size address i xs)) (λ i. part width i xs) 0 (data_beats size width)
    (λ i l. active-on_lanes 256 width size address (part width i xs) (lit< tt) (part_digits 256 width i xs (lit< tt) h) (length-part_full width size i xs bus (omega (arith, l)) e))
    ∙ all_parts width size xs bus e
bytes_read false width size address xs bus h e = sym (nil_from_length xs e)

-- the same where a denied message's data are 0
of_digits-zeros : (base n : ℕ) → of_digits base (replicate n 0) ≡ 0
of_digits-zeros base zero = refl
of_digits-zeros base (suc n) = ap (λ (k : ℕ). 0 + base * k) (of_digits-zeros base n) ∙ omega arith

zeros_on_lanes : (width size address number n : ℕ) → data_on_lanes width size address number (replicate n 0) ≡ 0
zeros_on_lanes width size address number n =
    let zeros : part width number (replicate n 0) ≡ replicate (min width (n - number * width)) 0 =
    ap (λ (xs : List ℕ). take width xs) (drop-replicate (number * width) n 0) ∙ take-replicate-min width (n - number * width) 0 in
    ap (λ (xs : List ℕ). on_bytes (first_lane width size address) xs) zeros
    ∙ ap (λ (k : ℕ). 256 ^ first_lane width size address * k) (of_digits-zeros 256 (min width (n - number * width))) ∙ omega arith

pub zeros_are_digits : (n i : ℕ) → get_or (replicate n 0) i 0 < 256
zeros_are_digits zero i = lit< tt
zeros_are_digits (suc n) zero = lit< tt
zeros_are_digits (suc n) (suc i) = zeros_are_digits n i

bytes_read_back : (denied kind : Bool) (width size address : ℕ) (xs : List ℕ) → IsBus width → AreDigits 256 xs → length xs ≡ cond kind (bytes_of size) 0
    → flat_map (λ i. cond kind (active_digits 256 width size address (cond denied 0 (data_on_lanes width size address i xs))) []) (range_with_len 0 (cond kind (data_beats size width) 1))
    ≡ cond denied (replicate (length xs) 0) xs
bytes_read_back false kind width size address xs bus h e = bytes_read kind width size address xs bus h e
bytes_read_back true kind width size address xs bus h e =
    flat_map-range (λ i. cond kind (active_digits 256 width size address 0) []) (λ i. cond kind (active_digits 256 width size address (data_on_lanes width size address i (replicate (length xs) 0))) [])
    0 (cond kind (data_beats size width) 1)
    (λ i l. ap (λ (n : ℕ). let none : List ℕ = [] in cond kind (active_digits 256 width size address n) none) (sym (zeros_on_lanes width size address i (length xs))))
    ∙ bytes_read kind width size address (replicate (length xs) 0) bus (zeros_are_digits (length xs)) (length-replicate (length xs) 0 ∙ e)

-- the flags of a message that has any
map-from_bool : (flags : List Bool) → map (λ bit. bit == 1) (map from_bool flags) ≡ flags
map-from_bool [] = refl
map-from_bool (true ∷ flags) = ap (λ (fs : List Bool). true ∷ fs) (map-from_bool flags)
map-from_bool (false ∷ flags) = ap (λ (fs : List Bool). false ∷ fs) (map-from_bool flags)

flags_on_lanes : (width size address : ℕ) (flags : List Bool) → length flags ≡ lane_count width size
    → map (λ bit. bit == 1) (active_digits 2 width size address (on_bits (first_lane width size address) flags)) ≡ flags
flags_on_lanes width size address flags e =
    ap (λ (xs : List ℕ). map (λ bit. bit == 1) xs) (active-on_lanes 2 width size address (map from_bool flags) (lit< tt) (flag_bits flags) (length-map flags from_bool ∙ e))
    ∙ map-from_bool flags

flags_read : (op : Op) (width size address : ℕ) (mask : List Bool) → IsBus width → length mask ≡ cond (has_flags op) (bytes_of size) 0
    → flat_map (λ i. cond (has_flags op) (map (λ bit. bit == 1) (active_digits 2 width size address (on_bits (first_lane width size address) (part width i (cond (has_flags op) mask (replicate (bytes_of size) true)))))) [])
    (range_with_len 0 (request_beats op size width)) ≡ mask
flags_read PutPartial width size address mask bus e =
    flat_map-range (λ i. map (λ bit. bit == 1) (active_digits 2 width size address (on_bits (first_lane width size address) (part width i mask)))) (λ i. part width i mask) 0 (data_beats size width)
    (λ i l. flags_on_lanes width size address (part width i mask) (length-part_full width size i mask bus (omega (arith, l)) e))
    ∙ all_parts width size mask bus e
flags_read PutFull width size address mask bus e = flat_map-nil (range_with_len 0 (data_beats size width)) ∙ sym (nil_from_length mask e)
flags_read Arithmetic width size address mask bus e = flat_map-nil (range_with_len 0 (data_beats size width)) ∙ sym (nil_from_length mask e)
flags_read Logical width size address mask bus e = flat_map-nil (range_with_len 0 (data_beats size width)) ∙ sym (nil_from_length mask e)
flags_read Get width size address mask bus e = sym (nil_from_length mask e)
flags_read Intent width size address mask bus e = sym (nil_from_length mask e)

-- ---- whole messages

rebuilt : Request → List Bool → List ℕ → Request
rebuilt request mask payload = record { op = request.op; param = request.param; size = request.size; source = request.source; address = request.address; mask = mask; payload = payload }

joined_beats : (width count : ℕ) (request : Request) → 1 ≤ count → joined_request width (map (a_beat width request) (range_with_len 0 count))
    ≡ Some (rebuilt request (flat_map (flags_in width) (map (a_beat width request) (range_with_len 0 count))) (flat_map (bytes_in width) (map (a_beat width request) (range_with_len 0 count))))
unfolding rebuilt
joined_beats width zero request h = absurd (omega arith)
joined_beats width (suc count) request h = refl

request_joined : (width : ℕ) (request : Request) → IsTrue (is_width width) → IsWholeRequest request → joined_request width (beats_of_request width request) ≡ Some request
unfolding rebuilt
request_joined width request is_bus is =
    let bus : IsBus width = bus_of width is_bus in
    let count : ℕ = request_beats request.op request.size width in
    let flags : flat_map (flags_in width) (beats_of_request width request) ≡ request.mask =
    flat_map-map (a_beat width request) (flags_in width) (range_with_len 0 (request_beats request.op request.size width)) ∙ flags_read request.op width request.size request.address request.mask bus is.shape.flags in
    let bytes : flat_map (bytes_in width) (beats_of_request width request) ≡ request.payload =
    flat_map-map (a_beat width request) (bytes_in width) (range_with_len 0 (request_beats request.op request.size width))
    ∙ bytes_read (has_data request.op) width request.size request.address request.payload bus (digits_from_bytes request.payload is.bytes) is.shape.bytes in
    joined_beats width (request_beats request.op request.size width) request (heads_law.request_some width request)
    ∙ ap (λ (mask : List Bool). Some (rebuilt request mask (flat_map (bytes_in width) (beats_of_request width request)))) flags
    ∙ ap (λ (payload : List ℕ). Some (rebuilt request request.mask payload)) bytes

answered : Response → List ℕ → Response
answered response payload = record { op = response.op; size = response.size; source = response.source; denied = response.denied; payload = payload }

joined_beats_back : (width address count : ℕ) (response : Response) → 1 ≤ count → joined_response width address (map (d_beat width address response) (range_with_len 0 count))
    ≡ Some (answered response (flat_map (bytes_back width address) (map (d_beat width address response) (range_with_len 0 count))))
unfolding answered
joined_beats_back width address zero response h = absurd (omega arith)
joined_beats_back width address (suc count) response h = refl

-- the beats of a response are read back whichever address its request has
response_read : (width address : ℕ) (response : Response) → IsTrue (is_width width) → AreBytes response.payload → length response.payload ≡ cond (brings_data response.op) (bytes_of response.size) 0
    → joined_response width address (beats_of_response width address response) ≡ Some (told response)
unfolding answered
response_read width address response is_bus are_bytes e =
    let bytes : flat_map (bytes_back width address) (beats_of_response width address response) ≡ cond response.denied (replicate (length response.payload) 0) response.payload =
    flat_map-map (d_beat width address response) (bytes_back width address) (range_with_len 0 (response_beats response.op response.size width))
    ∙ bytes_read_back response.denied (brings_data response.op) width response.size address response.payload (bus_of width is_bus) (digits_from_bytes response.payload are_bytes) e in
    joined_beats_back width address (response_beats response.op response.size width) response (heads_law.response_some width response)
    ∙ ap (λ (payload : List ℕ). Some (answered response payload)) bytes

response_joined : (width address : ℕ) (request : Request) (response : Response) → IsSentBack width request response
    → joined_response width address (beats_of_response width address response) ≡ Some (told response)
response_joined width address request response back = response_read width address response back.sent.bus back.whole.bytes back.whole.answers.bytes

pub join_law : JoinLaw
join_law = record {
  requests = λ width request sent. request_joined width request sent.bus sent.whole;
  responses = λ width request response back. response_joined width request.address request response back;
}

-- ---- messages with the same beats

same_request : (width : ℕ) (request other : Request) → IsSent width request → IsSent width other → beats_of_request width request ≡ beats_of_request width other → request ≡ other
same_request width request other sent sent_too e =
    ap (λ (o : Option Request). unwrap_or o request) (sym (join_law.requests width request sent) ∙ ap (joined_request width) e ∙ join_law.requests width other sent_too)

-- the first beats of two responses with the same beats
first_back : (width address other_address : ℕ) (response other : Response) → beats_of_response width address response ≡ beats_of_response width other_address other
    → d_beat width address response 0 ≡ d_beat width other_address other 0
first_back width address other_address response other e =
    let none : DBeat = d_beat width address response 0 in
    sym (get_or-map-range_with_len (d_beat width address response) 0 (response_beats response.op response.size width) 0 0 (d_beat width address response 0) (omega (arith, heads_law.response_some width response)) refl)
    ∙ ap (λ (beats : List DBeat). get_or beats 0 (d_beat width address response 0)) e
    ∙ get_or-map-range_with_len (d_beat width other_address other) 0 (response_beats other.op other.size width) 0 0 (d_beat width address response 0) (omega (arith, heads_law.response_some width other)) refl

-- the beats of a response whose data begin on a lane
back_from : ℕ → ℕ → Response → ℕ → DBeat
back_from width first response number = record {
  op = response.op;
  size = response.size;
  source = response.source;
  denied = response.denied;
  payload = cond response.denied 0 (on_bytes first (part width number response.payload));
}

same_lane_told : (width : ℕ) (request asked : Request) (response other : Response) → IsSentBack width request response → IsSentBack width asked other
    → first_lane width other.size asked.address ≡ first_lane width other.size request.address
    → beats_of_response width request.address response ≡ beats_of_response width asked.address other → told response ≡ told other
unfolding back_from
same_lane_told width request asked response other back back_too same e =
    let moved : beats_of_response width asked.address other ≡ beats_of_response width request.address other =
    ap (λ (first : ℕ). map (back_from width first other) (range_with_len 0 (response_beats other.op other.size width))) same in
    ap (λ (o : Option Response). unwrap_or o (told response))
    (sym (response_joined width request.address request response back) ∙ ap (joined_response width request.address) (e ∙ moved) ∙ response_joined width request.address asked other back_too)

-- multiples of a number that differ are apart by it
pub multiples_apart : (unit f g : ℕ) → 0 < unit → f % unit ≡ 0 → g % unit ≡ 0 → f < g → f + unit ≤ g
multiples_apart unit f g some e d less =
    let whole : f / unit * unit ≡ f = omega (arith, div-add-mod' f unit, e) in
    let whole_too : g / unit * unit ≡ g = omega (arith, div-add-mod' g unit, d) in
    let fewer : f / unit < g / unit = div_below f unit (g / unit) some (omega (arith, less, whole_too)) in
    omega (arith, whole, whole_too, row_fits (f / unit) unit (g / unit) unit fewer (omega arith))

apart_lanes : (unit f g j : ℕ) → 0 < unit → f % unit ≡ 0 → g % unit ≡ 0 → (f ≡ g → ⊥) → j < unit → g ≤ f + j → f + j < g + unit → ⊥
apart_lanes unit f g j some e d differ within from to =
    elim (cases_order f g) [
      | inl same ↦ differ same
      | inr other ↦ elim other [
        | inl less ↦ omega (arith, multiples_apart unit f g some e d less, from, within)
        | inr more ↦ omega (arith, multiples_apart unit g f some d e more, to)
      ]
    ]

-- the first lane of a message smaller than the bus is a multiple of its bytes
small_multiple : (width size times address : ℕ) → width ≡ bytes_of size * times → bytes_of size < width → address % bytes_of size ≡ 0 → first_lane width size address % bytes_of size ≡ 0
small_multiple width size times address is below aligned =
    ap (λ (n : ℕ). n % bytes_of size) (first_small width size address below) ∙ ap (λ (n : ℕ). address % n % bytes_of size) is ∙ mod-mul_first address (bytes_of size) times ∙ aligned

-- a beat that belongs to two responses whose data begin on different lanes has no data but zeros
zero_byte : (width : ℕ) (request asked : Request) (response other : Response) (j : ℕ) → IsSentBack width request response → IsSentBack width asked other → other.size ≡ response.size
    → response.denied ≡ false → d_beat width request.address response 0 ≡ d_beat width asked.address other 0
    → (first_lane width response.size request.address ≡ first_lane width other.size asked.address → ⊥) → j < bytes_of response.size → get_or response.payload j 0 ≡ 0
zero_byte width request asked response other j back back_too sizes granted same differ within =
    elim (compared width response.size (bus_of width back.sent.bus)) [
      | larger times some is ↦
          let large : width ≤ bytes_of response.size = omega (arith, is, times-le width times some) in
          absurd (differ (first_large width response.size request.address large
          ∙ sym (first_large width other.size asked.address (omega (arith, large, ap bytes_of sizes)))))
      | smaller times some is below ↦
          let first : ℕ = first_lane width response.size request.address in
          let bytes_same : bytes_of other.size ≡ bytes_of response.size = ap bytes_of sizes in
          let here : first_lane width response.size request.address % bytes_of response.size ≡ 0 = small_multiple width response.size times request.address is below (aligned_back width request response back) in
          let there : first_lane width other.size asked.address % bytes_of response.size ≡ 0 =
          sym (ap (λ (n : ℕ). first_lane width other.size asked.address % n) bytes_same)
          ∙ small_multiple width other.size times asked.address (is ∙ ap (λ (n : ℕ). n * times) (sym bytes_same)) (omega (arith, below, bytes_same)) (aligned_back width asked other back_too) in
          let none : IsActive width other.size asked.address (first_lane width response.size request.address + j) → ⊥ =
          λ active. apart_lanes (bytes_of response.size) (first_lane width response.size request.address) (first_lane width other.size asked.address) j (pow_pos response.size) here there differ within active.from (omega (arith, active.to, bytes_same)) in
          let start : 0 * width + j ≡ j = omega arith in
          sym (ap (λ (n : ℕ). get_or response.payload n 0) start)
          ∙ sym ((response_lanes width request response 0 back).bytes granted j (omega (arith, within, below)))
          ∙ ap (λ (beat : DBeat). lane_of 256 (first_lane width response.size request.address + j) beat.payload) same
          ∙ (response_lanes width asked other 0 back_too).other_bytes (first_lane width response.size request.address + j) none
    ]

-- a message has no byte, or one for each place
payload_length : (width : ℕ) (request : Request) (response : Response) → IsSentBack width request response → length response.payload ≤ bytes_of response.size
payload_length width request response back = all_or_none _ _ _ back.whole.answers.bytes

same_length : (width : ℕ) (request asked : Request) (response other : Response) → IsSentBack width request response → IsSentBack width asked other → response.op ≡ other.op → response.size ≡ other.size
    → length response.payload ≡ length other.payload
same_length width request asked response other back back_too ops sizes =
    back.whole.answers.bytes ∙ ap (λ (op : Ack). cond (brings_data op) (bytes_of response.size) 0) ops ∙ ap (λ (size : ℕ). cond (brings_data other.op) (bytes_of size) 0) sizes
    ∙ sym back_too.whole.answers.bytes

-- two responses with the same fields, and the same data where they aren't denied, tell the same
told_parts : (response other : Response) → response.op ≡ other.op → response.size ≡ other.size → response.source ≡ other.source → response.denied ≡ other.denied
    → length response.payload ≡ length other.payload → (response.denied ≡ false → response.payload ≡ other.payload) → told response ≡ told other
unfolding answered
told_parts response other ops sizes sources denials lengths payloads =
    ap (λ (payload : List ℕ). answered response payload) (either_way response.denied payloads ∙ ap (λ (d : Bool). cond d (replicate (length other.payload) 0) other.payload) denials) ∙ cc
  where
    either_way : (d : Bool) → (d ≡ false → response.payload ≡ other.payload) → cond d (replicate (length response.payload) 0) response.payload ≡ cond d (replicate (length other.payload) 0) other.payload
    either_way true h = ap (λ (n : ℕ). replicate n 0) lengths
    either_way false h = h refl

other_lane_told : (width : ℕ) (request asked : Request) (response other : Response) → IsSentBack width request response → IsSentBack width asked other
    → (first_lane width response.size request.address ≡ first_lane width other.size asked.address → ⊥)
    → d_beat width request.address response 0 ≡ d_beat width asked.address other 0 → told response ≡ told other
other_lane_told width request asked response other back back_too differ same =
    let sizes : response.size ≡ other.size = ap (λ (beat : DBeat). beat.size) same in
    let ops : response.op ≡ other.op = ap (λ (beat : DBeat). beat.op) same in
    let denials : response.denied ≡ other.denied = ap (λ (beat : DBeat). beat.denied) same in
    let lengths : length response.payload ≡ length other.payload = same_length width request asked response other back back_too ops sizes in
    told_parts response other ops sizes (ap (λ (beat : DBeat). beat.source) same) denials lengths
    (λ granted.
    ext_get_or 0 response.payload other.payload lengths
    (λ j within.
    zero_byte width request asked response other j back back_too (sym sizes) granted same differ (omega (arith, within, payload_length width request response back))
    ∙ sym (zero_byte width asked request other response j back_too back sizes (sym denials ∙ granted) (sym same) (λ e. differ (sym e)) (omega (arith, within, lengths, payload_length width asked other back_too)))))

same_told : (width : ℕ) (request asked : Request) (response other : Response) → IsSentBack width request response → IsSentBack width asked other
    → beats_of_response width request.address response ≡ beats_of_response width asked.address other → told response ≡ told other
same_told width request asked response other back back_too e =
    let same : d_beat width request.address response 0 ≡ d_beat width asked.address other 0 = first_back width request.address asked.address response other e in
    let sizes : response.size ≡ other.size = ap (λ (beat : DBeat). beat.size) same in
    elim (cases_eq (first_lane width response.size request.address) (first_lane width other.size asked.address)) [
      | inl here ↦ same_lane_told width request asked response other back back_too (sym here ∙ ap (λ (size : ℕ). first_lane width size request.address) sizes) e
      | inr differ ↦ other_lane_told width request asked response other back back_too differ same
    ]

told_granted : (response : Response) → response.denied ≡ false → told response ≡ response
unfolding answered
told_granted response h = ap (λ (payload : List ℕ). answered response payload) (cond-false response.denied (replicate (length response.payload) 0) response.payload h)

pub same_law : SameLaw
same_law = record {
  requests = same_request;
  responses = same_told;
  granted = λ width request asked response other back back_too granted e.
      let same : told response ≡ told other = same_told width request asked response other back back_too e in
      let granted_too : other.denied ≡ false = sym (ap (λ (r : Response). r.denied) same) ∙ granted in
      sym (told_granted response granted) ∙ same ∙ told_granted other granted_too;
}
