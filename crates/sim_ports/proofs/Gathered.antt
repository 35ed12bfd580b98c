-- The bytes and the flags of a request, gathered from its beats.
use Rattle.std.proofs.Common.{ℕ, ◌≡◌, ◌+◌, ◌*◌, ◌/◌, ◌%◌, ◌^◌, ◌<◌, ◌≤◌, ◌==◌, List, [], ◌∷◌, ◌++◌, length, get_or, set, take, map, replicate, Bool, true, false, cond, IsTrue, Some, slice_get, lit≤, refl, ap, sym, subst, ◌∙◌, arith}
use Rattle.std.specs.Int.{from_bool}
use Rattle.std.specs.List.{range_with_len}
use Rattle.std.proofs.Math.Nat.{div-le_self, mod-eq_of_lt, mul-div_cancel_left, pow-le-pow_right}
use Rattle.std.proofs.lemmas.Nat.{div_below, div-add-mod', mod_below}
use Rattle.std.proofs.lemmas.List.{ext_get_or, length-append, take_more, take_more_set}
use Rattle.std.proofs.lemmas.List.FromFn.{get_or-map-range_with_len, length-map-range_with_len, map-range_with_len_more}
use Rattle.std.proofs.lemmas.Option.{get_or_from_slice_get, slice_get-get_or, slice_get_within}
use Rattle.std.proofs.Math.Seq.{take-length}
use Rattle.tl_params.specs.Arguments.{is_width}
use Rattle.tl_params.specs.declared.ops.Ack.{Ack}
use Rattle.tl_params.specs.declared.ops.Op.{Op}
use Rattle.tl_params.specs.declared.ops.Op.TheVariants.{PutFull, PutPartial, Arithmetic, Logical, Get, Intent}
use Rattle.tl_edge.specs.declared.beat.ABeat.{ABeat}
use Rattle.tl_edge.specs.declared.message.Request.{Request}
use Rattle.tl_edge.specs.Messages.{brings_data, bytes_of, has_data, has_flags}
use Rattle.tl_edge.specs.Beats.{a_beat, beats_of_request, data_beats, first_lane, flags_of, lane_count, request_beats, response_beats}
use Rattle.tl_edge.specs.BeatLaws.{IsActive, IsBeatOf, IsSent, lane_of}
use Rattle.tl_edge.proofs.Active.{bus_of, bus_pos, compared, larger, smaller}
use Rattle.tl_edge.proofs.Digits.{byte_shift}
use Rattle.tl_edge.proofs.LaneByLane.{active_law, lanes_law}
use Rattle.tl_edge.proofs.Cuts.{next_law}
use Rattle.sim_ports.specs.Sinks.{are_all}
use Rattle.sim_ports.specs.Rooms.{gathered_byte, gathered_flag, lane_at, on_lane}

-- ---- a list that is filled from its first item on

pub filled_more : {A : Type 0} (f : ℕ → A) (list : List A) (item : A) (number : ℕ) → number < length list → item ≡ f number
    → take number list ≡ map f (range_with_len 0 number)
    → take (number + 1) (set list number item) ≡ map f (range_with_len 0 (number + 1))
filled_more f list item number h e k =
    take_more_set list number item h
    ∙ ap (λ xs. xs ++ item ∷ []) k
    ∙ ap (λ x. map f (range_with_len 0 number) ++ x ∷ []) e
    ∙ sym (map-range_with_len_more f 0 number number (omega arith))

pub filled_whole : {A : Type 0} (f : ℕ → A) (list : List A) (number count : ℕ) → count ≡ length list → count ≤ number → number ≤ count
    → take number list ≡ map f (range_with_len 0 number) → list ≡ map f (range_with_len 0 count)
filled_whole f list number count l h g k =
    let same : number ≡ count = omega arith in
    let there : take count list ≡ map f (range_with_len 0 count) = subst (λ n. take n list ≡ map f (range_with_len 0 n)) same k in
    sym (take-length list) ∙ ap (λ n. take n list) (sym l) ∙ there

-- ---- one byte, read by a shift

pub byte_shifted : (lanes lane : ℕ) → lanes / 2 ^ (8 * lane) % 256 ≡ lane_of 256 lane lanes
byte_shifted lanes lane = ap (λ n. lanes / n % 256) (byte_shift lane)

-- ---- the beat and the lane of a byte

-- the byte with a number stands in the beat that has it
beat_of : (op : Op) (width size number : ℕ) → IsTrue (is_width width) → has_data op ≡ true → number < bytes_of size
    → number / width < request_beats op size width
beat_of op width size number bus d h =
    let pos = bus_pos width (bus_of width bus) in
    let few : number / width < data_beats size width = elim (compared width size (bus_of width bus)) [
      | larger times some is ↦
          let count : bytes_of size / width ≡ times = ap (λ (n : ℕ). n / width) is ∙ mul-div_cancel_left times pos in
          omega (arith, count, div_below number width times pos (omega (arith, is, h)))
      | smaller times some is below ↦
          omega (arith, div_below number width 1 pos (omega (arith, h, below)))
    ] in
    subst (λ n. number / width < n) (sym (ap (λ b. cond b (data_beats size width) 1) d)) few

beat_there : (width : ℕ) (whole : Request) (number : ℕ) → number < request_beats whole.op whole.size width
    → slice_get (beats_of_request width whole) number ≡ Some (a_beat width whole number)
beat_there width whole number h =
    let count = length-map-range_with_len (a_beat width whole) 0 (request_beats whole.op whole.size width) in
    slice_get-get_or (beats_of_request width whole) number (a_beat width whole 0) (subst (λ n. number < n) (sym count) h)
    ∙ ap (λ b. Some b) (get_or-map-range_with_len (a_beat width whole) 0 _ number number (a_beat width whole 0) h (omega arith))

-- it is an active one
lane_few : (width size number : ℕ) → IsTrue (is_width width) → number < bytes_of size → number % width < lane_count width size
lane_few width size number bus h =
    let below : number % width < width = mod_below number width (bus_pos width (bus_of width bus)) in
    omega (arith, below, div-add-mod' number width)

lane_same : (width size address number : ℕ) → IsTrue (is_width width) → address % bytes_of size ≡ 0 → number < bytes_of size
    → lane_at width address number ≡ first_lane width size address + number % width
lane_same width size address number bus aligned h =
    let first : first_lane width size address ≡ address % width = active_law.first width size address bus aligned in
    let few = lane_few width size number bus h in
    let active : IsActive width size address (first_lane width size address + number % width) = record { from = omega arith; to = omega (arith, few) } in
    let within = active_law.within width size address (first_lane width size address + number % width) bus aligned active in
    ap (λ n. (n + number % width) % width) (sym first) ∙ mod-eq_of_lt within

-- ---- what is gathered from all beats of a request

byte_is : (width : ℕ) (whole : Request) (number : ℕ) → IsSent width whole → has_data whole.op ≡ true → number < bytes_of whole.size
    → gathered_byte width (beats_of_request width whole) number ≡ get_or whole.payload number 0
byte_is width whole number sent d h =
    let few = beat_of whole.op width whole.size number sent.bus d h in
    let at = beat_there width whole (number / width) few in
    let lanes = lanes_law.requests width whole (number / width) sent few in
    let lane = lane_same width whole.size whole.address number sent.bus sent.whole.shape.aligned h in
    ap (λ o. on_lane (λ beat lane. lane_of 256 lane beat.payload) 0 width o number) at
    ∙ ap (λ k. lane_of 256 k (a_beat width whole (number / width)).payload) lane
    ∙ lanes.bytes (number % width) (lane_few width whole.size number sent.bus h)
    ∙ ap (λ n. get_or whole.payload n 0) (div-add-mod' number width)

bit_of : (b : Bool) → (from_bool b == 1) ≡ b
bit_of true = refl
bit_of false = refl

flagged_data : (op : Op) → has_flags op ≡ true → has_data op ≡ true
flagged_data PutFull h = refl
flagged_data PutPartial h = refl
flagged_data Arithmetic h = refl
flagged_data Logical h = refl
flagged_data Get h = absurd (let e : false ≡ true = h in cc)
flagged_data Intent h = absurd (let e : false ≡ true = h in cc)

flag_is : (width : ℕ) (whole : Request) (number : ℕ) → IsSent width whole → has_flags whole.op ≡ true → number < bytes_of whole.size
    → gathered_flag width (beats_of_request width whole) number ≡ get_or whole.mask number false
flag_is width whole number sent f h =
    let few = beat_of whole.op width whole.size number sent.bus (flagged_data whole.op f) h in
    let at = beat_there width whole (number / width) few in
    let lanes = lanes_law.requests width whole (number / width) sent few in
    let lane = lane_same width whole.size whole.address number sent.bus sent.whole.shape.aligned h in
    let flags : flags_of whole ≡ whole.mask = ap (λ b. cond b whole.mask (replicate (bytes_of whole.size) true)) f in
    ap (λ o. on_lane (λ beat lane. lane_of 2 lane beat.mask == 1) false width o number) at
    ∙ ap (λ k. lane_of 2 k (a_beat width whole (number / width)).mask == 1) lane
    ∙ ap (λ n. n == 1) (lanes.marks (number % width) (lane_few width whole.size number sent.bus h))
    ∙ bit_of _
    ∙ ap (λ n. get_or (flags_of whole) n false) (div-add-mod' number width)
    ∙ ap (λ xs. get_or xs number false) flags

-- a list gathered at a function that gives the items of another one of that length is that one
same_items : {A : Type 0} (d : A) (f : ℕ → A) (count : ℕ) (xs : List A) → length xs ≡ count
    → ((number : ℕ) → number < count → f number ≡ get_or xs number d) → map f (range_with_len 0 count) ≡ xs
same_items d f count xs l h =
    ext_get_or d (map f (range_with_len 0 count)) xs (length-map-range_with_len f 0 count ∙ sym l)
    (λ i b. let c : i < count = subst (λ n. i < n) (length-map-range_with_len f 0 count) b in
    get_or-map-range_with_len f 0 count i i d c (omega arith) ∙ h i c)

pub bytes_are : (has : Bool) (width : ℕ) (whole : Request) → has_data whole.op ≡ has → IsSent width whole
    → map (gathered_byte width (beats_of_request width whole)) (range_with_len 0 (length whole.payload)) ≡ whole.payload
bytes_are true width whole d sent =
    let count : length whole.payload ≡ bytes_of whole.size = sent.whole.shape.bytes ∙ ap (λ b. cond b (bytes_of whole.size) 0) d in
    same_items 0 _ (length whole.payload) whole.payload refl (λ number h. byte_is width whole number sent d (omega (arith, h, count)))
bytes_are false width whole d sent =
    let count : length whole.payload ≡ 0 = sent.whole.shape.bytes ∙ ap (λ b. cond b (bytes_of whole.size) 0) d in
    same_items 0 _ (length whole.payload) whole.payload refl (λ number h. absurd (omega (arith, h, count)))

pub flags_are : (has : Bool) (width : ℕ) (whole : Request) → has_flags whole.op ≡ has → IsSent width whole
    → map (gathered_flag width (beats_of_request width whole)) (range_with_len 0 (length whole.mask)) ≡ whole.mask
flags_are true width whole f sent =
    let count : length whole.mask ≡ bytes_of whole.size = sent.whole.shape.flags ∙ ap (λ b. cond b (bytes_of whole.size) 0) f in
    same_items false _ (length whole.mask) whole.mask refl (λ number h. flag_is width whole number sent f (omega (arith, h, count)))
flags_are false width whole f sent =
    let count : length whole.mask ≡ 0 = sent.whole.shape.flags ∙ ap (λ b. cond b (bytes_of whole.size) 0) f in
    same_items false _ (length whole.mask) whole.mask refl (λ number h. absurd (omega (arith, h, count)))

-- ---- how many beats there are

few_data : (has : Bool) (size width : ℕ) → size ≤ 8 → cond has (data_beats size width) 1 ≤ 256
few_data true size width h =
    let bytes : 2 ^ size ≤ 2 ^ 8 = pow-le-pow_right (lit≤ tt) h in
    omega (arith, bytes, div-le_self (2 ^ size) width)
few_data false size width h = omega arith

pub few_back : (ack : Ack) (size width : ℕ) → size ≤ 8 → response_beats ack size width ≤ 256
few_back ack size width h = few_data (brings_data ack) size width h

pub few_there : (op : Op) (size width : ℕ) → size ≤ 8 → request_beats op size width ≤ 256
few_there op size width h = few_data (has_data op) size width h

-- a beat that is the next one of a request
pub record IsNextOf (width : ℕ) (request : Request) (taken : List ABeat) (beat : ABeat) : Type 0 where
  pub few : length taken < 256
  pub small : beat.size ≤ 8
  pub fields : IsBeatOf request beat
  pub all : IsTrue (are_all width (taken ++ beat ∷ []) beat) → taken ++ beat ∷ [] ≡ beats_of_request width request

pub next_of : (width : ℕ) (request : Request) (taken : List ABeat) (beat : ABeat) → request.size ≤ 8
    → taken ≡ take (length taken) (beats_of_request width request)
    → slice_get (beats_of_request width request) (length taken) ≡ Some beat → IsNextOf width request taken beat
next_of width request taken beat small before next =
    let is = next_law.request_beat width request (length taken) beat next in
    let fields : IsBeatOf request beat = subst (λ (b : ABeat). IsBeatOf request b) (sym is.1) (record { op = refl; param = refl; size = refl; source = refl; address = refl }) in
    let within : length taken < length (beats_of_request width request) = slice_get_within (beats_of_request width request) (length taken) beat next in
    let more : take (length taken + 1) (beats_of_request width request) ≡ taken ++ beat ∷ [] =
    take_more (beats_of_request width request) (length taken) beat within
    ∙ ap (λ x. take (length taken) (beats_of_request width request) ++ x ∷ []) (get_or_from_slice_get (beats_of_request width request) (length taken) beat beat next)
    ∙ ap (λ xs. xs ++ beat ∷ []) (sym before) in
    let size : beat.size ≡ request.size = fields.size in
    record {
      few = omega (arith, is.0, few_there request.op request.size width small);
      small = omega (arith, size, small);
      fields = fields;
      all = λ h.
          let count : length (taken ++ beat ∷ []) ≡ request_beats beat.op beat.size width = grind (arith, h) in
          let same : request_beats beat.op beat.size width ≡ request_beats request.op request.size width = ap (λ o. request_beats o beat.size width) fields.op ∙ ap (λ n. request_beats request.op n width) fields.size in
          let whole : length taken + 1 ≡ length (beats_of_request width request) = omega (arith, count, same, length-append taken (beat ∷ []), length-map-range_with_len (a_beat width request) 0 (request_beats request.op request.size width)) in
          sym more ∙ ap (λ n. take n (beats_of_request width request)) whole ∙ take-length (beats_of_request width request);
    }
