-- The beats of pieces among those of their request.
use Rattle.std.proofs.Common.{ℕ, ◌≡◌, ◌+◌, ◌*◌, ◌/◌, ◌-◌, ◌<◌, ◌≤◌, inl, inr, List, [], take, replicate, Bool, true, false, cond, IsTrue, ap, sym, ◌∙◌, refl, arith, zero, suc}
use Rattle.std.specs.Int.{IsPowerOfTwo}
use Rattle.std.proofs.Math.Nat.{mul-div_cancel_left}
use Rattle.std.proofs.lemmas.Bool.{cases_Bool, cond-true, cond-false}
use Rattle.std.proofs.lemmas.Nat.{row_fits, pow_pos}
use Rattle.std.proofs.lemmas.List.{nil_from_length, drop-replicate, take-replicate}
use Rattle.tl_params.specs.Arguments.{is_width}
use Rattle.tl_params.specs.declared.ops.Ack.{Ack}
use Rattle.tl_params.specs.declared.ops.Op.{Op}
use Rattle.tl_params.specs.declared.ops.Op.TheVariants.{PutFull, PutPartial, Arithmetic, Logical, Get, Intent}
use Rattle.tl_edge.specs.declared.message.Request.{Request}
use Rattle.tl_edge.specs.Bundles.{log_of}
use Rattle.tl_edge.specs.Messages.{bytes_of, has_data, has_flags, ack_of, brings_data}
use Rattle.tl_edge.specs.Beats.{first_lane, lane_count, on_bits, on_bytes, part, data_beats, request_beats, response_beats, flags_of, a_beat}
use Rattle.tl_edge.proofs.Active.{IsBus, bus_of, bus_pos, compared, larger, smaller, first_large, set_part}
use Rattle.tl_pieces.specs.Cutting.{piece_at, piece_count}
use Rattle.tl_pieces.specs.CutLaws.{IsCutOn, piece_beats, answer_beats, PieceBeatsLaw}
use Rattle.tl_pieces.proofs.Placing.{beats_of_large}
use Rattle.tl_pieces.proofs.Parts.{part-part, part-nil, bytes_of-log, larger_than_most, most_pos, IsWholePieces, whole_pieces, piece_within}

-- a piece has a whole number of beats' bytes
pub record IsWholeBeats (width most : ℕ) : Type 0 where
  pub is : most ≡ data_beats (log_of most) width * width
  pub some : 0 < width

pub whole_beats : (width most : ℕ) → IsTrue (is_width width) → IsPowerOfTwo most → width ≤ most → IsWholeBeats width most
whole_beats width most is_bus size filled =
    let bus : IsBus width = bus_of width is_bus in
    let bytes : bytes_of (log_of most) ≡ most = bytes_of-log most size in
    elim (compared width (log_of most) bus) [
      | larger times some is ↦
          let count : bytes_of (log_of most) / width ≡ times = ap (λ (n : ℕ). n / width) is ∙ mul-div_cancel_left times (bus_pos width bus) in
          let beats : data_beats (log_of most) width ≡ times = omega (arith, count, some) in
          record { is = sym bytes ∙ is ∙ ap (λ (n : ℕ). width * n) (sym beats) ∙ grind arith; some = bus_pos width bus }
      | smaller times some is below ↦ absurd (omega (arith, below, bytes, filled))
    ]

-- the first lane of what isn't smaller than the bus
pub first_zero : (width most : ℕ) (request : Request) (number : ℕ) → IsCutOn width most request → first_lane width (log_of most) (request.address + number * most) ≡ first_lane width request.size request.address
first_zero width most request number on =
    first_large width (log_of most) (request.address + number * most) (omega (arith, on.filled, bytes_of-log most on.cuttable.size))
    ∙ sym (first_large width request.size request.address (omega (arith, on.filled, larger_than_most most request on.cut)))

-- ---- what has a part in each beat: data, and flags of a message with data

pub same_part : {A : Type 0} (width most number beat : ℕ) (xs : List A) → IsWholeBeats width most → beat < data_beats (log_of most) width
    → part width beat (part most number xs) ≡ part width (number * data_beats (log_of most) width + beat) xs
same_part width most number beat xs whole h =
    ap (λ (n : ℕ). part width beat (part n number xs)) whole.is ∙ part-part width (data_beats (log_of most) width) number beat xs h

-- the flags of a piece are its part of the request's
piece_flags : (most : ℕ) (request : Request) (number : ℕ) → IsPowerOfTwo most → number * most + most ≤ bytes_of request.size → flags_of (piece_at most request number) ≡ part most number (flags_of request)
piece_flags most request number size within = by_kind (has_flags request.op)
  where
    all : replicate (bytes_of (log_of most)) true ≡ part most number (replicate (bytes_of request.size) true)
    all =
        ap (λ (n : ℕ). replicate n true) (bytes_of-log most size)
        ∙ sym (take-replicate most (bytes_of request.size - number * most) true (omega (arith, within)))
        ∙ sym (ap (λ (xs : List Bool). take most xs) (drop-replicate (number * most) (bytes_of request.size) true))

    by_kind : (own : Bool) → cond own (part most number request.mask) (replicate (bytes_of (log_of most)) true) ≡ part most number (cond own request.mask (replicate (bytes_of request.size) true))
    by_kind true = refl
    by_kind false = all

-- a message without data has no flags of its own
no_flags : (op : Op) → has_data op ≡ false → has_flags op ≡ false
no_flags PutFull h = refl
no_flags PutPartial h = absurd cc
no_flags Arithmetic h = refl
no_flags Logical h = refl
no_flags Get h = refl
no_flags Intent h = refl

-- ---- the beats

data_count : (op : Op) (size width : ℕ) → has_data op ≡ true → request_beats op size width ≡ data_beats size width
data_count op size width h = cond-true (has_data op) (data_beats size width) 1 h

one_count : (op : Op) (size width : ℕ) → has_data op ≡ false → request_beats op size width ≡ 1
one_count op size width h = cond-false (has_data op) (data_beats size width) 1 h

payload_law : (width most : ℕ) (request : Request) (number beat : ℕ) → IsCutOn width most request → number < piece_count most request → beat < piece_beats width most request
    → (a_beat width (piece_at most request number) beat).payload ≡ (a_beat width request (number * piece_beats width most request + beat)).payload
payload_law width most request number beat on below h =
    ap (λ (first : ℕ). on_bytes first (part width beat (part most number request.payload))) (first_zero width most request number on)
    ∙ ap (λ (bytes : List ℕ). on_bytes (first_lane width request.size request.address) bytes) parts
  where
    parts : part width beat (part most number request.payload) ≡ part width (number * piece_beats width most request + beat) request.payload
    parts = elim (cases_Bool (has_data request.op)) [
      | inl data_too ↦
          let count : piece_beats width most request ≡ data_beats (log_of most) width = data_count request.op (log_of most) width data_too in
          same_part width most number beat request.payload (whole_beats width most on.bus on.cuttable.size on.filled) (omega (arith, h, count))
          ∙ ap (λ (n : ℕ). part width (number * n + beat) request.payload) (sym count)
      | inr none ↦
          let empty : request.payload ≡ [] = nil_from_length request.payload (on.cuttable.whole.shape.bytes ∙ cond-false (has_data request.op) (bytes_of request.size) 0 none) in
          ap (λ (bytes : List ℕ). part width beat (part most number bytes)) empty
          ∙ ap (part width beat) (part-nil {A = ℕ} most number) ∙ part-nil {A = ℕ} width beat
          ∙ sym (part-nil {A = ℕ} width (number * piece_beats width most request + beat))
          ∙ sym (ap (λ (bytes : List ℕ). part width (number * piece_beats width most request + beat) bytes) empty)
    ]

-- a beat's part of flags that are all set
all_set : (width size number : ℕ) → width ≤ bytes_of size → number * width + width ≤ bytes_of size → part width number (replicate (bytes_of size) true) ≡ replicate width true
all_set width size number large within =
    let count : lane_count width size ≡ width = omega (arith, large) in
    set_part width size number (omega (arith, count, within)) ∙ ap (λ (n : ℕ). replicate n true) count

mask_law : (width most : ℕ) (request : Request) (number beat : ℕ) → IsCutOn width most request → number < piece_count most request → beat < piece_beats width most request
    → (a_beat width (piece_at most request number) beat).mask ≡ (a_beat width request (number * piece_beats width most request + beat)).mask
mask_law width most request number beat on below h =
    ap (λ (first : ℕ). on_bits first (part width beat (flags_of (piece_at most request number)))) (first_zero width most request number on)
    ∙ ap (λ (flags : List Bool). on_bits (first_lane width request.size request.address) flags) parts
  where
    pieces : IsWholePieces most request
    pieces = whole_pieces most request on.cuttable.size on.cut

    within : number * most + most ≤ bytes_of request.size
    within = piece_within most request number pieces below

    bytes : bytes_of (log_of most) ≡ most
    bytes = bytes_of-log most on.cuttable.size

    set_in : (r : Request) (flags : List Bool) → has_flags r.op ≡ false → flags_of r ≡ replicate (bytes_of r.size) true
    set_in r flags none = cond-false (has_flags r.op) r.mask (replicate (bytes_of r.size) true) none

    parts : part width beat (flags_of (piece_at most request number)) ≡ part width (number * piece_beats width most request + beat) (flags_of request)
    parts = elim (cases_Bool (has_data request.op)) [
      | inl data_too ↦
          let count : piece_beats width most request ≡ data_beats (log_of most) width = data_count request.op (log_of most) width data_too in
          ap (λ (flags : List Bool). part width beat flags) (piece_flags most request number on.cuttable.size within)
          ∙ same_part width most number beat (flags_of request) (whole_beats width most on.bus on.cuttable.size on.filled) (omega (arith, h, count))
          ∙ ap (λ (n : ℕ). part width (number * n + beat) (flags_of request)) (sym count)
      | inr none ↦
          let one : piece_beats width most request ≡ 1 = one_count request.op (log_of most) width none in
          let first : beat ≡ 0 = omega (arith, h, one) in
          let place : number * piece_beats width most request + beat ≡ number = ap (λ (n : ℕ). number * n + beat) one ∙ omega (arith, first) in
          let unflagged : has_flags request.op ≡ false = no_flags request.op none in
          let inner : number * width + width ≤ bytes_of request.size = omega (arith, pieces.times, row_fits number width (piece_count most request) most below on.filled) in
          let start : 0 * width + width ≤ bytes_of (log_of most) = omega (arith, bytes, on.filled) in
          ap (λ (flags : List Bool). part width beat flags) (set_in (piece_at most request number) [] unflagged)
          ∙ ap (λ (n : ℕ). part width n (replicate (bytes_of (log_of most)) true)) first
          ∙ all_set width (log_of most) 0 (omega (arith, bytes, on.filled)) start
          ∙ sym (all_set width request.size number (omega (arith, on.filled, larger_than_most most request on.cut)) inner)
          ∙ sym (ap (λ (n : ℕ). part width n (replicate (bytes_of request.size) true)) place)
          ∙ sym (ap (λ (flags : List Bool). part width (number * piece_beats width most request + beat) flags) (set_in request [] unflagged))
    ]

-- ---- how many beats all pieces have

data_total : (width most : ℕ) (request : Request) → IsCutOn width most request → data_beats request.size width ≡ piece_count most request * data_beats (log_of most) width
data_total width most request on =
    let pieces : IsWholePieces most request = whole_pieces most request on.cuttable.size on.cut in
    let beats : IsWholeBeats width most = whole_beats width most on.bus on.cuttable.size on.filled in
    let some : 0 < most = most_pos most on.cuttable.size in
    let any : 0 < piece_count most request * data_beats (log_of most) width = positive (piece_count most request) (data_beats (log_of most) width) most width (bytes_of request.size) pieces.times beats.is (pow_pos request.size) some in
    beats_of_large width request.size (piece_count most request * data_beats (log_of most) width) beats.some any
    (pieces.times ∙ ap (λ (n : ℕ). n * piece_count most request) beats.is ∙ turned (data_beats (log_of most) width) width (piece_count most request))
  where
    turned : (c w p : ℕ) → c * w * p ≡ w * (p * c)
    turned c w p = grind arith

    positive : (p c m w b : ℕ) → b ≡ m * p → m ≡ c * w → 0 < b → 0 < m → 0 < p * c
    positive zero c m w b e f h k = absurd (omega (arith, e, h))
    positive (suc p) zero m w b e f h k = absurd (omega (arith, f, k))
    positive (suc p) (suc c) m w b e f h k = omega arith

count_law : (width most : ℕ) (request : Request) → IsCutOn width most request → has_data request.op ≡ true → request_beats request.op request.size width ≡ piece_count most request * piece_beats width most request
count_law width most request on h =
    data_count request.op request.size width h ∙ data_total width most request on ∙ ap (λ (n : ℕ). piece_count most request * n) (sym (data_count request.op (log_of most) width h))

back_count : (ack : Ack) (size width : ℕ) → brings_data ack ≡ true → response_beats ack size width ≡ data_beats size width
back_count ack size width h = cond-true (brings_data ack) (data_beats size width) 1 h

count_back_law : (width most : ℕ) (request : Request) → IsCutOn width most request → brings_data (ack_of request.op) ≡ true
    → response_beats (ack_of request.op) request.size width ≡ piece_count most request * answer_beats width most request
count_back_law width most request on h =
    back_count (ack_of request.op) request.size width h ∙ data_total width most request on ∙ ap (λ (n : ℕ). piece_count most request * n) (sym (back_count (ack_of request.op) (log_of most) width h))

pub piece_beats_law : PieceBeatsLaw
piece_beats_law = record { count = count_law; count_back = count_back_law; mask = mask_law; payload = payload_law }
