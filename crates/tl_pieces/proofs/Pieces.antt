-- The pieces of a request.
use Rattle.std.proofs.Common.{ℕ, ◌≡◌, ◌+◌, ◌*◌, ◌/◌, ◌%◌, ◌-◌, ◌<◌, ◌≤◌, inl, inr, List, [], ◌∷◌, ◌++◌, append-nil, length, get_or, drop, map, Bool, true, false, cond, All, AllPairs, ap, sym, ◌∙◌, refl, subst, arith}
use Rattle.std.specs.Int.{IsPowerOfTwo}
use Rattle.std.specs.Prelude.{Any}
use Rattle.std.specs.List.{range_with_len, flat_map}
use Rattle.std.proofs.lemmas.Bool.{cases_Bool, cond-true, cond-false}
use Rattle.std.proofs.lemmas.Nat.{div-add-mod', mod_below, div_below, row_fits}
use Rattle.std.proofs.lemmas.List.{length-take, length-drop}
use Rattle.std.proofs.lemmas.List.Elements.{All-cons, All-nil, All-take, All-drop}
use Rattle.std.proofs.lemmas.List.Kept.{AllPairs-cons}
use Rattle.std.proofs.lemmas.List.FromFn.{length-map-range_with_len, get_or-map-range_with_len}
use Rattle.dip_sets.proofs.Lists.{pairs_none}
use Rattle.tl_edge.specs.declared.message.Request.{Request}
use Rattle.tl_edge.specs.Messages.{bytes_of, has_data, has_flags, IsWholeRequest}
use Rattle.tl_edge.specs.Bundles.{log_of}
use Rattle.tl_edge.specs.Beats.{part}
use Rattle.tl_edge.proofs.Fitting.{all_made}
use Rattle.tl_edge.proofs.LaneByLane.{get_or-part}
use Rattle.tl_edge.proofs.Active.{all_or_none}
use Rattle.tl_edge.proofs.Reading.{flat_map-map, parts_joined}
use Rattle.tl_pieces.specs.Cutting.{is_cut, piece_at, piece_count, cut_at}
use Rattle.tl_pieces.specs.CutLaws.{IsCuttable, AsksSame, HasByte, LiesBefore, CutLaw}
use Rattle.tl_pieces.proofs.Parts.{length-part_within, bytes_of-log, most_pos, IsWholePieces, whole_pieces, piece_within, aligned_piece}

uncut : (most : ℕ) (request : Request) → is_cut most request ≡ false → cut_at most request ≡ request ∷ []
uncut most request h = cond-false (is_cut most request) (map (piece_at most request) (range_with_len 0 (piece_count most request))) (request ∷ []) h

pub are_pieces : (most : ℕ) (request : Request) → is_cut most request ≡ true → cut_at most request ≡ map (piece_at most request) (range_with_len 0 (piece_count most request))
are_pieces most request h = cond-true (is_cut most request) (map (piece_at most request) (range_with_len 0 (piece_count most request))) (request ∷ []) h

-- what holds of each piece, or of the request where it isn't cut
all_pieces : (P : Request → Type 0) (most : ℕ) (request : Request) → (is_cut most request ≡ false → P request) → (is_cut most request ≡ true → (number : ℕ) → number < piece_count most request → P (piece_at most request number))
    → All P (cut_at most request)
all_pieces P most request one each =
    elim (cases_Bool (is_cut most request)) [
      | inr no_cut ↦ subst (All P) (sym (uncut most request no_cut)) (All-cons P request [] (one no_cut) (All-nil P))
      | inl cuts ↦ subst (All P) (sym (are_pieces most request cuts))
          (all_made P (piece_at most request) (piece_count most request) (each cuts))
    ]

number_law : (most : ℕ) (request : Request) → IsCuttable most request → is_cut most request ≡ true → length (cut_at most request) * most ≡ bytes_of request.size
number_law most request is h =
    let count : length (cut_at most request) ≡ piece_count most request = ap length (are_pieces most request h) ∙ length-map-range_with_len (piece_at most request) 0 (piece_count most request) in
    ap (λ (n : ℕ). n * most) count ∙ omega (arith, (whole_pieces most request is.size h).times)

-- how much of a list a piece has, where the message has all of it or none
piece_length : {A : Type 0} (kind : Bool) (most total number : ℕ) (xs : List A) → length xs ≡ cond kind total 0 → number * most + most ≤ total → length (part most number xs) ≡ cond kind most 0
piece_length true most total number xs e fits = length-part_within most number xs (omega (arith, e, fits))
piece_length false most total number xs e fits = omega (arith, e, length-take most (drop (number * most) xs), length-drop (number * most) xs)

pub whole_piece : (most : ℕ) (request : Request) (number : ℕ) → IsCuttable most request → is_cut most request ≡ true → number < piece_count most request → IsWholeRequest (piece_at most request number)
whole_piece most request number is h below =
    let pieces : IsWholePieces most request = whole_pieces most request is.size h in
    let within : number * most + most ≤ bytes_of request.size = piece_within most request number pieces below in
    let size : bytes_of (log_of most) ≡ most = bytes_of-log most is.size in
    let aligned : request.address % (most * piece_count most request) ≡ 0 = sym (ap (λ (n : ℕ). request.address % n) pieces.times) ∙ is.whole.shape.aligned in
    record {
      shape = record {
        small = omega (arith, pieces.smaller, is.whole.shape.small);
        aligned = ap (λ (n : ℕ). (request.address + number * most) % n) size ∙ aligned_piece most (piece_count most request) request.address number (most_pos most is.size) aligned;
        flags = piece_length (has_flags request.op) most (bytes_of request.size) number request.mask is.whole.shape.flags within ∙ sym (ap (λ (n : ℕ). cond (has_flags request.op) n 0) size);
        bytes = piece_length (has_data request.op) most (bytes_of request.size) number request.payload is.whole.shape.bytes within ∙ sym (ap (λ (n : ℕ). cond (has_data request.op) n 0) size);
      };
      bytes = All-take (λ byte. byte < 256) most (drop (number * most) request.payload) (All-drop (λ byte. byte < 256) (number * most) request.payload is.whole.bytes);
    }

-- ---- the byte at an offset

-- the byte that a piece has at an offset within it
byte_in_piece : (most : ℕ) (request : Request) (number offset : ℕ) → IsPowerOfTwo most → number * most ≤ offset → offset < number * most + most → HasByte request offset (piece_at most request number)
byte_in_piece most request number offset size from to =
    let inner : request.address + offset - (request.address + number * most) ≡ offset - number * most = omega (arith, from) in
    let short : offset - number * most < most = omega (arith, from, to) in
    let place : number * most + (offset - number * most) ≡ offset = omega (arith, from) in
    record {
      from = omega (arith, from);
      to = omega (arith, to, bytes_of-log most size);
      is = ap (λ (n : ℕ). get_or (part most number request.payload) n 0) inner ∙ get_or-part most number (offset - number * most) request.payload short ∙ ap (λ (n : ℕ). get_or request.payload n 0) place;
    }

byte_in_itself : (request : Request) (offset : ℕ) → offset < bytes_of request.size → HasByte request offset request
byte_in_itself request offset below =
    record { from = omega arith; to = omega (arith, below); is = ap (λ (n : ℕ). get_or request.payload n 0) (omega arith) }

has_byte : (most : ℕ) (request : Request) (offset : ℕ) → IsCuttable most request → offset < bytes_of request.size → Any (HasByte request offset) (cut_at most request)
has_byte most request offset is below =
    elim (cases_Bool (is_cut most request)) [
      | inr no_cut ↦ subst (Any (HasByte request offset)) (sym (uncut most request no_cut)) (0, request, omega arith, refl, byte_in_itself request offset below)
      | inl cuts ↦
          let some : 0 < most = most_pos most is.size in
          let pieces : IsWholePieces most request = whole_pieces most request is.size cuts in
          let number : ℕ = offset / most in
          let within : offset / most < piece_count most request = div_below offset most (piece_count most request) some (omega (arith, below, pieces.times)) in
          let split : offset / most * most + offset % most ≡ offset = div-add-mod' offset most in
          let item : piece_at most request (offset / most) ≡ get_or (map (piece_at most request) (range_with_len 0 (piece_count most request))) (offset / most) (piece_at most request (offset / most)) =
          sym (get_or-map-range_with_len (piece_at most request) 0 (piece_count most request) (offset / most) (offset / most) (piece_at most request (offset / most)) within (omega arith)) in
          subst (Any (HasByte request offset)) (sym (are_pieces most request cuts)) (
            offset / most,
            piece_at most request (offset / most),
            omega (arith, within, length-map-range_with_len (piece_at most request) 0 (piece_count most request)),
            sym item,
            byte_in_piece most request (offset / most) offset is.size (omega (arith, split)) (omega (arith, split, mod_below offset most some)),
          )
    ]

-- ---- pieces stand apart

one_alone : (R : Request → Request → Type 0) (request : Request) → AllPairs R (request ∷ [])
one_alone R request = AllPairs-cons R request [] (All-nil (R request)) (pairs_none R)

ends_before : (most : ℕ) (request : Request) (one other : ℕ) → IsPowerOfTwo most → one < other → LiesBefore (piece_at most request one) (piece_at most request other)
ends_before most request one other size less = omega (arith, bytes_of-log most size, row_fits one most other most less (omega arith))

apart : (most : ℕ) (request : Request) → IsCuttable most request → AllPairs LiesBefore (cut_at most request)
apart most request is =
    elim (cases_Bool (is_cut most request)) [
      | inr no_cut ↦ subst (AllPairs LiesBefore) (sym (uncut most request no_cut)) (one_alone LiesBefore request)
      | inl cuts ↦ subst (AllPairs LiesBefore) (sym (are_pieces most request cuts)) (λ i j d less below.
          let within : j < piece_count most request = omega (arith, below, length-map-range_with_len (piece_at most request) 0 (piece_count most request)) in
          let first : get_or (map (piece_at most request) (range_with_len 0 (piece_count most request))) i d ≡ piece_at most request i =
          get_or-map-range_with_len (piece_at most request) 0 (piece_count most request) i i d (omega (arith, less, within)) (omega arith) in
          let second : get_or (map (piece_at most request) (range_with_len 0 (piece_count most request))) j d ≡ piece_at most request j =
          get_or-map-range_with_len (piece_at most request) 0 (piece_count most request) j j d within (omega arith) in
          subst (λ (r : Request). LiesBefore r (get_or (map (piece_at most request) (range_with_len 0 (piece_count most request))) j d)) (sym first)
          (subst (λ (r : Request). LiesBefore (piece_at most request i) r) (sym second) (ends_before most request i j is.size less)))
    ]

-- ---- pieces joined

joined : {A : Type 0} (field : Request → List A) (most : ℕ) (request : Request) → IsPowerOfTwo most → length (field request) ≤ bytes_of request.size
    → ((number : ℕ) → field (piece_at most request number) ≡ part most number (field request)) → flat_map field (cut_at most request) ≡ field request
joined {A = A} field most request size few parts =
    elim (cases_Bool (is_cut most request)) [
      | inr no_cut ↦ ap (flat_map field) (uncut most request no_cut) ∙ append-nil (field request)
      | inl cuts ↦
          let enough : length (field request) ≤ (0 + piece_count most request) * most = omega (arith, few, (whole_pieces most request size cuts).times) in
          let start : 0 * most ≡ 0 = omega arith in
          ap (flat_map field) (are_pieces most request cuts)
          ∙ flat_map-map (piece_at most request) field (range_with_len 0 (piece_count most request))
          ∙ same_parts (range_with_len 0 (piece_count most request))
          ∙ parts_joined most (piece_count most request) 0 (field request) enough
          ∙ ap (λ (n : ℕ). drop n (field request)) start
    ]
  where
    same_parts : (numbers : List ℕ) → flat_map (λ n. field (piece_at most request n)) numbers ≡ flat_map (λ n. part most n (field request)) numbers
    same_parts [] = refl
    same_parts (n ∷ numbers) = ap (λ (xs : List A). xs ++ flat_map (λ n. field (piece_at most request n)) numbers) (parts n) ∙ ap (λ (xs : List A). part most n (field request) ++ xs) (same_parts numbers)

pub cut_law : CutLaw
cut_law = record {
  uncut = uncut;
  number = number_law;
  small = λ most request is h. all_pieces (λ (r : Request). bytes_of r.size ≡ most) most request (λ no_cut. absurd cc) (λ cuts number below. bytes_of-log most is.size);
  same = λ most request. all_pieces (AsksSame request) most request (λ no_cut. record { op = refl; param = refl; source = refl }) (λ cuts number below. record { op = refl; param = refl; source = refl });
  whole = λ most request is. all_pieces IsWholeRequest most request (λ no_cut. is.whole) (λ cuts number below. whole_piece most request number is cuts below);
  bytes = has_byte;
  apart = apart;
  flags_joined = λ most request is. joined (λ (r : Request). r.mask) most request is.size (all_or_none _ _ _ is.whole.shape.flags) (λ number. refl);
  data_joined = λ most request is. joined (λ (r : Request). r.payload) most request is.size (all_or_none _ _ _ is.whole.shape.bytes) (λ number. refl);
}
