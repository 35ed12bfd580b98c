-- Parts of lists, and the sizes of pieces.
use Rattle.std.proofs.Common.{ℕ, ◌≡◌, ◌+◌, ◌*◌, ◌/◌, ◌%◌, ◌^◌, ◌-◌, ◌<◌, ◌≤◌, List, [], length, take, drop, true, nat_lt, ap, sym, ◌∙◌, arith}
use Rattle.std.specs.Int.{IsPowerOfTwo}
use Rattle.std.proofs.Math.Nat.{mul-div_cancel_left, mod-mod_of_dvd, dvd-mul_right, add-mul-mod_self_right, mod-eq_of_lt, mul-mod_right}
use Rattle.std.proofs.lemmas.Bool.{and_parts, ltb-true}
use Rattle.std.proofs.lemmas.Nat.{pow_pos, pow-add, row_fits}
use Rattle.std.proofs.lemmas.List.{take-take, drop-take, drop-drop, length-take, length-drop, nil_from_length}
use Rattle.tl_edge.specs.declared.message.Request.{Request}
use Rattle.tl_edge.specs.Bundles.{log_of}
use Rattle.tl_edge.specs.Messages.{bytes_of}
use Rattle.tl_edge.specs.Beats.{part}
use Rattle.tl_edge.proofs.Reading.{multiples_apart}
use Rattle.tl_edge.proofs.Widths.{log_of-pow, exponents-lt}
use Rattle.tl_pieces.specs.Cutting.{may_be_cut, is_cut, piece_count}

-- ---- parts of parts

-- the parts of a part, so many of which fill it, are parts of the list
pub part-part : {A : Type 0} (width count number k : ℕ) (xs : List A) → k < count → part width k (part (count * width) number xs) ≡ part width (number * count + k) xs
part-part {A = A} width count number k xs h =
    let fits : k * width + width ≤ count * width = row_fits k width count width h (omega arith) in
    let rest : ℕ = count * width - k * width in
    let whole : count * width ≡ k * width + (count * width - k * width) = omega (arith, fits) in
    let place : number * (count * width) + k * width ≡ (number * count + k) * width = grind arith in
    ap (λ (n : ℕ). take width (drop (k * width) (take n (drop (number * (count * width)) xs)))) whole
    ∙ ap (take width) (drop-take (k * width) (count * width - k * width) (drop (number * (count * width)) xs))
    ∙ take-take width (count * width - k * width) (drop (k * width) (drop (number * (count * width)) xs)) (omega (arith, fits))
    ∙ ap (take width) (drop-drop (k * width) (number * (count * width)) xs)
    ∙ ap (λ (n : ℕ). take width (drop n xs)) place

pub part-nil : {A : Type 0} (width number : ℕ) → part {A = A} width number [] ≡ []
part-nil {A = A} width number = nil_from_length (part width number []) (omega (arith, length-take {A = A} width (drop (number * width) []), length-drop {A = A} (number * width) []))

-- a part that is whole within the list
pub length-part_within : {A : Type 0} (width number : ℕ) (xs : List A) → number * width + width ≤ length xs → length (part width number xs) ≡ width
length-part_within width number xs h = omega (arith, h, length-take width (drop (number * width) xs), length-drop (number * width) xs)

-- ---- the size of pieces

pub bytes_of-log : (most : ℕ) → IsPowerOfTwo most → bytes_of (log_of most) ≡ most
bytes_of-log most size = ap (λ (n : ℕ). bytes_of (log_of n)) size.1 ∙ ap (λ (n : ℕ). 2 ^ n) (log_of-pow size.0) ∙ sym size.1

pub log-most : (most : ℕ) (size : IsPowerOfTwo most) → log_of most ≡ size.0
log-most most size = ap log_of size.1 ∙ log_of-pow size.0

pub most_pos : (most : ℕ) → IsPowerOfTwo most → 0 < most
most_pos most size = omega (arith, size.1, pow_pos size.0)

-- what is cut has more bytes than a piece
pub larger_than_most : (most : ℕ) (request : Request) → is_cut most request ≡ true → most < bytes_of request.size
larger_than_most most request h = ltb-true most (bytes_of request.size) (and_parts (may_be_cut request.op) (nat_lt most (bytes_of request.size)) h).1

pub cut_kind : (most : ℕ) (request : Request) → is_cut most request ≡ true → may_be_cut request.op ≡ true
cut_kind most request h = (and_parts (may_be_cut request.op) (nat_lt most (bytes_of request.size)) h).0

-- a request that is cut has a whole number of pieces
pub record IsWholePieces (most : ℕ) (request : Request) : Type 0 where
  pub times : bytes_of request.size ≡ most * piece_count most request
  pub smaller : log_of most < request.size

pub whole_pieces : (most : ℕ) (request : Request) → IsPowerOfTwo most → is_cut most request ≡ true → IsWholePieces most request
whole_pieces most request size h =
    let more : most < bytes_of request.size = larger_than_most most request h in
    let less : size.0 < request.size = exponents-lt size.0 request.size (omega (arith, more, size.1)) in
    let rest : ℕ = request.size - size.0 in
    let parts : bytes_of request.size ≡ most * 2 ^ (request.size - size.0) =
    ap (λ (n : ℕ). 2 ^ n) (omega (arith, less)) ∙ pow-add 2 size.0 (request.size - size.0) ∙ ap (λ (n : ℕ). n * 2 ^ (request.size - size.0)) (sym size.1) in
    let count : piece_count most request ≡ 2 ^ (request.size - size.0) = ap (λ (n : ℕ). n / most) parts ∙ mul-div_cancel_left (2 ^ (request.size - size.0)) (most_pos most size) in
    record { times = parts ∙ ap (λ (n : ℕ). most * n) (sym count); smaller = omega (arith, less, log-most most size) }

-- a piece lies within the request
pub piece_within : (most : ℕ) (request : Request) (number : ℕ) → IsWholePieces most request → number < piece_count most request → number * most + most ≤ bytes_of request.size
piece_within most request number pieces h = omega (arith, pieces.times, row_fits number most (piece_count most request) most h (omega arith))

-- a multiple of a piece behind an aligned address is aligned
pub aligned_piece : (most times address number : ℕ) → 0 < most → address % (most * times) ≡ 0 → (address + number * most) % most ≡ 0
aligned_piece most times address number some aligned =
    add-mul-mod_self_right address number most
    ∙ sym (mod-mod_of_dvd most address (dvd-mul_right most times))
    ∙ ap (λ (n : ℕ). n % most) aligned ∙ mod-eq_of_lt some

-- the end of an aligned transfer is no greater than the greatest address
pub offset_fits : (address size offset : ℕ) → size ≤ 8 → address % bytes_of size ≡ 0 → offset < bytes_of size → address < 2 ^ 64 → address + offset < 2 ^ 64
offset_fits address size offset small aligned within fits =
    let parts : 64 ≡ size + (64 - size) = omega (arith, small) in
    let whole : 2 ^ 64 ≡ bytes_of size * 2 ^ (64 - size) = ap (λ (k : ℕ). 2 ^ k) parts ∙ pow-add 2 size (64 - size) in
    let multiple : 2 ^ 64 % bytes_of size ≡ 0 = ap (λ (k : ℕ). k % bytes_of size) whole ∙ mul-mod_right (bytes_of size) (2 ^ (64 - size)) in
    let end : address + bytes_of size ≤ 2 ^ 64 = multiples_apart (bytes_of size) address (2 ^ 64) (pow_pos size) aligned multiple fits in
    omega (arith, within, end)

-- a piece begins within the request
pub piece_begins : (most : ℕ) (request : Request) (number : ℕ) → IsPowerOfTwo most → is_cut most request ≡ true → number < piece_count most request → number * most < bytes_of request.size
piece_begins most request number size cuts below = omega (arith, piece_within most request number (whole_pieces most request size cuts) below, most_pos most size)
