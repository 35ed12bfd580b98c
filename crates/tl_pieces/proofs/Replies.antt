-- The reply to a request from the answers to its pieces.
use Rattle.std.proofs.Common.{ℕ, zero, suc, ◌≡◌, ◌+◌, ◌*◌, ◌<◌, inl, inr, List, [], ◌∷◌, ◌++◌, append-nil, length, get_or, take, drop, map, replicate, Bool, true, false, ◌||◌, cond, All, Some, slice_get, lit<, ap, sym, ◌∙◌, refl, subst, arith}
use Rattle.std.specs.Prelude.{Any}
use Rattle.std.specs.List.{range_with_len, AllZip}
use Rattle.std.proofs.lemmas.Bool.{cases_Bool, cond-true, cond-false, or_left, or_right, or_from}
use Rattle.std.proofs.lemmas.List.{length-append, length-replicate, nil_from_length, take_at, drop_at, drop-drop}
use Rattle.std.proofs.lemmas.List.Elements.{All-head, All-tail, All-cons, All-nil, All-append, All-replicate}
use Rattle.std.proofs.lemmas.Option.{same_Some}
use Rattle.tl_params.specs.declared.ops.Op.{Op}
use Rattle.tl_params.specs.declared.ops.Ack.{Ack}
use Rattle.tl_edge.specs.declared.message.Request.{Request}
use Rattle.tl_edge.specs.declared.message.Response.{Response}
use Rattle.tl_edge.specs.Bundles.{log_of}
use Rattle.tl_edge.specs.Messages.{bytes_of, ack_of, brings_data, IsWholeResponse, AreBytes}
use Rattle.tl_edge.specs.Beats.{first_lane, on_bytes, part, data_beats, d_beat}
use Rattle.tl_edge.specs.Joined.{told}
use Rattle.tl_edge.proofs.Ways.{item_has}
use Rattle.tl_edge.proofs.Cuts.{made_item}
use Rattle.tl_pieces.specs.Cutting.{is_cut, piece_at, piece_count, cut_at, any_denied, joined_data, reply_data, reply_to}
use Rattle.tl_pieces.specs.CutLaws.{IsCuttable, IsCutOn, answer_beats, AreAnswers, ReplyLaw}
use Rattle.tl_pieces.proofs.Parts.{part-nil}
use Rattle.tl_pieces.proofs.Pieces.{are_pieces, cut_law}
use Rattle.tl_pieces.proofs.PieceBeats.{first_zero, same_part, whole_beats}

-- ---- whether an answer is denied

none_denied : (answers : List Response) → All (λ (answer : Response). answer.denied ≡ false) answers → any_denied answers ≡ false
none_denied [] all = refl
none_denied (answer ∷ answers) all =
    or_from answer.denied (any_denied answers) (All-head (λ (r : Response). r.denied ≡ false) answer answers all) (none_denied answers (All-tail (λ (r : Response). r.denied ≡ false) answer answers all))

denied_at : (answers : List Response) (k : ℕ) (answer : Response) → k < length answers → get_or answers k answer ≡ answer → answer.denied ≡ true → any_denied answers ≡ true
denied_at [] k answer below is h = absurd (omega arith)
denied_at (first ∷ answers) zero answer below is h = or_left first.denied (any_denied answers) (ap (λ (r : Response). r.denied) is ∙ h)
denied_at (first ∷ answers) (suc k) answer below is h = or_right first.denied (any_denied answers) (denied_at answers k answer (omega arith) is h)

some_denied : (answers : List Response) → Any (λ (answer : Response). answer.denied ≡ true) answers → any_denied answers ≡ true
some_denied answers (k, answer, below, is, h) = denied_at answers k answer below is h

-- ---- a reply to a request of one piece

same_data : (brings denied : Bool) (n : ℕ) (xs : List ℕ) → length xs ≡ cond brings n 0
    → cond brings (cond (denied || false) (replicate n 0) (xs ++ [])) [] ≡ cond denied (replicate (length xs) 0) xs
same_data true true n xs e = ap (λ (k : ℕ). replicate k 0) (sym e)
same_data true false n xs e = append-nil xs
same_data false true n xs e = ap (λ (k : ℕ). replicate k 0) (sym e)
same_data false false n xs e = sym (nil_from_length xs e)

just_denied : (denied : Bool) → (denied || false) ≡ denied
just_denied true = refl
just_denied false = refl

one_told : (request : Request) (answer : Response) → IsWholeResponse request answer → reply_to request (answer ∷ []) ≡ told answer
one_told request answer is =
    let op : ack_of request.op ≡ answer.op = sym is.answers.op in
    let size : request.size ≡ answer.size = sym is.answers.size in
    let source : request.source ≡ answer.source = sym is.answers.source in
    let denied : (answer.denied || false) ≡ answer.denied = just_denied answer.denied in
    let bytes : length answer.payload ≡ cond (brings_data (ack_of request.op)) (bytes_of request.size) 0 =
    is.answers.bytes ∙ ap (λ (a : Ack). cond (brings_data a) (bytes_of answer.size) 0) is.answers.op ∙ ap (λ (n : ℕ). cond (brings_data (ack_of request.op)) (bytes_of n) 0) is.answers.size in
    let payload : cond (brings_data (ack_of request.op)) (cond (answer.denied || false) (replicate (bytes_of request.size) 0) (answer.payload ++ [])) [] ≡ cond answer.denied (replicate (length answer.payload) 0) answer.payload =
    same_data (brings_data (ack_of request.op)) answer.denied (bytes_of request.size) answer.payload bytes in
    cc

-- ---- the data of the answers

-- a piece asks for data of so many bytes
record AsksBytes (n : ℕ) (request : Request) : Type 0 where
  pub brings : brings_data (ack_of request.op) ≡ true
  pub bytes : bytes_of request.size ≡ n

all_long : (n : ℕ) (pieces : List Request) (answers : List Response) → All (AsksBytes n) pieces → AllZip IsWholeResponse pieces answers → All (λ (answer : Response). length answer.payload ≡ n) answers
all_long n [] [] asks zip = All-nil (λ (answer : Response). length answer.payload ≡ n)
all_long n [] (answer ∷ answers) asks zip = absurd zip
all_long n (piece ∷ pieces) [] asks zip = absurd zip
all_long n (piece ∷ pieces) (answer ∷ answers) asks zip =
    let first : AsksBytes n piece = All-head (AsksBytes n) piece pieces asks in
    let brings : brings_data answer.op ≡ true = ap brings_data zip.0.answers.op ∙ first.brings in
    let long : length answer.payload ≡ n =
    zip.0.answers.bytes ∙ cond-true (brings_data answer.op) (bytes_of answer.size) 0 brings ∙ ap bytes_of zip.0.answers.size ∙ first.bytes in
    All-cons (λ (answer : Response). length answer.payload ≡ n) answer answers long (all_long n pieces answers (All-tail (AsksBytes n) piece pieces asks) zip.1)

joined_length : (n : ℕ) (answers : List Response) → All (λ (answer : Response). length answer.payload ≡ n) answers → length (joined_data answers) ≡ length answers * n
joined_length n [] long = omega arith
joined_length n (answer ∷ answers) long =
    let first : length answer.payload ≡ n = All-head (λ (r : Response). length r.payload ≡ n) answer answers long in
    let rest : length (joined_data answers) ≡ length answers * n = joined_length n answers (All-tail (λ (r : Response). length r.payload ≡ n) answer answers long) in
    omega (arith, first, rest, length-append answer.payload (joined_data answers))

as_many : {A B : Type 0} (R : A → B → Type 0) (xs : List A) (ys : List B) → AllZip R xs ys → length xs ≡ length ys
as_many R [] [] zip = refl
as_many R [] (y ∷ ys) zip = absurd zip
as_many R (x ∷ xs) [] zip = absurd zip
as_many R (x ∷ xs) (y ∷ ys) zip = ap (λ (n : ℕ). suc n) (as_many R xs ys zip.1)

joined_bytes : (pieces : List Request) (answers : List Response) → AllZip IsWholeResponse pieces answers → AreBytes (joined_data answers)
joined_bytes [] [] zip = All-nil (λ byte. byte < 256)
joined_bytes [] (answer ∷ answers) zip = absurd zip
joined_bytes (piece ∷ pieces) [] zip = absurd zip
joined_bytes (piece ∷ pieces) (answer ∷ answers) zip = All-append (λ byte. byte < 256) answer.payload (joined_data answers) zip.0.bytes (joined_bytes pieces answers zip.1)

-- the bytes of each piece, and of all together
record HasPieces (most : ℕ) (request : Request) : Type 0 where
  pub bytes : ℕ
  pub each : All (λ (p : Request). bytes_of p.size ≡ bytes) (cut_at most request)
  pub all : length (cut_at most request) * bytes ≡ bytes_of request.size

has_pieces : (most : ℕ) (request : Request) → IsCuttable most request → HasPieces most request
has_pieces most request is = elim (cases_Bool (is_cut most request)) [
  | inl cuts ↦ record { bytes = most; each = cut_law.small most request is cuts; all = cut_law.number most request is cuts }
  | inr no_cut ↦
      let alone : cut_at most request ≡ request ∷ [] = cut_law.uncut most request no_cut in
      record {
        bytes = bytes_of request.size;
        each = subst (All (λ (p : Request). bytes_of p.size ≡ bytes_of request.size)) (sym alone)
            (All-cons (λ (p : Request). bytes_of p.size ≡ bytes_of request.size) request [] refl (All-nil (λ (p : Request). bytes_of p.size ≡ bytes_of request.size)));
        all = ap (λ (pieces : List Request). length pieces * bytes_of request.size) alone ∙ omega arith;
      }
]

asks_bytes : (most : ℕ) (request : Request) (pieces : HasPieces most request) → brings_data (ack_of request.op) ≡ true → All (AsksBytes pieces.bytes) (cut_at most request)
asks_bytes most request pieces brings k d below = record {
  brings = ap (λ (op : Op). brings_data (ack_of op)) (cut_law.same most request k d below).op ∙ brings;
  bytes = pieces.each k d below;
}

data_length : (most : ℕ) (request : Request) (answers : List Response) → IsCuttable most request → AreAnswers most request answers → brings_data (ack_of request.op) ≡ true
    → length (joined_data answers) ≡ bytes_of request.size
data_length most request answers is zip brings =
    let pieces : HasPieces most request = has_pieces most request is in
    let long : All (λ (answer : Response). length answer.payload ≡ pieces.bytes) answers = all_long pieces.bytes (cut_at most request) answers (asks_bytes most request pieces brings) zip in
    joined_length pieces.bytes answers long ∙ ap (λ (n : ℕ). n * pieces.bytes) (sym (as_many IsWholeResponse (cut_at most request) answers zip)) ∙ pieces.all

-- ---- the reply is whole

reply_length : (brings denied : Bool) (n : ℕ) (xs : List ℕ) → (brings ≡ true → length xs ≡ n) → length (cond brings (cond denied (replicate n 0) xs) []) ≡ cond brings n 0
reply_length true true n xs h = length-replicate n 0
reply_length true false n xs h = h refl
reply_length false denied n xs h = refl

reply_bytes : (brings denied : Bool) (n : ℕ) (xs : List ℕ) → AreBytes xs → AreBytes (cond brings (cond denied (replicate n 0) xs) [])
reply_bytes true true n xs h = All-replicate (λ byte. byte < 256) n 0 (lit< tt)
reply_bytes true false n xs h = h
reply_bytes false denied n xs h = All-nil (λ byte. byte < 256)

whole_reply : (most : ℕ) (request : Request) (answers : List Response) → IsCuttable most request → AreAnswers most request answers → IsWholeResponse request (reply_to request answers)
whole_reply most request answers is zip = record {
  answers = record {
    op = refl;
    size = refl;
    source = refl;
    bytes = reply_length (brings_data (ack_of request.op)) (any_denied answers) (bytes_of request.size) (joined_data answers) (data_length most request answers is zip);
  };
  bytes = reply_bytes (brings_data (ack_of request.op)) (any_denied answers) (bytes_of request.size) (joined_data answers) (joined_bytes (cut_at most request) answers zip);
}

-- ---- the beats of a reply

-- an item of joined data
part-joined : (n number : ℕ) (answers : List Response) (answer : Response) → All (λ (r : Response). length r.payload ≡ n) answers → slice_get answers number ≡ Some answer
    → part n number (joined_data answers) ≡ answer.payload
part-joined n number [] answer long is = absurd cc
part-joined n zero (first ∷ answers) answer long is =
    let here : length first.payload ≡ n = All-head (λ (r : Response). length r.payload ≡ n) first answers long in
    let start : 0 * n ≡ 0 = omega arith in
    ap (λ (k : ℕ). take n (drop k (first.payload ++ joined_data answers))) start ∙ take_at first.payload (joined_data answers) n here
    ∙ ap (λ (r : Response). r.payload) (same_Some first answer is)
part-joined n (suc number) (first ∷ answers) answer long is =
    let here : length first.payload ≡ n = All-head (λ (r : Response). length r.payload ≡ n) first answers long in
    let place : suc number * n ≡ n + number * n = omega arith in
    ap (λ (k : ℕ). take n (drop k (first.payload ++ joined_data answers))) place
    ∙ ap (take n) (sym (drop-drop (number * n) n (first.payload ++ joined_data answers)))
    ∙ ap (λ (xs : List ℕ). take n (drop (number * n) xs)) (drop_at first.payload (joined_data answers) n here)
    ∙ part-joined n number answers answer (All-tail (λ (r : Response). length r.payload ≡ n) first answers long) is

-- the piece that an answer is to
zip_at : {A B : Type 0} (R : A → B → Type 0) (xs : List A) (ys : List B) (k : ℕ) (y : B) → AllZip R xs ys → slice_get ys k ≡ Some y → (x : A) × (slice_get xs k ≡ Some x) × R x y
zip_at R [] [] k y zip is = absurd cc
zip_at R [] (z ∷ ys) k y zip is = absurd zip
zip_at R (x ∷ xs) [] k y zip is = absurd zip
zip_at R (x ∷ xs) (z ∷ ys) zero y zip is = (x, refl, subst (R x) (same_Some z y is) zip.0)
zip_at R (x ∷ xs) (z ∷ ys) (suc k) y zip is = zip_at R xs ys k y zip.1 is

answer_is : (width most : ℕ) (request : Request) (answers : List Response) (answer : Response) (number : ℕ) → IsCutOn width most request → AreAnswers most request answers → slice_get answers number ≡ Some answer
    → IsWholeResponse (piece_at most request number) answer
answer_is width most request answers answer number on zip is =
    let at = zip_at IsWholeResponse (cut_at most request) answers number answer zip is in
    let listed : slice_get (map (piece_at most request) (range_with_len 0 (piece_count most request))) number ≡ Some at.0 =
    sym (ap (λ (pieces : List Request). slice_get pieces number) (are_pieces most request on.cut)) ∙ at.1 in
    subst (λ (p : Request). IsWholeResponse p answer) (made_item (piece_at most request) (piece_count most request) number at.0 listed).1 at.2

-- the data of a reply that isn't denied are the answers'
reply_payload : (brings denied : Bool) (n : ℕ) (xs : List ℕ) → denied ≡ false → brings ≡ true → cond brings (cond denied (replicate n 0) xs) [] ≡ xs
reply_payload true false n xs d b = refl
reply_payload true true n xs d b = absurd cc
reply_payload false denied n xs d b = absurd cc

back_payload : (width most : ℕ) (request : Request) (answers : List Response) (answer : Response) (number beat : ℕ) → IsCutOn width most request → AreAnswers most request answers
    → All (λ (r : Response). r.denied ≡ false) answers → slice_get answers number ≡ Some answer → beat < answer_beats width most request
    → (d_beat width (piece_at most request number).address answer beat).payload ≡ (d_beat width request.address (reply_to request answers) (number * answer_beats width most request + beat)).payload
back_payload width most request answers answer number beat on zip granted is h =
    cond-false answer.denied 0 (on_bytes (first_lane width answer.size (piece_at most request number).address) (part width beat answer.payload)) own
    ∙ ap (λ (first : ℕ). on_bytes first (part width beat answer.payload)) lanes
    ∙ ap (λ (bytes : List ℕ). on_bytes (first_lane width request.size request.address) bytes) parts
    ∙ sym (cond-false (any_denied answers) 0 (on_bytes (first_lane width request.size request.address) (part width (number * answer_beats width most request + beat) (reply_to request answers).payload)) (none_denied answers granted))
  where
    own : answer.denied ≡ false
    own = item_has (λ (r : Response). r.denied ≡ false) answers number answer granted is

    to_piece : IsWholeResponse (piece_at most request number) answer
    to_piece = answer_is width most request answers answer number on zip is

    lanes : first_lane width answer.size (piece_at most request number).address ≡ first_lane width request.size request.address
    lanes = ap (λ (size : ℕ). first_lane width size (piece_at most request number).address) to_piece.answers.size ∙ first_zero width most request number on

    parts : part width beat answer.payload ≡ part width (number * answer_beats width most request + beat) (reply_to request answers).payload
    parts = elim (cases_Bool (brings_data (ack_of request.op))) [
      | inl brings ↦
          let count : answer_beats width most request ≡ data_beats (log_of most) width = cond-true (brings_data (ack_of request.op)) (data_beats (log_of most) width) 1 brings in
          let asks : All (AsksBytes most) (cut_at most request) =
          λ k d below. record {
            brings = ap (λ (op : Op). brings_data (ack_of op)) (cut_law.same most request k d below).op ∙ brings;
            bytes = cut_law.small most request on.cuttable on.cut k d below;
          } in
          let long : All (λ (r : Response). length r.payload ≡ most) answers = all_long most (cut_at most request) answers asks zip in
          ap (part width beat) (sym (part-joined most number answers answer long is))
          ∙ same_part width most number beat (joined_data answers) (whole_beats width most on.bus on.cuttable.size on.filled) (omega (arith, h, count))
          ∙ ap (λ (n : ℕ). part width (number * n + beat) (joined_data answers)) (sym count)
          ∙ ap (part width (number * answer_beats width most request + beat))
          (sym (reply_payload (brings_data (ack_of request.op)) (any_denied answers) (bytes_of request.size) (joined_data answers) (none_denied answers granted) brings))
      | inr none ↦
          let empty : answer.payload ≡ [] =
          nil_from_length answer.payload (to_piece.answers.bytes ∙ cond-false (brings_data answer.op) (bytes_of answer.size) 0 (ap brings_data to_piece.answers.op ∙ none)) in
          let nothing : (reply_to request answers).payload ≡ [] = cond-false (brings_data (ack_of request.op)) (reply_data request answers) [] none in
          ap (part width beat) empty ∙ part-nil {A = ℕ} width beat ∙ sym (part-nil {A = ℕ} width (number * answer_beats width most request + beat))
          ∙ sym (ap (part width (number * answer_beats width most request + beat)) nothing)
    ]

pub reply_law : ReplyLaw
reply_law = record {
  whole = whole_reply;
  denied = λ request answers. some_denied answers;
  granted = λ request answers. none_denied answers;
  one = one_told;
  payload = back_payload;
}
