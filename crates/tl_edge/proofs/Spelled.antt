-- Lists of beats that spell lists of messages.
use Rattle.std.proofs.Common.{ℕ, zero, suc, ◌≡◌, ◌+◌, ◌<◌, ◌≤◌, inl, inr, List, [], ◌∷◌, ◌++◌, length, take, drop, map, IsTrue, ap, sym, ◌∙◌, refl, arith}
use Rattle.std.specs.Prelude.{All}
use Rattle.std.specs.List.{flat_map, range_with_len, AllByRecursion, AllZip}
use Rattle.std.proofs.lemmas.List.{append_assoc, append-nil, length-append, length-take, take_at, drop_at}
use Rattle.std.proofs.lemmas.List.FromFn.{length-map-range_with_len}
use Rattle.std.proofs.lemmas.List.Elements.{All-head, All-tail}
use Rattle.tl_params.specs.Arguments.{is_width}
use Rattle.tl_edge.specs.declared.message.Request.{Request}
use Rattle.tl_edge.specs.declared.beat.ABeat.{ABeat}
use Rattle.tl_edge.specs.declared.beat.DBeat.{DBeat}
use Rattle.tl_edge.specs.Messages.{IsWholeRequest}
use Rattle.tl_edge.specs.Beats.{a_beat, d_beat, request_beats, response_beats, beats_of_request}
use Rattle.tl_edge.specs.Spelling.{IsFront, BeginsRequest, SpellsUpTo, Exchange, IsExchange, beats_back, BeginsResponse, SpellsBackUpTo, TellsSame, SpellingLaw}
use Rattle.tl_edge.proofs.Heads.{heads_law}
use Rattle.tl_edge.proofs.Reading.{flat_map-map, same_law}

-- ---- lists cut into pieces, each of which tells its length by its first item

abbrev pub total_of : {B : Type 0} → (B → ℕ) → List B → ℕ
total_of total [] = 0
total_of total (b ∷ rest) = total b

-- a piece has as many items as its first one tells, and one at least
pub record IsPiece {B : Type 0} (total : B → ℕ) (xs : List B) : Type 0 where
  pub some : 1 ≤ length xs
  pub is : total_of total xs ≡ length xs

-- a short piece has fewer, if any
pub record IsShort {B : Type 0} (total : B → ℕ) (xs : List B) : Type 0 where
  pub is : 1 ≤ length xs → length xs < total_of total xs

pub total_of-append : {B : Type 0} (total : B → ℕ) (xs ys : List B) → 1 ≤ length xs → total_of total (xs ++ ys) ≡ total_of total xs
total_of-append total [] ys h = absurd (omega arith)
total_of-append total (x ∷ xs) ys h = refl

pub total_of-take : {B : Type 0} (total : B → ℕ) (k : ℕ) (xs : List B) → 1 ≤ length (take k xs) → total_of total (take k xs) ≡ total_of total xs
total_of-take total zero xs h = absurd (omega arith)
total_of-take total (suc k) [] h = absurd (omega arith)
total_of-take total (suc k) (x ∷ xs) h = refl

-- two lists of one length with something behind them
pub same_front : {B : Type 0} (xs ys us vs : List B) → length xs ≡ length ys → xs ++ us ≡ ys ++ vs → (xs ≡ ys) × (us ≡ vs)
same_front xs ys us vs l e = (
  sym (take_at xs us (length xs) refl) ∙ ap (take (length xs)) e ∙ take_at ys vs (length xs) (sym l),
  sym (drop_at xs us (length xs) refl) ∙ ap (drop (length xs)) e ∙ drop_at ys vs (length xs) (sym l),
)

-- a short piece isn't the beginning of a whole one
pub short_not_whole : {B : Type 0} (total : B → ℕ) (front piece more : List B) → IsShort total front → IsPiece total piece → front ≡ piece ++ more → ⊥
short_not_whole total front piece more short whole e =
    let long : length front ≡ length piece + length more = ap length e ∙ length-append piece more in
    let told_too : total_of total front ≡ total_of total piece = ap (λ (xs : List _). total_of total xs) e ∙ total_of-append total piece more whole.some in
    omega (arith, short.is (omega (arith, long, whole.some)), long, told_too, whole.is)

unfoldable pub joined : {B : Type 0} → List (List B) → List B
joined pieces = flat_map (λ piece. piece) pieces

pub same_pieces : {B : Type 0} (total : B → ℕ) (pieces others : List (List B)) (front rest : List B) → AllByRecursion (IsPiece total) pieces → AllByRecursion (IsPiece total) others
    → IsShort total front → IsShort total rest → joined pieces ++ front ≡ joined others ++ rest → (pieces ≡ others) × (front ≡ rest)
unfolding joined
same_pieces total [] [] front rest ps os short short_too e = (refl, e)
same_pieces total [] (other ∷ others) front rest ps os short short_too e =
    absurd (short_not_whole total front other (joined others ++ rest) short os.0 (e ∙ append_assoc other (joined others) rest))
same_pieces total (piece ∷ pieces) [] front rest ps os short short_too e =
    absurd (short_not_whole total rest piece (joined pieces ++ front) short_too ps.0 (sym e ∙ append_assoc piece (joined pieces) front))
same_pieces {B = B} total (piece ∷ pieces) (other ∷ others) front rest ps os short short_too e =
    let apart : piece ++ (joined pieces ++ front) ≡ other ++ (joined others ++ rest) = sym (append_assoc piece (joined pieces) front) ∙ e ∙ append_assoc other (joined others) rest in
    let told_same : total_of total piece ≡ total_of total other =
    sym (total_of-append total piece (joined pieces ++ front) ps.0.some) ∙ ap (λ (xs : List B). total_of total xs) apart ∙ total_of-append total other (joined others ++ rest) os.0.some in
    let split = same_front piece other (joined pieces ++ front) (joined others ++ rest) (omega (arith, told_same, ps.0.is, os.0.is)) apart in
    let later = same_pieces total pieces others front rest ps.1 os.1 short short_too split.1 in
    (ap (λ (p : List B). p ∷ pieces) split.0 ∙ ap (λ (ps : List (List B)). other ∷ ps) later.0, later.1)

-- the beats of a message are a piece, and the first of them a short one
pub piece_of : {B : Type 0} (total : B → ℕ) (beat : ℕ → B) (count : ℕ) → 1 ≤ count → total (beat 0) ≡ count → IsPiece total (map beat (range_with_len 0 count))
piece_of total beat zero h e = absurd (omega arith)
piece_of total beat (suc count) h e = record { some = omega arith; is = e ∙ sym (length-map-range_with_len beat 0 (suc count)) }

pub short_of : {B : Type 0} (total : B → ℕ) (beats front : List B) → IsPiece total beats → IsFront beats front → IsShort total front
short_of {B = B} total beats front whole is = record {
  is = λ some.
      let few : length front ≡ is.count = ap length is.is ∙ length-take is.count beats ∙ omega (arith, is.short) in
      let told_too : total_of total front ≡ total_of total beats = ap (λ (xs : List B). total_of total xs) is.is ∙ total_of-take total is.count beats (omega (arith, some, ap length is.is)) in
      omega (arith, few, told_too, whole.is, is.short);
}

pub short_nil : {B : Type 0} (total : B → ℕ) (front : List B) → front ≡ [] → IsShort total front
short_nil total front e = record { is = λ some. absurd (omega (arith, some, ap length e)) }

-- ---- equal lists

first_or : {A : Type 0} → A → List A → A
first_or d [] = d
first_or d (x ∷ xs) = x

pub cons_parts : {A : Type 0} (x y : A) (xs ys : List A) → x ∷ xs ≡ y ∷ ys → (x ≡ y) × (xs ≡ ys)
unfolding first_or
cons_parts {A = A} x y xs ys e = (ap (λ (l : List A). first_or x l) e, ap (λ (l : List A). drop 1 l) e)

pub nil_not_cons : {A : Type 0} (y : A) (ys : List A) → [] ≡ y ∷ ys → ⊥
nil_not_cons y ys e = let h : 0 ≡ suc (length ys) = ap length e in omega arith

-- ---- requests

request_total : ℕ → ABeat → ℕ
request_total width beat = request_beats beat.op beat.size width

request_piece : (width : ℕ) (request : Request) → IsPiece (request_total width) (beats_of_request width request)
unfolding request_total
request_piece width request = piece_of (request_total width) (a_beat width request) (request_beats request.op request.size width) (heads_law.request_some width request) refl

request_pieces : (width : ℕ) (requests : List Request) → AllByRecursion (IsPiece (request_total width)) (map (beats_of_request width) requests)
request_pieces width [] = tt
request_pieces width (request ∷ requests) = (request_piece width request, request_pieces width requests)

short_request : (width : ℕ) (front : List ABeat) → BeginsRequest width front → IsShort (request_total width) front
short_request width front begins = elim begins [
  | inl none ↦ short_nil (request_total width) front none
  | inr more ↦ short_of (request_total width) (beats_of_request width more.0) front (request_piece width more.0) more.2
]

same_requests : (width : ℕ) (requests others : List Request) → IsTrue (is_width width) → All IsWholeRequest requests → All IsWholeRequest others
    → map (beats_of_request width) requests ≡ map (beats_of_request width) others → requests ≡ others
same_requests width [] [] bus all all_too e = refl
same_requests width [] (other ∷ others) bus all all_too e = absurd (nil_not_cons _ _ e)
same_requests width (request ∷ requests) [] bus all all_too e = absurd (nil_not_cons _ _ (sym e))
same_requests width (request ∷ requests) (other ∷ others) bus all all_too e =
    let parts = cons_parts _ _ _ _ e in
    let one : request ≡ other = same_law.requests width request other (record { bus = bus; whole = All-head IsWholeRequest request requests all }) (record { bus = bus; whole = All-head IsWholeRequest other others all_too }) parts.0 in
    let rest : requests ≡ others = same_requests width requests others bus (All-tail IsWholeRequest request requests all) (All-tail IsWholeRequest other others all_too) parts.1 in
    ap (λ (r : Request). r ∷ requests) one ∙ ap (λ (rs : List Request). other ∷ rs) rest

requests_joined : (width : ℕ) (requests : List Request) → joined (map (beats_of_request width) requests) ≡ flat_map (beats_of_request width) requests
unfolding joined
requests_joined width requests = flat_map-map (beats_of_request width) (λ (beats : List ABeat). beats) requests

spelled_requests : (width : ℕ) (requests others : List Request) (front rest beats : List ABeat) → IsTrue (is_width width) → SpellsUpTo width requests front beats → SpellsUpTo width others rest beats
    → (requests ≡ others) × (front ≡ rest)
spelled_requests width requests others front rest beats bus one other =
    let F : List ABeat → List ABeat → List ABeat = λ xs ys. xs ++ ys in
    let same : joined (map (beats_of_request width) requests) ++ front ≡ joined (map (beats_of_request width) others) ++ rest =
    ap (λ (xs : List ABeat). xs ++ front) (requests_joined width requests) ∙ sym one.is ∙ other.is ∙ sym (ap (λ (xs : List ABeat). xs ++ rest) (requests_joined width others)) in
    let parts = same_pieces (request_total width) (map (beats_of_request width) requests) (map (beats_of_request width) others) front rest (request_pieces width requests) (request_pieces width others)
    (short_request width front one.begins) (short_request width rest other.begins) same in
    (same_requests width requests others bus one.whole other.whole parts.0, parts.1)

-- ---- responses

response_total : ℕ → DBeat → ℕ
response_total width beat = response_beats beat.op beat.size width

response_piece : (width : ℕ) (exchange : Exchange) → IsPiece (response_total width) (beats_back width exchange)
unfolding response_total
response_piece width exchange =
    piece_of (response_total width) (d_beat width exchange.request.address exchange.response) (response_beats exchange.response.op exchange.response.size width) (heads_law.response_some width exchange.response) refl

response_pieces : (width : ℕ) (exchanges : List Exchange) → AllByRecursion (IsPiece (response_total width)) (map (beats_back width) exchanges)
response_pieces width [] = tt
response_pieces width (exchange ∷ exchanges) = (response_piece width exchange, response_pieces width exchanges)

short_response : (width : ℕ) (front : List DBeat) → BeginsResponse width front → IsShort (response_total width) front
short_response width front begins = elim begins [
  | inl none ↦ short_nil (response_total width) front none
  | inr more ↦ short_of (response_total width) (beats_back width more.0) front (response_piece width more.0) more.2
]

tells_same : (width : ℕ) (one other : Exchange) → IsTrue (is_width width) → IsExchange one → IsExchange other → beats_back width one ≡ beats_back width other → TellsSame one other
tells_same width one other bus is is_too e =
    same_law.responses width one.request other.request one.response other.response
    (record { sent = record { bus = bus; whole = is.request }; whole = is.response })
    (record { sent = record { bus = bus; whole = is_too.request }; whole = is_too.response }) e

same_responses : (width : ℕ) (exchanges others : List Exchange) → IsTrue (is_width width) → All IsExchange exchanges → All IsExchange others
    → map (beats_back width) exchanges ≡ map (beats_back width) others → AllZip TellsSame exchanges others
same_responses width [] [] bus all all_too e = tt
same_responses width [] (other ∷ others) bus all all_too e = nil_not_cons _ _ e
same_responses width (one ∷ exchanges) [] bus all all_too e = nil_not_cons _ _ (sym e)
same_responses width (one ∷ exchanges) (other ∷ others) bus all all_too e =
    let parts = cons_parts _ _ _ _ e in (
      tells_same width one other bus (All-head IsExchange one exchanges all) (All-head IsExchange other others all_too) parts.0,
      same_responses width exchanges others bus (All-tail IsExchange one exchanges all) (All-tail IsExchange other others all_too) parts.1,
    )

responses_joined : (width : ℕ) (exchanges : List Exchange) → joined (map (beats_back width) exchanges) ≡ flat_map (beats_back width) exchanges
unfolding joined
responses_joined width exchanges = flat_map-map (beats_back width) (λ (beats : List DBeat). beats) exchanges

spelled_responses : (width : ℕ) (exchanges others : List Exchange) (front rest beats : List DBeat) → IsTrue (is_width width) → SpellsBackUpTo width exchanges front beats → SpellsBackUpTo width others rest beats
    → AllZip TellsSame exchanges others × (front ≡ rest)
spelled_responses width exchanges others front rest beats bus one other =
    let same : joined (map (beats_back width) exchanges) ++ front ≡ joined (map (beats_back width) others) ++ rest =
    ap (λ (xs : List DBeat). xs ++ front) (responses_joined width exchanges) ∙ sym one.is ∙ other.is ∙ sym (ap (λ (xs : List DBeat). xs ++ rest) (responses_joined width others)) in
    let parts = same_pieces (response_total width) (map (beats_back width) exchanges) (map (beats_back width) others) front rest (response_pieces width exchanges) (response_pieces width others)
    (short_response width front one.begins) (short_response width rest other.begins) same in
    (same_responses width exchanges others bus one.whole other.whole parts.0, parts.1)

pub spelling_law : SpellingLaw
spelling_law = record {
  requests = λ width requests others beats bus all all_too e e_too.
      (spelled_requests width requests others [] [] beats bus
      (record { whole = all; begins = inl refl; is = e ∙ sym (append-nil (flat_map (beats_of_request width) requests)) })
      (record { whole = all_too; begins = inl refl; is = e_too ∙ sym (append-nil (flat_map (beats_of_request width) others)) })).0;
  requests_up_to = spelled_requests;
  responses = λ width exchanges others beats bus all all_too e e_too.
      (spelled_responses width exchanges others [] [] beats bus
      (record { whole = all; begins = inl refl; is = e ∙ sym (append-nil (flat_map (beats_back width) exchanges)) })
      (record { whole = all_too; begins = inl refl; is = e_too ∙ sym (append-nil (flat_map (beats_back width) others)) })).0;
  responses_up_to = spelled_responses;
}
