-- The first of some beats in a row, and the next one.
use Rattle.std.proofs.Common.{ℕ, suc, ◌≡◌, ◌+◌, ◌<◌, inl, inr, List, [], ◌∷◌, ◌++◌, length, get_or, take, drop, map, Some, slice_get, ap, sym, ◌∙◌, refl, arith}
use Rattle.std.specs.List.{flat_map, range_with_len}
use Rattle.std.proofs.lemmas.Bool.{cases_lt}
use Rattle.std.proofs.lemmas.List.{append_assoc, append-nil, take_at, drop_at, take_all, take_more, take-append-le, drop-append-le, take-append-drop, length-append, nil_from_length, get_or_append_left, get_or_at}
use Rattle.std.proofs.lemmas.List.Concat.{flat_map-append}
use Rattle.std.proofs.lemmas.List.Elements.{All-push}
use Rattle.std.proofs.lemmas.List.FromFn.{length-map-range_with_len, get_or-map-range_with_len}
use Rattle.std.proofs.lemmas.Option.{slice_get_within, slice_get-get_or, get_or_from_slice_get}
use Rattle.tl_edge.specs.Messages.{IsWholeRequest}
use Rattle.tl_edge.specs.Beats.{a_beat, d_beat, request_beats, response_beats, beats_of_request}
use Rattle.tl_edge.specs.Spelling.{IsFront, IsExchange, beats_back, beat_back, IsCut, PrefixLaw, IsNext, NextLaw, MoreLaw}

-- the first of beats in a row, whatever messages and beats are
pub cut : {A B : Type 0} (beats_of : A → List B) (messages : List A) (beats rest : List B) → beats ++ rest ≡ flat_map beats_of messages → IsCut beats_of messages beats
cut beats_of [] beats rest e =
    let none : beats ≡ [] = nil_from_length beats (omega (arith, ap length e, length-append beats rest)) in
    record { count = 0; front = []; next = inl refl; is = none }
cut {B = B} beats_of (message ∷ messages) beats rest e =
    elim (cases_lt (length beats) (length (beats_of message))) [
      | inl lt ↦
          let first : beats ≡ take (length beats) (beats_of message) =
          sym (take_at beats rest (length beats) refl) ∙ ap (take (length beats)) e ∙ take-append-le (length beats) (beats_of message) (flat_map beats_of messages) (omega (arith, lt)) in
          record { count = 0; front = beats; next = inr (message, refl, record { count = length beats; short = lt; is = first }); is = refl }
      | inr ge ↦
          let whole : take (length (beats_of message)) beats ≡ beats_of message =
          sym (take-append-le (length (beats_of message)) beats rest ge) ∙ ap (take (length (beats_of message))) e ∙ take_at (beats_of message) (flat_map beats_of messages) _ refl in
          let left : drop (length (beats_of message)) beats ++ rest ≡ flat_map beats_of messages =
          sym (drop-append-le (length (beats_of message)) beats rest ge) ∙ ap (drop (length (beats_of message))) e ∙ drop_at (beats_of message) (flat_map beats_of messages) _ refl in
          let later = cut beats_of messages (drop (length (beats_of message)) beats) rest left in
          record {
            count = suc later.count;
            front = later.front;
            next = later.next;
            is = sym (take-append-drop (length (beats_of message)) beats) ∙ ap (λ (xs : List B). xs ++ drop (length (beats_of message)) beats) whole ∙ ap (λ (xs : List B). beats_of message ++ xs) later.is
                ∙ sym (append_assoc (beats_of message) (flat_map beats_of (take later.count messages)) later.front);
          }
    ]

pub prefix_law : PrefixLaw
prefix_law = record {
  requests = λ width requests beats rest e. cut _ requests beats rest e;
  responses = λ width exchanges beats rest e. cut _ exchanges beats rest e;
}

-- ---- the next beat

-- the item behind a front
item_at : {B : Type 0} (front rest whole more : List B) (next : B) → length front < length whole → front ++ next ∷ rest ≡ whole ++ more → slice_get whole (length front) ≡ Some next
item_at front rest whole more next within e =
    slice_get-get_or whole (length front) next within
    ∙ ap (λ b. Some b) (sym (get_or_append_left whole more next (length front) within) ∙ ap (λ bs. get_or bs (length front) next) (sym e) ∙ get_or_at front next rest next (length front) refl)

-- the next of beats in a row, whatever messages and beats are
pub next_beat : {A B : Type 0} (beats_of : A → List B) (messages : List A) (beats rest : List B) (next : B) → beats ++ next ∷ rest ≡ flat_map beats_of messages → IsNext beats_of messages beats next
next_beat beats_of [] beats rest next e = absurd (omega (arith, ap length e, length-append beats (next ∷ rest)))
next_beat {B = B} beats_of (message ∷ messages) beats rest next e =
    elim (cases_lt (length beats) (length (beats_of message))) [
      | inl lt ↦
          let first : beats ≡ take (length beats) (beats_of message) =
          sym (take_at beats (next ∷ rest) (length beats) refl) ∙ ap (take (length beats)) e ∙ take-append-le (length beats) (beats_of message) (flat_map beats_of messages) (omega (arith, lt)) in
          record { place = 0; message = message; number = length beats; which = refl; is = item_at beats rest (beats_of message) (flat_map beats_of messages) next lt e; before = first }
      | inr ge ↦
          let whole : take (length (beats_of message)) beats ≡ beats_of message =
          sym (take-append-le (length (beats_of message)) beats (next ∷ rest) ge) ∙ ap (take (length (beats_of message))) e ∙ take_at (beats_of message) (flat_map beats_of messages) _ refl in
          let left : drop (length (beats_of message)) beats ++ next ∷ rest ≡ flat_map beats_of messages =
          sym (drop-append-le (length (beats_of message)) beats (next ∷ rest) ge) ∙ ap (drop (length (beats_of message))) e ∙ drop_at (beats_of message) (flat_map beats_of messages) _ refl in
          let later = next_beat beats_of messages (drop (length (beats_of message)) beats) rest next left in
          record {
            place = suc later.place;
            message = later.message;
            number = later.number;
            which = later.which;
            is = later.is;
            before = sym (take-append-drop (length (beats_of message)) beats) ∙ ap (λ (xs : List B). xs ++ drop (length (beats_of message)) beats) whole
                ∙ ap (λ (xs : List B). beats_of message ++ xs) later.before
                ∙ sym (append_assoc (beats_of message) (flat_map beats_of (take later.place messages)) (take later.number (beats_of later.message)));
          }
    ]

-- the item with a number of a list that is made by numbers
pub made_item : {B : Type 0} (f : ℕ → B) (count number : ℕ) (item : B) → slice_get (map f (range_with_len 0 count)) number ≡ Some item → (number < count) × (item ≡ f number)
made_item f count number item h =
    let within : number < count = omega (arith, slice_get_within (map f (range_with_len 0 count)) number item h, length-map-range_with_len f 0 count) in
    (within, sym (get_or_from_slice_get (map f (range_with_len 0 count)) number item item h) ∙ get_or-map-range_with_len f 0 count number number item within (omega arith))

pub next_law : NextLaw
next_law = record {
  requests = λ width requests beats rest next e. next_beat (beats_of_request width) requests beats rest next e;
  responses = λ width exchanges beats rest next e. next_beat (beats_back width) exchanges beats rest next e;
  request_beat = λ width request number next h. made_item (a_beat width request) (request_beats request.op request.size width) number next h;
  response_beat = λ width address response number next h. made_item (d_beat width address response) (response_beats response.op response.size width) number next h;
}

-- ---- one beat more

-- a front of a list that is made by numbers, with the next item
pub longer_front : {B : Type 0} (f : ℕ → B) (count number : ℕ) (front : List B) → number < count → front ≡ take number (map f (range_with_len 0 count))
    → front ++ f number ∷ [] ≡ take (number + 1) (map f (range_with_len 0 count))
longer_front {B = B} f count number front within is =
    let long : number < length (map f (range_with_len 0 count)) = omega (arith, within, length-map-range_with_len f 0 count) in
    let item : get_or (map f (range_with_len 0 count)) number (f number) ≡ f number = get_or-map-range_with_len f 0 count number number (f number) within (omega arith) in
    ap (λ (xs : List B). xs ++ f number ∷ []) is ∙ ap (λ (x : B). take number (map f (range_with_len 0 count)) ++ x ∷ []) (sym item)
    ∙ sym (take_more (map f (range_with_len 0 count)) number (f number) long)

-- it is short where more items follow, and whole with the last one
still_short : {B : Type 0} (f : ℕ → B) (count number : ℕ) (front : List B) → number + 1 < count → front ≡ take number (map f (range_with_len 0 count))
    → IsFront (map f (range_with_len 0 count)) (front ++ f number ∷ [])
still_short f count number front more is = record {
  count = number + 1;
  short = omega (arith, more, length-map-range_with_len f 0 count);
  is = longer_front f count number front (omega (arith, more)) is;
}

now_whole : {B : Type 0} (f : ℕ → B) (count number : ℕ) (front : List B) → number + 1 ≡ count → front ≡ take number (map f (range_with_len 0 count))
    → front ++ f number ∷ [] ≡ map f (range_with_len 0 count)
now_whole f count number front last is =
    longer_front f count number front (omega (arith, last)) is
    ∙ take_all (number + 1) (map f (range_with_len 0 count)) (omega (arith, last, length-map-range_with_len f 0 count))

-- behind the beats of other messages
moved_on : {A B : Type 0} (beats_of : A → List B) (messages : List A) (front beats : List B) (next : B) → beats ≡ flat_map beats_of messages ++ front
    → beats ++ next ∷ [] ≡ flat_map beats_of messages ++ (front ++ next ∷ [])
moved_on {B = B} beats_of messages front beats next is = ap (λ (xs : List B). xs ++ next ∷ []) is ∙ append_assoc (flat_map beats_of messages) front (next ∷ [])

one_message_more : {A B : Type 0} (beats_of : A → List B) (messages : List A) (front beats : List B) (message : A) (next : B) → beats ≡ flat_map beats_of messages ++ front → front ++ next ∷ [] ≡ beats_of message
    → beats ++ next ∷ [] ≡ flat_map beats_of (messages ++ message ∷ []) ++ []
one_message_more {B = B} beats_of messages front beats message next is whole =
    moved_on beats_of messages front beats next is ∙ ap (λ (xs : List B). flat_map beats_of messages ++ xs) (whole ∙ sym (append-nil (beats_of message)))
    ∙ sym (flat_map-append beats_of messages (message ∷ [])) ∙ sym (append-nil (flat_map beats_of (messages ++ message ∷ [])))

pub more_law : MoreLaw
more_law = record {
  request = λ width number requests next front beats spells begun more. record {
    whole = spells.whole;
    begins = inr (next, begun.whole, still_short (a_beat width next) (request_beats next.op next.size width) number front more begun.is);
    is = moved_on (beats_of_request width) requests front beats (a_beat width next number) spells.is;
  };
  last_of_request = λ width number requests next front beats spells begun last. record {
    whole = All-push IsWholeRequest requests next spells.whole begun.whole;
    begins = inl refl;
    is = one_message_more (beats_of_request width) requests front beats next (a_beat width next number) spells.is
        (now_whole (a_beat width next) (request_beats next.op next.size width) number front last begun.is);
  };
  response = λ width number exchanges next front beats spells begun more. record {
    whole = spells.whole;
    begins = inr (next, begun.whole, still_short (beat_back width next) (response_beats next.response.op next.response.size width) number front more begun.is);
    is = moved_on (beats_back width) exchanges front beats (beat_back width next number) spells.is;
  };
  last_of_response = λ width number exchanges next front beats spells begun last. record {
    whole = All-push IsExchange exchanges next spells.whole begun.whole;
    begins = inl refl;
    is = one_message_more (beats_back width) exchanges front beats next (beat_back width next number) spells.is
        (now_whole (beat_back width next) (response_beats next.response.op next.response.size width) number front last begun.is);
  };
}
