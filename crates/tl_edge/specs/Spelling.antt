-- Lists of beats that spell lists of messages.
use Rattle.std.specs.Prelude.{ℕ, ◌≡◌, ◌<◌, ◌+◌, ◌⊎◌, List, [], ◌∷◌, ◌++◌, All, length, take, slice_get, Some, IsTrue}
use Rattle.std.specs.List.{flat_map, AllZip}
use Rattle.tl_params.specs.Arguments.{is_width}
use Rattle.tl_edge.specs.declared.message.Request.{Request}
use Rattle.tl_edge.specs.declared.message.Response.{Response}
use Rattle.tl_edge.specs.declared.beat.ABeat.{ABeat}
use Rattle.tl_edge.specs.declared.beat.DBeat.{DBeat}
use Rattle.tl_edge.specs.Messages.{IsWholeRequest, IsWholeResponse}
use Rattle.tl_edge.specs.Beats.{a_beat, d_beat, request_beats, response_beats, beats_of_request, beats_of_response}
use Rattle.tl_edge.specs.Joined.{told}

-- the first beats of a message, and not all of them
pub record IsFront {B : Type 0} (beats front : List B) : Type 0 where
  pub count : ℕ
  pub short : count < length beats
  pub is : front ≡ take count beats

-- ---- requests

-- a list of beats spells requests where it is their beats joined in order
abbrev pub SpellsRequests : ℕ → List Request → List ABeat → Type 0
SpellsRequests width requests beats = beats ≡ flat_map (beats_of_request width) requests

-- nothing, or the first beats of one more request
abbrev pub BeginsRequest : ℕ → List ABeat → Type 0
BeginsRequest width front =
    (front ≡ []) ⊎ ((more : Request) × IsWholeRequest more × IsFront (beats_of_request width more) front)

-- a list of beats spells requests, followed at most by the first beats of one more
pub record SpellsUpTo (width : ℕ) (requests : List Request) (front beats : List ABeat) : Type 0 where
  pub whole : All IsWholeRequest requests
  pub begins : BeginsRequest width front
  pub is : beats ≡ flat_map (beats_of_request width) requests ++ front

-- ---- responses, each with the request that it answers

-- a request and what answers it
pub record Exchange : Type 0 where
  pub request : Request
  pub response : Response

-- both are whole, and the response is one to the request
pub record IsExchange (exchange : Exchange) : Type 0 where
  pub request : IsWholeRequest exchange.request
  pub response : IsWholeResponse exchange.request exchange.response

-- the beats of a response
abbrev pub beats_back : ℕ → Exchange → List DBeat
beats_back width exchange = beats_of_response width exchange.request.address exchange.response

-- the beat of a response with a number, counted from 0
abbrev pub beat_back : ℕ → Exchange → ℕ → DBeat
beat_back width exchange number = d_beat width exchange.request.address exchange.response number

-- a list of beats spells responses where it is their beats joined in order
abbrev pub SpellsResponses : ℕ → List Exchange → List DBeat → Type 0
SpellsResponses width exchanges beats = beats ≡ flat_map (beats_back width) exchanges

-- nothing, or the first beats of one more response
abbrev pub BeginsResponse : ℕ → List DBeat → Type 0
BeginsResponse width front =
    (front ≡ []) ⊎ ((more : Exchange) × IsExchange more × IsFront (beats_back width more) front)

-- a list of beats spells responses, followed at most by the first beats of one more
pub record SpellsBackUpTo (width : ℕ) (exchanges : List Exchange) (front beats : List DBeat) : Type 0 where
  pub whole : All IsExchange exchanges
  pub begins : BeginsResponse width front
  pub is : beats ≡ flat_map (beats_back width) exchanges ++ front

-- ---- what is spelled is determined by the beats

-- two responses tell the same, whichever requests they answer
abbrev pub TellsSame : Exchange → Exchange → Type 0
TellsSame one other = told one.response ≡ told other.response

-- beats in a row are those of one list of messages only, but for the data of denied responses
pub record SpellingLaw : Type 0 where
  pub requests : (width : ℕ) (requests others : List Request) (beats : List ABeat) → IsTrue (is_width width)
      → All IsWholeRequest requests → All IsWholeRequest others
      → SpellsRequests width requests beats → SpellsRequests width others beats → requests ≡ others
  pub requests_up_to : (width : ℕ) (requests others : List Request) (front rest beats : List ABeat)
      → IsTrue (is_width width)
      → SpellsUpTo width requests front beats → SpellsUpTo width others rest beats
      → (requests ≡ others) × (front ≡ rest)
  pub responses : (width : ℕ) (exchanges others : List Exchange) (beats : List DBeat) → IsTrue (is_width width)
      → All IsExchange exchanges → All IsExchange others
      → SpellsResponses width exchanges beats → SpellsResponses width others beats → AllZip TellsSame exchanges others
  pub responses_up_to : (width : ℕ) (exchanges others : List Exchange) (front rest beats : List DBeat)
      → IsTrue (is_width width)
      → SpellsBackUpTo width exchanges front beats → SpellsBackUpTo width others rest beats
      → AllZip TellsSame exchanges others × (front ≡ rest)

-- ---- the first of some beats in a row

-- they are those of the first messages, followed at most by the first beats of the next one
pub record IsCut {A B : Type 0} (beats_of : A → List B) (messages : List A) (beats : List B) : Type 0 where
  pub count : ℕ
  pub front : List B
  pub next : (front ≡ []) ⊎ ((more : A) × (slice_get messages count ≡ Some more) × IsFront (beats_of more) front)
  pub is : beats ≡ flat_map beats_of (take count messages) ++ front

-- the first of the beats of some messages are cut so
pub record PrefixLaw : Type 0 where
  pub requests : (width : ℕ) (requests : List Request) (beats rest : List ABeat)
      → beats ++ rest ≡ flat_map (beats_of_request width) requests → IsCut (beats_of_request width) requests beats
  pub responses : (width : ℕ) (exchanges : List Exchange) (beats rest : List DBeat)
      → beats ++ rest ≡ flat_map (beats_back width) exchanges → IsCut (beats_back width) exchanges beats

-- ---- beat by beat

-- a beat that comes after some is the one with a number of one of the messages, before which stand all beats of the
-- earlier messages and so many of its own
pub record IsNext {A B : Type 0} (beats_of : A → List B) (messages : List A) (beats : List B) (next : B) : Type 0 where
  pub place : ℕ
  pub message : A
  pub number : ℕ
  pub which : slice_get messages place ≡ Some message
  pub is : slice_get (beats_of message) number ≡ Some next
  pub before : beats ≡ flat_map beats_of (take place messages) ++ take number (beats_of message)

-- each beat of some messages in a row comes so after those before it; a beat with a number is that beat of the message
pub record NextLaw : Type 0 where
  pub requests : (width : ℕ) (requests : List Request) (beats rest : List ABeat) (next : ABeat)
      → beats ++ next ∷ rest ≡ flat_map (beats_of_request width) requests
      → IsNext (beats_of_request width) requests beats next
  pub responses : (width : ℕ) (exchanges : List Exchange) (beats rest : List DBeat) (next : DBeat)
      → beats ++ next ∷ rest ≡ flat_map (beats_back width) exchanges
      → IsNext (beats_back width) exchanges beats next
  pub request_beat : (width : ℕ) (request : Request) (number : ℕ) (next : ABeat)
      → slice_get (beats_of_request width request) number ≡ Some next
      → (number < request_beats request.op request.size width) × (next ≡ a_beat width request number)
  pub response_beat : (width address : ℕ) (response : Response) (number : ℕ) (next : DBeat)
      → slice_get (beats_of_response width address response) number ≡ Some next
      → (number < response_beats response.op response.size width) × (next ≡ d_beat width address response number)

-- the first beats of a message, so many, stand behind those of whole requests
pub record IsRequestBegun (width number : ℕ) (next : Request) (front : List ABeat) : Type 0 where
  pub whole : IsWholeRequest next
  pub is : front ≡ take number (beats_of_request width next)

-- the same of responses
pub record IsResponseBegun (width number : ℕ) (next : Exchange) (front : List DBeat) : Type 0 where
  pub whole : IsExchange next
  pub is : front ≡ take number (beats_back width next)

-- with one beat more, beats spell the same messages and a longer front, or, where it was the last one, one message more
pub record MoreLaw : Type 0 where
  pub request : (width number : ℕ) (requests : List Request) (next : Request) (front beats : List ABeat)
      → SpellsUpTo width requests front beats → IsRequestBegun width number next front
      → number + 1 < request_beats next.op next.size width
      → SpellsUpTo width requests (front ++ a_beat width next number ∷ []) (beats ++ a_beat width next number ∷ [])
  pub last_of_request : (width number : ℕ) (requests : List Request) (next : Request) (front beats : List ABeat)
      → SpellsUpTo width requests front beats → IsRequestBegun width number next front
      → number + 1 ≡ request_beats next.op next.size width
      → SpellsUpTo width (requests ++ next ∷ []) [] (beats ++ a_beat width next number ∷ [])
  pub response : (width number : ℕ) (exchanges : List Exchange) (next : Exchange) (front beats : List DBeat)
      → SpellsBackUpTo width exchanges front beats → IsResponseBegun width number next front
      → number + 1 < response_beats next.response.op next.response.size width
      → SpellsBackUpTo width exchanges (front ++ beat_back width next number ∷ [])
      (beats ++ beat_back width next number ∷ [])
  pub last_of_response : (width number : ℕ) (exchanges : List Exchange) (next : Exchange) (front beats : List DBeat)
      → SpellsBackUpTo width exchanges front beats → IsResponseBegun width number next front
      → number + 1 ≡ response_beats next.response.op next.response.size width
      → SpellsBackUpTo width (exchanges ++ next ∷ []) [] (beats ++ beat_back width next number ∷ [])
