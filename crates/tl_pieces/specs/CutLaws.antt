-- What pieces and replies have.
use Rattle.std.specs.Prelude.{ℕ, ◌≡◌, ◌≤◌, ◌<◌, ◌+◌, ◌-◌, ◌*◌, List, [], ◌∷◌, All, Any, AllPairs, length, slice_index, Some, slice_get, true, false, IsTrue}
use Rattle.std.specs.Int.{IsPowerOfTwo}
use Rattle.std.specs.List.{flat_map, AllZip}
use Rattle.tl_params.specs.Arguments.{is_width}
use Rattle.tl_edge.specs.declared.message.Request.{Request}
use Rattle.tl_edge.specs.declared.message.Response.{Response}
use Rattle.tl_edge.specs.Bundles.{log_of}
use Rattle.tl_edge.specs.Messages.{IsWholeRequest, IsWholeResponse, ack_of, bytes_of, has_data, brings_data}
use Rattle.tl_edge.specs.Beats.{a_beat, d_beat, request_beats, response_beats}
use Rattle.tl_edge.specs.Joined.{told}
use Rattle.tl_pieces.specs.Cutting.{is_cut, piece_at, piece_count, cut_at, reply_to}

-- a whole request, and pieces of a power of two of bytes
pub record IsCuttable (most : ℕ) (request : Request) : Type 0 where
  pub size : IsPowerOfTwo most
  pub whole : IsWholeRequest request

-- a piece asks the same as the request
pub record AsksSame (request piece : Request) : Type 0 where
  pub op : piece.op ≡ request.op
  pub param : piece.param ≡ request.param
  pub source : piece.source ≡ request.source

-- a piece has the byte of the request at an offset, at the address that it has in the request
pub record HasByte (request : Request) (offset : ℕ) (piece : Request) : Type 0 where
  pub from : piece.address ≤ request.address + offset
  pub to : request.address + offset < piece.address + bytes_of piece.size
  pub is : slice_index piece.payload (request.address + offset - piece.address) ≡ slice_index request.payload offset

-- one message ends before another begins
abbrev pub LiesBefore : Request → Request → Type 0
LiesBefore one other = one.address + bytes_of one.size ≤ other.address

-- the pieces of a request are whole requests of at most so many bytes, where it is cut at all; they stand apart in
-- order, have each byte of the request where it belongs, and joined in order its flags and data
pub record CutLaw : Type 0 where
  pub uncut : (most : ℕ) (request : Request) → is_cut most request ≡ false → cut_at most request ≡ request ∷ []
  pub number : (most : ℕ) (request : Request) → IsCuttable most request → is_cut most request ≡ true
      → length (cut_at most request) * most ≡ bytes_of request.size
  pub small : (most : ℕ) (request : Request) → IsCuttable most request → is_cut most request ≡ true
      → All (λ piece. bytes_of piece.size ≡ most) (cut_at most request)
  pub same : (most : ℕ) (request : Request) → All (AsksSame request) (cut_at most request)
  pub whole : (most : ℕ) (request : Request) → IsCuttable most request → All IsWholeRequest (cut_at most request)
  pub bytes : (most : ℕ) (request : Request) (offset : ℕ) → IsCuttable most request
      → offset < bytes_of request.size → Any (HasByte request offset) (cut_at most request)
  pub apart : (most : ℕ) (request : Request) → IsCuttable most request → AllPairs LiesBefore (cut_at most request)
  pub flags_joined : (most : ℕ) (request : Request) → IsCuttable most request
      → flat_map (λ (piece : Request). piece.mask) (cut_at most request) ≡ request.mask
  pub data_joined : (most : ℕ) (request : Request) → IsCuttable most request
      → flat_map (λ (piece : Request). piece.payload) (cut_at most request) ≡ request.payload

-- on a bus, pieces have at least the bytes of a beat, and a request is cut
pub record IsCutOn (width most : ℕ) (request : Request) : Type 0 where
  pub bus : IsTrue (is_width width)
  pub filled : width ≤ most
  pub cuttable : IsCuttable most request
  pub cut : is_cut most request ≡ true

-- how many beats a piece has
abbrev pub piece_beats : ℕ → ℕ → Request → ℕ
piece_beats width most request = request_beats request.op (log_of most) width

-- and the answer to it
abbrev pub answer_beats : ℕ → ℕ → Request → ℕ
answer_beats width most request = response_beats (ack_of request.op) (log_of most) width

-- the beats of the pieces in order have the lanes of the request's beats: mask and data of beat k of piece i are those
-- of beat i n + k of the request, where a piece has n beats; with data, all of them are as many as the request's, and
-- those of the answers with data as many as the reply's
pub record PieceBeatsLaw : Type 0 where
  pub count : (width most : ℕ) (request : Request) → IsCutOn width most request → has_data request.op ≡ true
      → request_beats request.op request.size width ≡ piece_count most request * piece_beats width most request
  pub count_back : (width most : ℕ) (request : Request) → IsCutOn width most request
      → brings_data (ack_of request.op) ≡ true
      → response_beats (ack_of request.op) request.size width
      ≡ piece_count most request * answer_beats width most request
  pub mask : (width most : ℕ) (request : Request) (number beat : ℕ) → IsCutOn width most request
      → number < piece_count most request → beat < piece_beats width most request
      → (a_beat width (piece_at most request number) beat).mask
      ≡ (a_beat width request (number * piece_beats width most request + beat)).mask
  pub payload : (width most : ℕ) (request : Request) (number beat : ℕ) → IsCutOn width most request
      → number < piece_count most request → beat < piece_beats width most request
      → (a_beat width (piece_at most request number) beat).payload
      ≡ (a_beat width request (number * piece_beats width most request + beat)).payload

-- the answers are whole responses to the pieces, one to each
abbrev pub AreAnswers : ℕ → Request → List Response → Type 0
AreAnswers most request answers = AllZip IsWholeResponse (cut_at most request) answers

-- the reply is a whole response to the request, denied where an answer is; that to a request of one piece is what its
-- answer tells; and where no answer is denied, the beats of the answers in order have the data of its beats
pub record ReplyLaw : Type 0 where
  pub whole : (most : ℕ) (request : Request) (answers : List Response) → IsCuttable most request
      → AreAnswers most request answers → IsWholeResponse request (reply_to request answers)
  pub denied : (request : Request) (answers : List Response) → Any (λ answer. answer.denied ≡ true) answers
      → (reply_to request answers).denied ≡ true
  pub granted : (request : Request) (answers : List Response) → All (λ answer. answer.denied ≡ false) answers
      → (reply_to request answers).denied ≡ false
  pub one : (request : Request) (answer : Response) → IsWholeResponse request answer
      → reply_to request (answer ∷ []) ≡ told answer
  pub payload : (width most : ℕ) (request : Request) (answers : List Response) (answer : Response) (number beat : ℕ)
      → IsCutOn width most request → AreAnswers most request answers
      → All (λ answer. answer.denied ≡ false) answers → slice_get answers number ≡ Some answer
      → beat < answer_beats width most request
      → (d_beat width (piece_at most request number).address answer beat).payload
      ≡ (d_beat width request.address (reply_to request answers)
      (number * answer_beats width most request + beat)).payload
