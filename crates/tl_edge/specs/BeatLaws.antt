-- What the beats of a message say of it.
use Rattle.std.specs.Prelude.{ℕ, ◌≡◌, ◌≤◌, ◌<◌, ◌+◌, ◌*◌, ◌/◌, ◌%◌, ◌^◌, All, length, slice_index, slice_index_or, true, false, IsTrue, Some}
use Rattle.std.specs.Int.{from_bool}
use Rattle.tl_params.specs.Arguments.{is_width}
use Rattle.tl_edge.specs.declared.message.Request.{Request}
use Rattle.tl_edge.specs.declared.message.Response.{Response}
use Rattle.tl_edge.specs.declared.beat.ABeat.{ABeat}
use Rattle.tl_edge.specs.declared.beat.DBeat.{DBeat}
use Rattle.tl_edge.specs.Messages.{IsWholeRequest, IsWholeResponse, bytes_of, has_flags}
use Rattle.tl_edge.specs.Beats.{first_lane, lane_count, active_mask, flags_of, a_beat, d_beat, request_beats, response_beats, beats_of_request, beats_of_response}
use Rattle.tl_edge.specs.Joined.{joined_request, joined_response, told}

-- ---- control fields are constant over a message

-- a beat has the control fields of a request
pub record IsBeatOf (request : Request) (beat : ABeat) : Type 0 where
  pub op : beat.op ≡ request.op
  pub param : beat.param ≡ request.param
  pub size : beat.size ≡ request.size
  pub source : beat.source ≡ request.source
  pub address : beat.address ≡ request.address

-- a beat has the control fields of a response
pub record IsBeatBack (response : Response) (beat : DBeat) : Type 0 where
  pub op : beat.op ≡ response.op
  pub size : beat.size ≡ response.size
  pub source : beat.source ≡ response.source
  pub denied : beat.denied ≡ response.denied

-- each message has a beat at least, so many as are stated, and all with its control fields
pub record HeadsLaw : Type 0 where
  pub requests : (width : ℕ) (request : Request) → All (IsBeatOf request) (beats_of_request width request)
  pub request_length : (width : ℕ) (request : Request)
      → length (beats_of_request width request) ≡ request_beats request.op request.size width
  pub request_some : (width : ℕ) (request : Request) → 1 ≤ request_beats request.op request.size width
  pub responses : (width address : ℕ) (response : Response)
      → All (IsBeatBack response) (beats_of_response width address response)
  pub response_length : (width address : ℕ) (response : Response)
      → length (beats_of_response width address response) ≡ response_beats response.op response.size width
  pub response_some : (width : ℕ) (response : Response) → 1 ≤ response_beats response.op response.size width

-- ---- what a bus carries

-- a whole request on a bus of an allowed width
pub record IsSent (width : ℕ) (request : Request) : Type 0 where
  pub bus : IsTrue (is_width width)
  pub whole : IsWholeRequest request

-- a whole response to it on that bus
pub record IsSentBack (width : ℕ) (request : Request) (response : Response) : Type 0 where
  pub sent : IsSent width request
  pub whole : IsWholeResponse request response

-- ---- lane by lane

-- the digit of a number on a lane
abbrev pub lane_of : ℕ → ℕ → ℕ → ℕ
lane_of base lane n = n / base ^ lane % base

-- the lanes on which a message of a size at an address stands
pub record IsActive (width size address lane : ℕ) : Type 0 where
  pub from : first_lane width size address ≤ lane
  pub to : lane < first_lane width size address + lane_count width size

-- the active lanes of an aligned message: the first is its address modulo the bus, all are lanes of the bus, and their
-- mask has a bit for each of them and no other; it is the mask of a request that doesn't say which bytes are written
pub record ActiveLaw : Type 0 where
  pub first : (width size address : ℕ) → IsTrue (is_width width) → address % bytes_of size ≡ 0
      → first_lane width size address ≡ address % width
  pub within : (width size address lane : ℕ) → IsTrue (is_width width) → address % bytes_of size ≡ 0
      → IsActive width size address lane → lane < width
  pub marked : (width size address lane : ℕ) → IsActive width size address lane
      → lane_of 2 lane (active_mask width size address) ≡ 1
  pub unmarked : (width size address lane : ℕ) → (IsActive width size address lane → ⊥)
      → lane_of 2 lane (active_mask width size address) ≡ 0
  pub fits : (width size address : ℕ) → IsTrue (is_width width) → address % bytes_of size ≡ 0
      → active_mask width size address < 2 ^ width
  pub unflagged : (width : ℕ) (request : Request) (number : ℕ) → IsTrue (is_width width)
      → has_flags request.op ≡ false → number < request_beats request.op request.size width
      → (a_beat width request number).mask ≡ active_mask width request.size request.address

-- a beat of a request lane by lane: an active lane has the byte with the number that the lane has in the message, and
-- is marked where the flag with that number is set; the other lanes are 0 and not marked
pub record HasLanes (width : ℕ) (request : Request) (number : ℕ) : Type 0 where
  pub bytes_fit : (a_beat width request number).payload < 256 ^ width
  pub bytes : (lane : ℕ) → lane < lane_count width request.size
      → lane_of 256 (first_lane width request.size request.address + lane) (a_beat width request number).payload
      ≡ slice_index request.payload (number * width + lane)
  pub other_bytes : (lane : ℕ) → (IsActive width request.size request.address lane → ⊥)
      → lane_of 256 lane (a_beat width request number).payload ≡ 0
  pub marks_fit : (a_beat width request number).mask < 2 ^ width
  pub marks : (lane : ℕ) → lane < lane_count width request.size
      → lane_of 2 (first_lane width request.size request.address + lane) (a_beat width request number).mask
      ≡ from_bool (slice_index_or (flags_of request) (number * width + lane) false)
  pub other_marks : (lane : ℕ) → (IsActive width request.size request.address lane → ⊥)
      → lane_of 2 lane (a_beat width request number).mask ≡ 0

-- a beat of a response to a request at an address lane by lane: likewise, and 0 where it is denied
pub record HasLanesBack (width address : ℕ) (response : Response) (number : ℕ) : Type 0 where
  pub bytes_fit : (d_beat width address response number).payload < 256 ^ width
  pub bytes : response.denied ≡ false → (lane : ℕ) → lane < lane_count width response.size
      → lane_of 256 (first_lane width response.size address + lane) (d_beat width address response number).payload
      ≡ slice_index response.payload (number * width + lane)
  pub other_bytes : (lane : ℕ) → (IsActive width response.size address lane → ⊥)
      → lane_of 256 lane (d_beat width address response number).payload ≡ 0
  pub denied : response.denied ≡ true → (d_beat width address response number).payload ≡ 0

-- each beat has what is stated on its lanes, and a number is known by its lanes
pub record LanesLaw : Type 0 where
  pub same : (base lanes n other : ℕ) → 0 < base → n < base ^ lanes → other < base ^ lanes
      → ((lane : ℕ) → lane < lanes → lane_of base lane n ≡ lane_of base lane other) → n ≡ other
  pub requests : (width : ℕ) (request : Request) (number : ℕ) → IsSent width request
      → number < request_beats request.op request.size width → HasLanes width request number
  pub responses : (width : ℕ) (request : Request) (response : Response) (number : ℕ)
      → IsSentBack width request response
      → number < response_beats response.op response.size width
      → HasLanesBack width request.address response number

-- ---- put together, the beats give the message back

-- a message is what its beats, put together, give
pub record JoinLaw : Type 0 where
  pub requests : (width : ℕ) (request : Request) → IsSent width request
      → joined_request width (beats_of_request width request) ≡ Some request
  pub responses : (width : ℕ) (request : Request) (response : Response) → IsSentBack width request response
      → joined_response width request.address (beats_of_response width request.address response) ≡ Some (told response)

-- ---- messages with the same beats are the same, but for the data of denied responses, which their beats don't tell

-- beats determine their message; those of a response do so whichever request it answers
pub record SameLaw : Type 0 where
  pub requests : (width : ℕ) (request other : Request) → IsSent width request → IsSent width other
      → beats_of_request width request ≡ beats_of_request width other → request ≡ other
  pub responses : (width : ℕ) (request asked : Request) (response other : Response)
      → IsSentBack width request response → IsSentBack width asked other
      → beats_of_response width request.address response ≡ beats_of_response width asked.address other
      → told response ≡ told other
  pub granted : (width : ℕ) (request asked : Request) (response other : Response)
      → IsSentBack width request response → IsSentBack width asked other
      → response.denied ≡ false
      → beats_of_response width request.address response ≡ beats_of_response width asked.address other
      → response ≡ other
