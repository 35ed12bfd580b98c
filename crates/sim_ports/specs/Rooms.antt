-- How the driver of a sink port keeps room for requests and responses, so that it takes no memory.
use Rattle.std.specs.Prelude.{ℕ, ◌≡◌, ◌≤◌, ◌+◌, ◌*◌, ◌/◌, ◌%◌, ◌==◌, Bool, false, cond, Option, Some, None, List, length, slice_get}
use Rattle.tl_params.specs.declared.ops.Op.{Op}
use Rattle.tl_params.specs.Codes.{code_of_op}
use Rattle.tl_edge.specs.declared.beat.ABeat.{ABeat}
use Rattle.tl_edge.specs.declared.beat.DBeat.{DBeat}
use Rattle.tl_edge.specs.declared.message.Request.{Request}
use Rattle.tl_edge.specs.declared.message.Response.{Response}
use Rattle.tl_edge.specs.BeatLaws.{lane_of}
use Rattle.tl_edge.specs.Beats.{beats_of_response}
use Rattle.tl_edge.specs.Messages.{ack_of, brings_data, bytes_of, has_data, has_flags}
use Rattle.sim_ports.specs.declared.room.Room.{Room}

-- ---- room for the requests of an operation and a size, and for the responses to them

-- an item for each byte of a size, or none
abbrev pub count_if : Bool → ℕ → ℕ
count_if has size = cond has (bytes_of size) 0

-- a request has the lengths that it needs
pub record SuitsRequest (op : Op) (size : ℕ) (request : Request) : Type 0 where
  pub flags : length request.mask ≡ count_if (has_flags op) size
  pub bytes : length request.payload ≡ count_if (has_data op) size

-- a response has the length that it needs
abbrev pub SuitsResponse : Op → ℕ → Response → Type 0
SuitsResponse op size response = length response.payload ≡ count_if (brings_data (ack_of op)) size

-- both have
pub record Suits (op : Op) (size : ℕ) (room : Room) : Type 0 where
  pub there : SuitsRequest op size room.request
  pub back : SuitsResponse op size room.response

-- where it stands among all rooms: nine sizes for each operation
abbrev pub room_place : Op → ℕ → ℕ
room_place op size = code_of_op op * 9 + size

-- a room has what is needed at its place
abbrev pub SuitsAt : ℕ → Room → Type 0
SuitsAt place room = (op : Op) (size : ℕ) → size ≤ 8 → room_place op size ≡ place → Suits op size room

-- there is room for each operation and each size
pub record AllSuit (rooms : List Room) : Type 0 where
  pub all : length rooms ≡ 54
  pub fits : (place : ℕ) (room : Room) → slice_get rooms place ≡ Some room → SuitsAt place room

-- one has room for as much as the other
pub record IsAsLarge (room other : Room) : Type 0 where
  pub flags : length room.request.mask ≡ length other.request.mask
  pub bytes : length room.request.payload ≡ length other.request.payload
  pub back : length room.response.payload ≡ length other.response.payload

-- the response to a request with these data
abbrev pub with_answer : Request → Bool → List ℕ → Response
with_answer request denied payload = record {
  op = ack_of request.op;
  size = request.size;
  source = request.source;
  denied = denied;
  payload = payload;
}

-- the beats of the response that is in it
abbrev pub room_beats : ℕ → Room → List DBeat
room_beats width room = beats_of_response width room.request.address room.response

-- ---- a message's bytes and flags, found in its beats: the one at an address stands on the lane that the address is
-- modulo the bus

-- the lane of the byte of a message with a number
abbrev pub lane_at : ℕ → ℕ → ℕ → ℕ
lane_at width address number = (address % width + number % width) % width

-- what the beats have on that lane, by a function of a beat and a lane; nothing where they are too few
abbrev pub on_lane : {A : Type 0} → (ABeat → ℕ → A) → A → ℕ → Option ABeat → ℕ → A
on_lane read other width None number = other
on_lane read other width (Some beat) number = read beat (lane_at width beat.address number)

-- the byte with a number
abbrev pub gathered_byte : ℕ → List ABeat → ℕ → ℕ
gathered_byte width beats number =
    on_lane (λ beat lane. lane_of 256 lane beat.payload) 0 width (slice_get beats (number / width)) number

-- the flag with a number
abbrev pub gathered_flag : ℕ → List ABeat → ℕ → Bool
gathered_flag width beats number =
    on_lane (λ beat lane. lane_of 2 lane beat.mask == 1) false width (slice_get beats (number / width)) number

-- ---- a port's driver, as it is kept

-- room for 256 beats of a request and of a response, of which so many are in use
pub record HasSpace (taken : List ABeat) (count : ℕ) (replies : List DBeat) (passed due : ℕ) : Type 0 where
  pub there : length taken ≡ 256
  pub few : count ≤ 256
  pub back : length replies ≡ 256
  pub behind : passed ≤ due
  pub bound : due ≤ 256
