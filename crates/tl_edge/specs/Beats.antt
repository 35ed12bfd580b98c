-- The beats of a message: what channel A or D carries in each cycle of it (SiFive TileLink Specification 1.8, chapter
-- 4).
use Rattle.std.specs.Prelude.{ℕ, ◌+◌, ◌*◌, ◌/◌, ◌%◌, ◌^◌, List, [], ◌∷◌, map, take, drop, replicate, Bool, true, cond, nat_le, min, max}
use Rattle.std.specs.Int.{from_bool}
use Rattle.std.specs.List.{range_with_len}
use Rattle.tl_params.specs.declared.ops.Op.{Op}
use Rattle.tl_params.specs.declared.ops.Ack.{Ack}
use Rattle.tl_edge.specs.declared.message.Request.{Request}
use Rattle.tl_edge.specs.declared.message.Response.{Response}
use Rattle.tl_edge.specs.declared.beat.ABeat.{ABeat}
use Rattle.tl_edge.specs.declared.beat.DBeat.{DBeat}
use Rattle.tl_edge.specs.Messages.{has_data, has_flags, brings_data, bytes_of}

-- ---- how many: a bus of some bytes carries so many in each beat, and a message without data takes one

-- the beats of data of a size
abbrev pub data_beats : ℕ → ℕ → ℕ
data_beats size width = max 1 (bytes_of size / width)

-- the beats of a request
abbrev pub request_beats : Op → ℕ → ℕ → ℕ
request_beats op size width = cond (has_data op) (data_beats size width) 1

-- the beats of a response
abbrev pub response_beats : Ack → ℕ → ℕ → ℕ
response_beats op size width = cond (brings_data op) (data_beats size width) 1

-- ---- the active lanes: all of the bus for a message as large as the bus or larger; else as many as it has bytes, from
-- the lane of its address on

-- the lowest active lane
abbrev pub first_lane : ℕ → ℕ → ℕ → ℕ
first_lane width size address = cond (nat_le width (bytes_of size)) 0 (address % width)

-- how many lanes are active
abbrev pub lane_count : ℕ → ℕ → ℕ
lane_count width size = min width (bytes_of size)

-- the lanes of the widest bus
abbrev pub most_lanes : ℕ
most_lanes = 8

-- ---- numbers on lanes

-- the number with these digits in a base, the lowest first
abbrev pub of_digits : ℕ → List ℕ → ℕ
of_digits base [] = 0
of_digits base (digit ∷ digits) = digit + base * of_digits base digits

-- the number whose lanes from a first one on are these; the lanes before and behind them are 0
abbrev pub on_lanes : ℕ → ℕ → List ℕ → ℕ
on_lanes base first lanes = base ^ first * of_digits base lanes

-- the mask of the active lanes: a bit for each lane of the bus, set for those on which the message stands
abbrev pub active_mask : ℕ → ℕ → ℕ → ℕ
active_mask width size address = on_lanes 2 (first_lane width size address) (replicate (lane_count width size) 1)

-- bytes on lanes: a lane of data is eight bits
abbrev pub on_bytes : ℕ → List ℕ → ℕ
on_bytes first bytes = on_lanes 256 first bytes

-- flags on lanes: a lane of the mask is one bit
abbrev pub on_bits : ℕ → List Bool → ℕ
on_bits first flags = on_lanes 2 first (map from_bool flags)

-- what the beat with a number, counted from 0, carries of a list: as many items as the bus has lanes, from its own on
abbrev pub part : {A : Type 0} → ℕ → ℕ → List A → List A
part width number items = take width (drop (number * width) items)

-- the data of the beat with a number of a message of a size at an address
abbrev pub data_on_lanes : ℕ → ℕ → ℕ → ℕ → List ℕ → ℕ
data_on_lanes width size address number bytes = on_bytes (first_lane width size address) (part width number bytes)

-- ---- requests

-- the flags of a request's bytes: its own, or all set
abbrev pub flags_of : Request → List Bool
flags_of request = cond (has_flags request.op) request.mask (replicate (bytes_of request.size) true)

-- the beat of a request with a number, counted from 0
abbrev pub a_beat : ℕ → Request → ℕ → ABeat
a_beat width request number = record {
  op = request.op;
  param = request.param;
  size = request.size;
  source = request.source;
  address = request.address;
  mask = on_bits (first_lane width request.size request.address) (part width number (flags_of request));
  payload = data_on_lanes width request.size request.address number request.payload;
}

-- the beats of a request on a bus of some bytes
abbrev pub beats_of_request : ℕ → Request → List ABeat
beats_of_request width request =
    map (a_beat width request) (range_with_len 0 (request_beats request.op request.size width))

-- ---- responses, to a request at an address; a denied one carries no data

-- the beat of a response with a number, counted from 0
abbrev pub d_beat : ℕ → ℕ → Response → ℕ → DBeat
d_beat width address response number = record {
  op = response.op;
  size = response.size;
  source = response.source;
  denied = response.denied;
  payload = cond response.denied 0 (data_on_lanes width response.size address number response.payload);
}

-- the beats of a response on a bus of some bytes
abbrev pub beats_of_response : ℕ → ℕ → Response → List DBeat
beats_of_response width address response =
    map (d_beat width address response) (range_with_len 0 (response_beats response.op response.size width))
