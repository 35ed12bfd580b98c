-- Messages read back from their beats.
use Rattle.std.specs.Prelude.{ℕ, zero, suc, ◌/◌, ◌%◌, ◌^◌, ◌==◌, List, [], ◌∷◌, map, length, replicate, Bool, cond, Option, Some, None}
use Rattle.std.specs.List.{flat_map}
use Rattle.tl_edge.specs.declared.message.Request.{Request}
use Rattle.tl_edge.specs.declared.message.Response.{Response}
use Rattle.tl_edge.specs.declared.beat.ABeat.{ABeat}
use Rattle.tl_edge.specs.declared.beat.DBeat.{DBeat}
use Rattle.tl_edge.specs.Messages.{has_data, has_flags, brings_data}
use Rattle.tl_edge.specs.Beats.{first_lane, lane_count}

-- so many digits of a number in a base, the lowest first
abbrev pub digits : ℕ → ℕ → ℕ → List ℕ
digits base zero n = []
digits base (suc more) n = n % base ∷ digits base more (n / base)

-- the digits on the active lanes of a message of a size at an address
abbrev pub active_digits : ℕ → ℕ → ℕ → ℕ → ℕ → List ℕ
active_digits base width size address n = digits base (lane_count width size) (n / base ^ first_lane width size address)

-- ---- requests: the control fields of the first beat, and what the active lanes of all beats hold in order

-- the bytes in a beat of a request
abbrev pub bytes_in : ℕ → ABeat → List ℕ
bytes_in width beat = cond (has_data beat.op) (active_digits 256 width beat.size beat.address beat.payload) []

-- the flags in a beat of a request
abbrev pub flags_in : ℕ → ABeat → List Bool
flags_in width beat =
    cond (has_flags beat.op) (map (λ bit. bit == 1) (active_digits 2 width beat.size beat.address beat.mask)) []

-- the request that beats give, put together
abbrev pub joined_request : ℕ → List ABeat → Option Request
joined_request width [] = None
joined_request width (beat ∷ beats) = Some record {
  op = beat.op;
  param = beat.param;
  size = beat.size;
  source = beat.source;
  address = beat.address;
  mask = flat_map (flags_in width) (beat ∷ beats);
  payload = flat_map (bytes_in width) (beat ∷ beats);
}

-- ---- responses to a request at an address: likewise

-- the bytes in a beat of a response
abbrev pub bytes_back : ℕ → ℕ → DBeat → List ℕ
bytes_back width address beat = cond (brings_data beat.op) (active_digits 256 width beat.size address beat.payload) []

-- the response that beats give, put together
abbrev pub joined_response : ℕ → ℕ → List DBeat → Option Response
joined_response width address [] = None
joined_response width address (beat ∷ beats) = Some record {
  op = beat.op;
  size = beat.size;
  source = beat.source;
  denied = beat.denied;
  payload = flat_map (bytes_back width address) (beat ∷ beats);
}

-- what the beats of a response tell of it: all, but that a denied one's data are told as zeros
abbrev pub told : Response → Response
told response = record {
  op = response.op;
  size = response.size;
  source = response.source;
  denied = response.denied;
  payload = cond response.denied (replicate (length response.payload) 0) response.payload;
}
