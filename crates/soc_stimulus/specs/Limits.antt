-- The limits of what a stimulus file may state.
use Rattle.std.specs.Prelude.{ℕ, ◌-◌, ◌^◌}

-- A stimulus file has at most 16,777,216 bytes.
abbrev pub most_stimulus_bytes : ℕ
most_stimulus_bytes = 16777216

-- It states at most 10,000 requests.
abbrev pub most_requests : ℕ
most_requests = 10000

-- It states at most 1,000 stalls.
abbrev pub most_stalls : ℕ
most_stalls = 1000

-- It states at most 1,024 devices.
abbrev pub most_devices : ℕ
most_devices = 1024

-- A run has 0 to 100,000 cycles, and so many are the first cycle of a request, and both ends of a stall.
abbrev pub most_cycles : ℕ
most_cycles = 100000

-- The address of a request is 0 to 2^48 - 1.
abbrev pub most_request_address : ℕ
most_request_address = 2 ^ 48 - 1

-- A request has at most 256 bytes; the limit of atomic ones stands in the limits of designs.
abbrev pub most_request_bytes : ℕ
most_request_bytes = 256

-- The source id of a request is 0 to 1,023.
abbrev pub most_source : ℕ
most_source = 1023

-- The param of a request is 0 to 7.
abbrev pub most_param : ℕ
most_param = 7

-- The port of a node is 0 to 63.
abbrev pub most_port : ℕ
most_port = 63

-- The delay of a device is 0 to 1,000 cycles.
abbrev pub most_delay : ℕ
most_delay = 1000
