-- What the tables of a stimulus file state, where their numbers are within the limits. The nodes that they name are
-- looked up later.
use Rattle.std.specs.Prelude.{ℕ, List, [], ◌∷◌, ◌==◌, codes, Bool, true, false, ◌||◌, cond, nat_le}
use Rattle.std.specs.Prelude.{Option, Some, None, is_none}
use Rattle.std.specs.Option.{option_and_then, option_map}
use Rattle.std.specs.List.{find}
use Rattle.std.specs.Str.{bytes_eq}
use Rattle.toml.specs.Data.{Data, table, Members, get_member}
use Rattle.tl_params.specs.declared.ops.Op.{Op}
use Rattle.tl_params.specs.declared.ops.Op.TheVariants.{PutFull, PutPartial, Arithmetic, Logical, Get, Intent}
use Rattle.tl_edge.specs.Messages.{bytes_of}
use Rattle.dip_graph.specs.Limits.{most_atomic}
use Rattle.sim_ports.specs.declared.role.Role.{Role}
use Rattle.sim_ports.specs.declared.role.Role.TheVariants.{Ram, Rom, Deny}
use Rattle.soc_stimulus.specs.declared.limits.LimitedRequest.{LimitedRequest}
use Rattle.soc_stimulus.specs.declared.limits.LimitedStall.{LimitedStall}
use Rattle.soc_stimulus.specs.declared.limits.LimitedDevice.{LimitedDevice}
use Rattle.soc_stimulus.specs.declared.tables.Part.{Part}
use Rattle.soc_stimulus.specs.declared.tables.Part.TheVariants as part
use Rattle.toml_shape.specs.Entries.{is_past}
use Rattle.toml_shape.specs.Shapes.{integer_of, text_of, number_within, text_under, number_under}
use Rattle.soc_stimulus.specs.Limits.{most_cycles, most_requests, most_stalls, most_devices, most_request_address}
use Rattle.soc_stimulus.specs.Limits.{most_request_bytes, most_source, most_param, most_port, most_delay}
use Rattle.soc_stimulus.specs.Shape.{op_in}

-- ---- numbers

-- a number up to a greatest one, 0 where it is missing
abbrev pub number_or_zero : ℕ → Option Data → Option ℕ
number_or_zero most None = Some 0
number_or_zero most (Some d) = option_and_then (number_within 0 most) (integer_of d)

-- the same of what stands under a key
abbrev pub number_there : List ℕ → ℕ → Members → Option ℕ
number_there key most ms = number_or_zero most (get_member key ms)

-- ---- requests

-- the most bytes of a request with an operation
abbrev pub most_bytes_of : Op → ℕ
most_bytes_of PutFull = most_request_bytes
most_bytes_of PutPartial = most_request_bytes
most_bytes_of Arithmetic = most_atomic
most_bytes_of Logical = most_atomic
most_bytes_of Get = most_request_bytes
most_bytes_of Intent = most_request_bytes

-- the size of so many bytes, the base-2 logarithm, where they are a power of two up to 256
abbrev pub size_of : ℕ → Option ℕ
size_of bytes = find (λ size. bytes_of size == bytes) (0 ∷ 1 ∷ 2 ∷ 3 ∷ 4 ∷ 5 ∷ 6 ∷ 7 ∷ 8 ∷ [])

-- the size of a request with an operation
abbrev pub size_in : Op → Members → Option ℕ
size_in op ms = option_and_then size_of (number_under (codes "bytes") 1 (most_bytes_of op) ms)

-- the numbers of a request with an operation
abbrev pub numbers_with : Members → Op → Option LimitedRequest
numbers_with ms op =
    option_and_then (λ size. option_and_then (λ address. option_and_then (λ source. option_and_then (λ port.
    option_and_then (λ at. option_map (λ param.
    record {
      op = op;
      size = size;
      address = address;
      source = source;
      port = port;
      at = at;
      param = param;
    })
    (number_there (codes "param") most_param ms))
    (number_there (codes "at") most_cycles ms))
    (number_there (codes "port") most_port ms))
    (number_under (codes "source") 0 most_source ms))
    (number_under (codes "address") 0 most_request_address ms))
    (size_in op ms)

-- the operation and the numbers of a request
abbrev pub numbers_in : Members → Option LimitedRequest
numbers_in ms = option_and_then (numbers_with ms) (op_in ms)

-- the same of a value
abbrev pub limited_request : Data → Option LimitedRequest
limited_request (table ms) = numbers_in ms
limited_request d = None

-- ---- stalls

-- whether it is channel A that a text names, and not channel D
abbrev pub channel_named : List ℕ → Option Bool
channel_named text =
    cond (bytes_eq text (codes "a")) (Some true) (cond (bytes_eq text (codes "d")) (Some false) None)

-- the channel of a stall
abbrev pub channel_in : Members → Option Bool
channel_in ms = option_and_then channel_named (text_under (codes "side") ms)

-- a first cycle, and a first one after, which isn't below it
abbrev pub cycles_between : ℕ → ℕ → Option (ℕ × ℕ)
cycles_between start end = cond (nat_le start end) (Some (start, end)) None

-- the cycles of a stall
abbrev pub stalled_cycles : Members → Option (ℕ × ℕ)
stalled_cycles ms =
    option_and_then (λ start. option_and_then (cycles_between start) (number_under (codes "to") 0 most_cycles ms))
    (number_under (codes "from") 0 most_cycles ms)

-- the port, the channel and the cycles of a stall
abbrev pub stall_in : Members → Option LimitedStall
stall_in ms =
    option_and_then (λ on_a. option_and_then (λ cycles. option_map (λ port.
    record { port = port; on_a = on_a; start = cycles.0; end = cycles.1 })
    (number_there (codes "port") most_port ms))
    (stalled_cycles ms))
    (channel_in ms)

-- the same of a value
abbrev pub limited_stall : Data → Option LimitedStall
limited_stall (table ms) = stall_in ms
limited_stall d = None

-- ---- devices

-- the role with a name
abbrev pub role_named : List ℕ → Option Role
role_named text =
    cond (bytes_eq text (codes "ram")) (Some Ram)
    (cond (bytes_eq text (codes "rom")) (Some Rom) (cond (bytes_eq text (codes "deny")) (Some Deny) None))

-- a memory that does all requests where none is stated
abbrev pub role_stated : Option Data → Option Role
role_stated None = Some Ram
role_stated (Some d) = option_and_then role_named (text_of d)

-- the port, the role and the delay of a device
abbrev pub device_in : Members → Option LimitedDevice
device_in ms =
    option_and_then (λ port. option_and_then (λ role. option_map (λ delay.
    record { port = port; setting = record { role = role; delay = delay } })
    (number_there (codes "delay") most_delay ms))
    (role_stated (get_member (codes "role") ms)))
    (number_there (codes "port") most_port ms)

-- the same of a value
abbrev pub limited_device : Data → Option LimitedDevice
limited_device (table ms) = device_in ms
limited_device d = None

-- ---- beyond the limits

-- how many tables of a part there may be
abbrev pub most_tables : Part → ℕ
most_tables part.Request = most_requests
most_tables part.Stall = most_stalls
most_tables part.Device = most_devices

-- a number of a request, a stall or a device is beyond its limit
abbrev pub has_no_numbers : Part → Data → Bool
has_no_numbers part.Request d = is_none (limited_request d)
has_no_numbers part.Stall d = is_none (limited_stall d)
has_no_numbers part.Device d = is_none (limited_device d)

-- a table past the allowed number of its part, or with a number beyond its limit
abbrev pub is_beyond : Part → ℕ → Data → Bool
is_beyond p place d = is_past (most_tables p) place d || has_no_numbers p d
