-- Devices: what they hold, what they state of requests, and which requests they may be asked.
use Rattle.std.specs.Prelude.{ℕ, ◌+◌, ◌<◌, ◌≤◌, ◌^◌, ◌↔◌, List, Bool, true, false, cond, Option, IsSome, IsTrue, Contains}
use Rattle.tl_params.specs.declared.ops.Op.{Op}
use Rattle.tl_params.specs.declared.ops.Op.TheVariants.{PutFull, PutPartial, Arithmetic, Logical, Get, Intent}
use Rattle.tl_edge.specs.declared.message.Request.{Request}
use Rattle.tl_edge.specs.Messages.{IsRequest, ack_of, brings_data, bytes_of, has_param}
use Rattle.sim_ports.specs.declared.role.Role.{Role}

-- ---- what a device holds: a byte at each address that it has, and none at the others

abbrev pub HeldBytes : Type 0
HeldBytes = ℕ → Option ℕ

-- these are the addresses that it has
abbrev pub HasJust : List ℕ → HeldBytes → Type 0
HasJust addresses held = (address : ℕ) → IsSome (held address) ↔ Contains addresses address

-- two have the same addresses
abbrev pub HaveSame : HeldBytes → HeldBytes → Type 0
HaveSame one other = (address : ℕ) → IsSome (one address) ↔ IsSome (other address)

-- ---- what a device states

-- whether a request is denied, the data of the response, and what is held afterwards
pub record Answer : Type 0 where
  pub denied : Bool
  pub payload : List ℕ
  pub held : HeldBytes

-- what is held at first, in a role, at some addresses; and the answer to a request
pub record Says : Type 0 where
  pub start : Role → List ℕ → HeldBytes
  pub stated : Role → HeldBytes → Request → Answer

-- a device: what it states, whether it is prepared, in which role, and what it holds
pub record Meaning : Type 0 where
  pub says : Says
  pub prepared : Bool
  pub role : Role
  pub held : HeldBytes

-- the device prepared in a role at some addresses
abbrev pub started : Meaning → Role → List ℕ → Meaning
started device role addresses =
    record { says = device.says; prepared = true; role = role; held = device.says.start role addresses }

-- its answer to a request now
abbrev pub device_answer : Meaning → Request → Answer
device_answer device request = device.says.stated device.role device.held request

-- the device after that answer
abbrev pub after_answer : Meaning → Request → Meaning
after_answer device request = record device { held = (device_answer device request).held }

-- ---- what it may be asked

-- a request is an atomic operation
abbrev pub is_atomic : Op → Bool
is_atomic PutFull = false
is_atomic PutPartial = false
is_atomic Arithmetic = true
is_atomic Logical = true
is_atomic Get = false
is_atomic Intent = false

-- how many bytes the response to a request carries
abbrev pub answer_bytes : Request → ℕ
answer_bytes request = cond (brings_data (ack_of request.op)) (bytes_of request.size) 0

-- a whole request, aligned and within the limits, at most eight bytes where it is atomic, all of whose bytes the
-- device has
pub record MayBeAsked (held : HeldBytes) (request : Request) : Type 0 where
  pub shape : IsRequest request
  pub address : request.address < 2 ^ 48
  pub source : request.source < 1024
  pub small : IsTrue (is_atomic request.op) → request.size ≤ 3
  pub param : IsTrue (has_param request.op request.param)
  pub has : (number : ℕ) → number < bytes_of request.size → IsSome (held (request.address + number))
