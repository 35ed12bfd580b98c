-- What a test finds out of a request before it asks it.
use Rattle.std.specs.Prelude.{ℕ, ◌≡◌, ◌+◌, ◌<◌, ◌≤◌, ◌^◌, List, Contains, IsTrue}
use Rattle.tl_edge.specs.declared.message.Request.{Request}
use Rattle.tl_edge.specs.Messages.{IsRequest, bytes_of, has_param}
use Rattle.sim_ports.specs.Devices.{answer_bytes, is_atomic}

-- so many addresses from one on are among some
abbrev pub AllStand : List ℕ → ℕ → ℕ → Type 0
AllStand addresses first count = (number : ℕ) → number < count → Contains addresses (first + number)

-- within the limits of the address, the id, the size of an atomic operation and the param
pub record IsWithinLimits (request : Request) : Type 0 where
  pub address : request.address < 2 ^ 48
  pub source : request.source < 1024
  pub small : IsTrue (is_atomic request.op) → request.size ≤ 3
  pub param : IsTrue (has_param request.op request.param)

-- a request may be asked of a device that has these addresses, and so many bytes are its answer's
pub record MayBeAskedAt (addresses : List ℕ) (request : Request) (room : ℕ) : Type 0 where
  pub shape : IsRequest request
  pub limits : IsWithinLimits request
  pub has : AllStand addresses request.address (bytes_of request.size)
  pub room_is : room ≡ answer_bytes request
