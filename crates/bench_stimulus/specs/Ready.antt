-- What the program knows of its memory, and finds out of a request before it asks.
use Rattle.std.specs.Prelude.{ℕ, ◌≡◌, ◌+◌, ◌<◌, ◌≤◌, ◌^◌, true, List, Contains, IsSome, IsTrue}
use Rattle.tl_edge.specs.declared.message.Request.{Request}
use Rattle.tl_edge.specs.Messages.{IsRequest, bytes_of, has_param}
use Rattle.sim_ports.specs.Devices.{Meaning, answer_bytes, is_atomic}

-- all addresses below a first one are among some
abbrev pub AreAllBelow : ℕ → List ℕ → Type 0
AreAllBelow count addresses = (address : ℕ) → address < count → Contains addresses address

-- a device is prepared, and has each address below a first one
pub record HasBelow (count : ℕ) (device : Meaning) : Type 0 where
  pub prepared : device.prepared ≡ true
  pub has : (address : ℕ) → address < count → IsSome (device.held address)

-- a request within the limits, all of whose bytes stand below an address, with so many bytes of its answer
pub record IsReadyBelow (count : ℕ) (request : Request) (room : ℕ) : Type 0 where
  pub shape : IsRequest request
  pub address : request.address < 2 ^ 48
  pub source : request.source < 1024
  pub small : IsTrue (is_atomic request.op) → request.size ≤ 3
  pub param : IsTrue (has_param request.op request.param)
  pub within : request.address + bytes_of request.size ≤ count
  pub room_is : room ≡ answer_bytes request
