-- Sink ports whose devices are prepared at some addresses, and of what the beats that have left there may be the first
-- ones.
use Rattle.std.specs.Prelude.{ℕ, ◌≡◌, ◌<◌, true, AllPairs, List, Some, length, slice_get, take}
use Rattle.tl_edge.specs.declared.beat.ABeat.{ABeat}
use Rattle.tl_edge.specs.declared.message.Request.{Request}
use Rattle.tl_edge.specs.Beats.{beats_of_request, request_beats}
use Rattle.tl_edge.specs.Messages.{AreBytes}
use Rattle.sim_ports.specs.declared.prepared.Prepared.{Prepared}
use Rattle.sim_ports.specs.Devices.{HasJust, HeldBytes, MayBeAsked, Meaning}
use Rattle.sim_ports.specs.Sinks.{Sinking, sinking, unasked}

-- addresses rise, so that each stands there once
abbrev pub AreRising : List ℕ → Type 0
AreRising addresses = AllPairs (λ lower higher. lower < higher) addresses

-- beats on a bus of some bytes are the first ones of a request that a device with these bytes may be asked, but not all
-- of its beats
pub record HasBegun (held : HeldBytes) (width : ℕ) (beats : List ABeat) : Type 0 where
  pub request : Request
  pub asked : MayBeAsked held request
  pub bytes : AreBytes request.payload
  pub before : beats ≡ take (length beats) (beats_of_request width request)
  pub few : length beats < request_beats request.op request.size width

-- the device of a sink port is prepared and holds just these addresses, which rise; where some beats have left of a
-- request whose last beat hasn't, they have begun one that the device may be asked
pub record IsPreparedAt (addresses : List ℕ) (sink : Sinking) : Type 0 where
  pub prepared : sink.device.prepared ≡ true
  pub has : HasJust addresses sink.device.held
  pub rising : AreRising addresses
  pub begun : 0 < length sink.port.taken → HasBegun sink.device.held sink.port.width sink.port.taken

-- each of some sink ports is prepared at its addresses
pub record ArePrepared (prepared : List Prepared) (sinks : List Sinking) : Type 0 where
  pub long : length prepared ≡ length sinks
  pub each : (port : ℕ) (at : Prepared) (sink : Sinking) → slice_get prepared port ≡ Some at
      → slice_get sinks port ≡ Some sink → IsPreparedAt at.addresses sink

-- a port at which nothing has happened is prepared where its device is, at the addresses that the device has
pub record PreparedLaw : Type 0 where
  pub unasked : (addresses : List ℕ) (device : Meaning) (width delay : ℕ) → device.prepared ≡ true
      → HasJust addresses device.held → AreRising addresses
      → IsPreparedAt addresses (sinking device (unasked width delay))
