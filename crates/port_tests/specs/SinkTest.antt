-- The sink port of a test, as the driver that serves it and the request that leaves there.
use Rattle.std.specs.Prelude.{ℕ, ◌≡◌, true, List, IsTrue, length, take}
use Rattle.tl_params.specs.Arguments.{is_width}
use Rattle.tl_edge.specs.declared.message.Request.{Request}
use Rattle.tl_edge.specs.Beats.{beats_of_request}
use Rattle.tl_edge.specs.Messages.{AreBytes}
use Rattle.sim_ports.specs.Devices.{HasJust}
use Rattle.sim_ports.specs.Sinks.{Sinking}

-- the port is on a bus of these bytes, its device is prepared and has just these addresses, and the beats that have
-- left are the first ones of this request
pub record IsServed (width : ℕ) (addresses : List ℕ) (request : Request) (sink : Sinking) : Type 0 where
  pub width_is : sink.port.width ≡ width
  pub bus : IsTrue (is_width width)
  pub prepared : sink.device.prepared ≡ true
  pub just : HasJust addresses sink.device.held
  pub bytes : AreBytes request.payload
  pub before : sink.port.taken ≡ take (length sink.port.taken) (beats_of_request width request)
