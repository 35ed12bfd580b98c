-- What the history of a sink port means, in other words than its definition's.
use Rattle.std.specs.Prelude.{ℕ, ◌≡◌, ◌+◌, List, [], ◌∷◌, ◌++◌}
use Rattle.std.specs.List.{AllZip}
use Rattle.tl_edge.specs.declared.beat.ABeat.{ABeat}
use Rattle.tl_edge.specs.declared.beat.Event.{Event}
use Rattle.tl_edge.specs.declared.beat.What.TheVariants.{Leave}
use Rattle.tl_edge.specs.declared.message.Request.{Request}
use Rattle.tl_edge.specs.Beats.{beats_of_request, beats_of_response}
use Rattle.tl_edge.specs.BeatLaws.{IsSent}
use Rattle.sim_ports.specs.Devices.{after_answer}
use Rattle.sim_ports.specs.Sinks.{Serving, Sinking, after_what, response_of, served, sinking}

-- what no event changes of a port and its device
pub record KeepsItsOwn (before after : Sinking) : Type 0 where
  pub width : after.port.width ≡ before.port.width
  pub delay : after.port.delay ≡ before.port.delay
  pub says : after.device.says ≡ before.device.says
  pub prepared : after.device.prepared ≡ before.device.prepared
  pub role : after.device.role ≡ before.device.role

-- an event is that a beat leaves
abbrev pub IsLeaveOf : ABeat → Event → Type 0
IsLeaveOf beat event = event.what ≡ Leave beat

-- the beats of a request leave one after another, the last one in a cycle
pub record AreLeavesOf (width : ℕ) (request : Request) (history : List Event) (end : Event) : Type 0 where
  pub front : List ABeat
  pub last : ABeat
  pub beats : beats_of_request width request ≡ front ++ last ∷ []
  pub before : AllZip IsLeaveOf front history
  pub at_last : IsLeaveOf last end

-- the port and the device when a request has left in a cycle
abbrev pub after_request : Sinking → Request → ℕ → Sinking
after_request sink request cycle =
    let port : Serving = record {
      width = sink.port.width;
      delay = sink.port.delay;
      taken = [];
      replies = beats_of_response sink.port.width request.address (response_of sink.device request);
      from = cycle + 1 + sink.port.delay;
    } in
    sinking (after_answer sink.device request) port

-- A port stands after each event where that event takes it from where it stood before. It keeps its bus, its delay and
-- what its device states. When all beats of a request have left, in whatever cycles, the device has answered that
-- request, and the delay is counted from the last of them.
pub record SinkLaw : Type 0 where
  pub step : (sink : Sinking) (history : List Event) (event : Event)
      → served sink (history ++ event ∷ []) ≡ after_what (served sink history) event.cycle event.what
  pub kept : (sink : Sinking) (history : List Event) → KeepsItsOwn sink (served sink history)
  pub request : (sink : Sinking) (request : Request) (history : List Event) (end : Event) → sink.port.taken ≡ []
      → IsSent sink.port.width request → AreLeavesOf sink.port.width request history end
      → served sink (history ++ end ∷ []) ≡ after_request sink request end.cycle
