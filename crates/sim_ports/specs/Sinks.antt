-- What a sink port takes and offers, as a function of what happened at it.
use Rattle.std.specs.Prelude.{ℕ, ◌≡◌, ◌+◌, ◌&&◌, ◌||◌, nat_eq, nat_lt, not, Bool, true, false, cond, IsTrue, Option, Some, None, List, [], ◌∷◌, ◌++◌, length, drop, take, is_none, slice_get}
use Rattle.tl_edge.specs.declared.beat.ABeat.{ABeat}
use Rattle.tl_edge.specs.declared.beat.DBeat.{DBeat}
use Rattle.tl_edge.specs.declared.beat.Event.{Event}
use Rattle.tl_edge.specs.declared.beat.What.{What}
use Rattle.tl_edge.specs.declared.beat.What.TheVariants.{Enter, Return, Leave, Reply}
use Rattle.tl_edge.specs.declared.message.Request.{Request}
use Rattle.tl_edge.specs.declared.message.Response.{Response}
use Rattle.tl_edge.specs.BeatLaws.{IsBeatOf}
use Rattle.tl_edge.specs.Beats.{beats_of_request, beats_of_response, request_beats}
use Rattle.tl_edge.specs.Joined.{joined_request}
use Rattle.tl_edge.specs.Messages.{AreBytes, ack_of}
use Rattle.sim_ports.specs.Devices.{HeldBytes, Meaning, MayBeAsked, after_answer, device_answer}

-- ---- where the port stands

-- what a port has in hand, on a bus of some bytes and with a delay: the beats that have left of a request whose last
-- beat hasn't, the beats of a response that are still to pass, and the first cycle in which these may be offered
pub record Serving : Type 0 where
  pub width : ℕ
  pub delay : ℕ
  pub taken : List ABeat
  pub replies : List DBeat
  pub from : ℕ

-- a port and its device
pub record Sinking : Type 0 where
  pub device : Meaning
  pub port : Serving

abbrev pub sinking : Meaning → Serving → Sinking
sinking device port = record { device = device; port = port }

-- a port at which nothing has happened
abbrev pub unasked : ℕ → ℕ → Serving
unasked width delay = record { width = width; delay = delay; taken = []; replies = []; from = 0 }

-- ---- what it takes and offers in a cycle

-- it holds a whole request: a beat that answers it is still to pass
abbrev pub holds_request : Serving → Bool
holds_request port = not (is_none (slice_get port.replies 0))

-- it takes a beat, unless it is stalled on channel A or holds a whole request
abbrev pub sink_takes : Serving → Bool → Bool
sink_takes port stalled = not stalled && not (holds_request port)

-- the beat that it offers: the next one of the response, from its cycle on, unless it is stalled on channel D
abbrev pub sink_offers : Serving → ℕ → Bool → Option DBeat
sink_offers port cycle stalled = cond (stalled || nat_lt cycle port.from) None (slice_get port.replies 0)

-- ---- what happens at it

-- a device's response to a request
abbrev pub response_of : Meaning → Request → Response
response_of device request = record {
  op = ack_of request.op;
  size = request.size;
  source = request.source;
  denied = (device_answer device request).denied;
  payload = (device_answer device request).payload;
}

-- the device has answered a request in a cycle: the response is offered after the delay, from the next cycle on
abbrev pub sink_answered : Sinking → ℕ → Option Request → Sinking
sink_answered sink cycle None = sink
sink_answered sink cycle (Some request) = record {
  device = after_answer sink.device request;
  port = record {
    width = sink.port.width;
    delay = sink.port.delay;
    taken = [];
    replies = beats_of_response sink.port.width request.address (response_of sink.device request);
    from = cycle + 1 + sink.port.delay;
  };
}

-- these beats have left of a request
abbrev pub with_taken : Serving → List ABeat → Serving
with_taken port taken = record port { taken = taken }

-- beats of which this one is the last are all of their request
abbrev pub are_all : ℕ → List ABeat → ABeat → Bool
are_all width taken beat = nat_eq (length taken) (request_beats beat.op beat.size width)

-- a beat has left in a cycle; after the last one of a request the device answers
abbrev pub after_leave : Sinking → ℕ → ABeat → Sinking
after_leave sink cycle beat =
    let taken = sink.port.taken ++ beat ∷ [] in
    cond (are_all sink.port.width taken beat) (sink_answered sink cycle (joined_request sink.port.width taken))
    (sinking sink.device (with_taken sink.port taken))

-- the next beat of the response has passed
abbrev pub after_reply : Serving → Serving
after_reply port = record port { replies = drop 1 port.replies }

-- the port after what happened in a cycle
abbrev pub after_what : Sinking → ℕ → What → Sinking
after_what sink cycle (Enter beat) = sink
after_what sink cycle (Return beat) = sink
after_what sink cycle (Leave beat) = after_leave sink cycle beat
after_what sink cycle (Reply beat) = sinking sink.device (after_reply sink.port)

-- the port after some events
abbrev pub served : Sinking → List Event → Sinking
served sink [] = sink
served sink (event ∷ events) = served (after_what sink event.cycle event.what) events

-- ---- a driver

-- a beat of a response has passed
abbrev pub is_reply : What → Bool
is_reply (Enter beat) = false
is_reply (Return beat) = false
is_reply (Leave beat) = false
is_reply (Reply beat) = true

-- it began so, and this has happened
abbrev pub Serves : Sinking → List Event → Sinking → Type 0
Serves first history sink = sink ≡ served first history

-- the port takes, its device is prepared, and the beat is the next one of a request that the device may be asked
pub record MayLeave (sink : Sinking) (beat : ABeat) : Type 0 where
  pub takes : IsTrue (sink_takes sink.port false)
  pub prepared : sink.device.prepared ≡ true
  pub request : Request
  pub asked : MayBeAsked sink.device.held request
  pub bytes : AreBytes request.payload
  pub before : sink.port.taken ≡ take (length sink.port.taken) (beats_of_request sink.port.width request)
  pub next : slice_get (beats_of_request sink.port.width request) (length sink.port.taken) ≡ Some beat

-- beats are all of a request that a device with these bytes may be asked, and one of them is the head
pub record AreWhole (held : HeldBytes) (width : ℕ) (beats : List ABeat) (head : ABeat) : Type 0 where
  pub request : Request
  pub asked : MayBeAsked held request
  pub bytes : AreBytes request.payload
  pub is : beats ≡ beats_of_request width request
  pub fields : IsBeatOf request head
