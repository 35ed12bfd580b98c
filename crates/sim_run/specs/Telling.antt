-- Whether drivers may be told what happens at their ports, and what they are afterwards.
use Rattle.std.specs.Prelude.{ℕ, ◌≡◌, ◌*◌, ◌<◌, true, false, List, [], ◌∷◌, ◌++◌, drop, get_or, IsSome, Some, None, slice_get}
use Rattle.tl_edge.specs.declared.beat.Event.{Event}
use Rattle.tl_edge.specs.declared.beat.What.{What}
use Rattle.tl_edge.specs.declared.beat.What.TheVariants.{Enter, Return, Leave, Reply}
use Rattle.sim_ports.specs.Sinks.{Serving, Sinking, MayLeave, after_what, served, sink_offers}
use Rattle.sim_ports.specs.Sources.{Script, Sending, Sends, is_busy, offers_now}
use Rattle.sim_events.specs.declared.types.SourceOffer.{SourceOffer}
use Rattle.sim_events.specs.declared.types.SinkOffer.{SinkOffer}
use Rattle.sim_events.specs.Passing.{sink_events, source_events}
use Rattle.sim_events.specs.Reading.{sink_outputs_count, sink_view, source_outputs_count, source_view}

-- ---- source ports

-- what happens at a source port may be told after what happened: a beat returns with an id that is busy
abbrev pub MayHear : Script → List Event → What → Type 0
MayHear script history (Enter beat) = Unit {0}
MayHear script history (Return beat) = (beat.source < script.ids) × (is_busy script history beat.source ≡ true)
MayHear script history (Leave beat) = Unit {0}
MayHear script history (Reply beat) = Unit {0}

-- so may some events, one after another
abbrev pub MayHearAll : Script → List Event → List Event → Type 0
MayHearAll script history [] = Unit {0}
MayHearAll script history (event ∷ events) =
    MayHear script history event.what × MayHearAll script (history ++ event ∷ []) events

-- a driver that has sent a script so far may be told events
pub record Hears (events : List Event) (driver : Sending) : Type 0 where
  pub script : Script
  pub history : List Event
  pub sends : Sends script history driver
  pub may : MayHearAll script history events

-- a driver has been told events: whatever it sends, they have happened
pub record HasHeard (events : List Event) (old new : Sending) : Type 0 where
  pub heard : (script : Script) (history : List Event) → Sends script history old → MayHearAll script history events
      → Sends script (history ++ events) new

-- what happens in a cycle at the source port with a number, by what all of them offer and take and by the outputs
abbrev pub events_at_source : ℕ → List SourceOffer → List ℕ → ℕ → List Event
events_at_source cycle offers outputs port =
    source_events cycle port (get_or offers port (record { beat = None; takes = false }))
    (source_view (drop (source_outputs_count * port) outputs))

-- what each of some drivers offers is what stands for it
pub record AreOffering (cycle : ℕ) (offers : List SourceOffer) (drivers : List Sending) : Type 0 where
  pub each : (port : ℕ) (offer : SourceOffer) (driver : Sending) → slice_get offers port ≡ Some offer
      → slice_get drivers port ≡ Some driver → IsSome offer.beat → IsSome (offers_now driver cycle)

-- the first of some drivers, so many, may be told what happens at their ports in a cycle
pub record AllHear (cycle : ℕ) (offers : List SourceOffer) (outputs : List ℕ) (count : ℕ) (drivers : List Sending)
    : Type 0 where
  pub each : (port : ℕ) (driver : Sending) → port < count → slice_get drivers port ≡ Some driver
      → Hears (events_at_source cycle offers outputs port) driver

-- they have been told it
pub record AllHeard (cycle : ℕ) (offers : List SourceOffer) (outputs : List ℕ) (count : ℕ) (olds news : List Sending)
    : Type 0 where
  pub each : (port : ℕ) (old new : Sending) → port < count → slice_get olds port ≡ Some old
      → slice_get news port ≡ Some new → HasHeard (events_at_source cycle offers outputs port) old new

-- ---- sink ports

-- what happens at a sink port may be told: a beat that leaves is the next one of a request
abbrev pub MayServe : Sinking → What → Type 0
MayServe sink (Enter beat) = Unit {0}
MayServe sink (Return beat) = Unit {0}
MayServe sink (Leave beat) = MayLeave sink beat
MayServe sink (Reply beat) = Unit {0}

-- so may some events, one after another
abbrev pub MayServeAll : Sinking → List Event → Type 0
MayServeAll sink [] = Unit {0}
MayServeAll sink (event ∷ events) =
    MayServe sink event.what × MayServeAll (after_what sink event.cycle event.what) events

-- what happens in a cycle at the sink port with a number
abbrev pub events_at_sink : ℕ → List SinkOffer → List ℕ → ℕ → List Event
events_at_sink cycle offers outputs port =
    sink_events cycle port (get_or offers port (record { takes = false; beat = None }))
    (sink_view (drop (sink_outputs_count * port) outputs))

-- what a sink port takes and offers stands for what its driver does: where it offers, the driver has a beat to pass,
-- and the port takes nothing
pub record IsServing (cycle : ℕ) (offer : SinkOffer) (server : Serving) : Type 0 where
  pub offers : IsSome offer.beat → IsSome (sink_offers server cycle false)
  pub apart : IsSome offer.beat → offer.takes ≡ false

-- so it is at each of some ports
pub record AllServing (cycle : ℕ) (offers : List SinkOffer) (servers : List Serving) : Type 0 where
  pub each : (port : ℕ) (offer : SinkOffer) (server : Serving) → slice_get offers port ≡ Some offer
      → slice_get servers port ≡ Some server → IsServing cycle offer server

-- each of some ports with its device may be told what happens there in a cycle
pub record AllMayServe (cycle : ℕ) (offers : List SinkOffer) (outputs : List ℕ) (sinks : List Sinking) : Type 0 where
  pub each : (port : ℕ) (sink : Sinking) → slice_get sinks port ≡ Some sink
      → MayServeAll sink (events_at_sink cycle offers outputs port)

-- the first of some ports, so many, have been told it
pub record AllServed (cycle : ℕ) (offers : List SinkOffer) (outputs : List ℕ) (count : ℕ) (olds news : List Sinking)
    : Type 0 where
  pub each : (port : ℕ) (old new : Sinking) → port < count → slice_get olds port ≡ Some old
      → slice_get news port ≡ Some new → new ≡ served old (events_at_sink cycle offers outputs port)
