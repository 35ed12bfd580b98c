-- The events of a cycle of the network of a plan: what its chosen moves let pass at the ports, in their order.
use Rattle.std.specs.Prelude.{ℕ, ◌+◌, List, [], ◌∷◌, map, Option, Some, None, flat_map}
use Rattle.tl_edge.specs.declared.beat.Event.{Event}
use Rattle.tl_edge.specs.declared.beat.Tag.{Tag}
use Rattle.tl_edge.specs.declared.beat.What.{What}
use Rattle.tl_edge.specs.declared.beat.What.TheVariants.{Enter as Entered, Return as Returned, Leave as Left, Reply as Replied}
use Rattle.flow_core.specs.declared.moves.Move.{Move}
use Rattle.flow_core.specs.declared.moves.Move.TheVariants.{Enter, Leave, Reply, Return}
use Rattle.flow_core.specs.Network.{State, leaving, returning}
use Rattle.flow_choice.specs.declared.offers.Offers.{Offers}
use Rattle.flow_choice.specs.Choosing.{port_moves, state_after_cycle}

-- an event, and the tag of its beat, which is on no wire
pub record TaggedEvent : Type 0 where
  pub event : Event
  pub tag : Tag

-- what happens in a cycle at a port with a beat and its tag, where there is one
abbrev pub tagged_event : {B : Type 0} → ℕ → ℕ → (B → What) → Option (B × Tag) → List TaggedEvent
tagged_event cycle port what None = []
tagged_event cycle port what (Some beat) =
    record { event = record { cycle = cycle; port = port; what = what beat.0 }; tag = beat.1 } ∷ []

-- what happens in a cycle with a move that is made in a state; nothing at the ports where the move is a leaf's
abbrev pub event_of_move : ℕ → State → Move → List TaggedEvent
event_of_move cycle state (Enter port beat tag) = tagged_event cycle port Entered (Some (beat, tag))
event_of_move cycle state (Return port) = tagged_event cycle port Returned (returning state port)
event_of_move cycle state (Leave port) = tagged_event cycle port Left (leaving state port)
event_of_move cycle state (Reply port beat tag) = tagged_event cycle port Replied (Some (beat, tag))
event_of_move cycle state _ = []

-- what happens at the ports in a cycle that starts in a state, with some offers: of the source ports in order, at each
-- what enters before what returns; then of the sink ports, at each what leaves before what is replied
abbrev pub tagged_events_in : ℕ → State → Offers → List TaggedEvent
tagged_events_in cycle state offers = flat_map (event_of_move cycle state) (port_moves state offers)

-- events without their tags
abbrev pub events_of : List TaggedEvent → List Event
events_of history = map (λ (happened : TaggedEvent). happened.event) history

-- the events of each of some cycles, of which the first one has this number, from a state on
abbrev pub events_by_cycle : ℕ → State → List Offers → List (List Event)
events_by_cycle cycle state [] = []
events_by_cycle cycle state (offers ∷ cycles) =
    events_of (tagged_events_in cycle state offers)
    ∷ events_by_cycle (cycle + 1) (state_after_cycle state offers) cycles
