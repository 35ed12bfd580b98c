-- What passes the ports in a cycle, by what they offer and take and what they see of the network; and the inputs of a
-- netlist, by what the ports offer and take.
use Rattle.std.specs.Prelude.{ℕ, List, [], ◌∷◌, ◌++◌, Bool, cond, Option, Some, None, flat_map}
use Rattle.std.specs.Int.{from_bool}
use Rattle.std.specs.Option.{option_map}
use Rattle.tl_edge.specs.declared.beat.ABeat.{ABeat}
use Rattle.tl_edge.specs.declared.beat.DBeat.{DBeat}
use Rattle.tl_edge.specs.declared.beat.Event.{Event}
use Rattle.tl_edge.specs.declared.beat.What.{What}
use Rattle.tl_edge.specs.declared.beat.What.TheVariants.{Enter, Return, Leave, Reply}
use Rattle.tl_edge.specs.Wires.{a_fields, d_fields}
use Rattle.net_ports.specs.Implementing.{beat_values}
use Rattle.sim_events.specs.declared.types.SourceOffer.{SourceOffer}
use Rattle.sim_events.specs.declared.types.SinkOffer.{SinkOffer}
use Rattle.sim_events.specs.declared.types.SourceView.{SourceView}
use Rattle.sim_events.specs.declared.types.SinkView.{SinkView}

-- ---- the inputs of a netlist

-- the values of the wires of an offered request
abbrev pub offered_request : Option ABeat → List ℕ
offered_request beat = beat_values 7 (option_map a_fields beat)

-- the values of the wires of an offered response
abbrev pub offered_response : Option DBeat → List ℕ
offered_response beat = beat_values 5 (option_map d_fields beat)

-- the values of a source port's inputs
abbrev pub source_input : SourceOffer → List ℕ
source_input offer = offered_request offer.beat ++ from_bool offer.takes ∷ []

-- the values of a sink port's inputs
abbrev pub sink_input : SinkOffer → List ℕ
sink_input offer = from_bool offer.takes ∷ offered_response offer.beat

-- of all source ports, in order
abbrev pub all_source_input : List SourceOffer → List ℕ
all_source_input offers = flat_map source_input offers

-- of all sink ports
abbrev pub all_sink_input : List SinkOffer → List ℕ
all_sink_input offers = flat_map sink_input offers

-- the values of all inputs: `reset` is 0; then the source ports' in order, then the sink ports'
abbrev pub cycle_inputs : List SourceOffer → List SinkOffer → List ℕ
cycle_inputs sources sinks = 0 ∷ (all_source_input sources ++ all_sink_input sinks)

-- ---- what passes

-- a beat that is offered where there is room
abbrev pub if_room : {B : Type 0} → Bool → Option B → Option B
if_room room beat = cond room beat None

-- what happens in a cycle at a port, where it happens
abbrev pub happening : {B : Type 0} → ℕ → ℕ → (B → What) → Option B → List Event
happening cycle port what None = []
happening cycle port what (Some beat) = record { cycle = cycle; port = port; what = what beat } ∷ []

-- at a source port: what is offered enters where there is room, and what waits returns where the port takes
abbrev pub source_events : ℕ → ℕ → SourceOffer → SourceView → List Event
source_events cycle port offer view =
    happening cycle port Enter (if_room view.room offer.beat)
    ++ happening cycle port Return (if_room offer.takes view.head)

-- at a sink port: what waits leaves where the port takes, and what is offered is replied where there is room
abbrev pub sink_events : ℕ → ℕ → SinkOffer → SinkView → List Event
sink_events cycle port offer view =
    happening cycle port Leave (if_room offer.takes view.head)
    ++ happening cycle port Reply (if_room view.room offer.beat)
