-- That what is read off the outputs of a netlist are the events of the network that it is.
use Rattle.std.specs.Prelude.{ℕ, ◌≡◌, ◌+◌, List, [], ◌∷◌, Bool, Option, map}
use Rattle.std.specs.Option.{option_map}
use Rattle.tl_edge.specs.declared.beat.ABeat.{ABeat}
use Rattle.tl_edge.specs.declared.beat.DBeat.{DBeat}
use Rattle.tl_edge.specs.declared.beat.Event.{Event}
use Rattle.tl_edge.specs.declared.beat.Tag.{Tag}
use Rattle.tl_edge.specs.declared.plan.Plan.{Plan}
use Rattle.tl_edge.specs.SoundPlans.{IsSound}
use Rattle.flow_core.specs.Network.{State, network_at_start}
use Rattle.flow_choice.specs.declared.offers.Offers.{Offers}
use Rattle.flow_choice.specs.Valid.{IsValid}
use Rattle.net_cells.specs.declared.netlist.Netlist.{Netlist}
use Rattle.net_cells.specs.Values.{IsRun}
use Rattle.net_ports.specs.Implementing.{AreOffered, AreOffersAt, Implements, input_values, outputs_of, shown_values}
use Rattle.sim_events.specs.declared.types.SourceOffer.{SourceOffer}
use Rattle.sim_events.specs.declared.types.SinkOffer.{SinkOffer}
use Rattle.sim_events.specs.Passing.{cycle_inputs}
use Rattle.sim_events.specs.Reading.{events_read}
use Rattle.sim_events.specs.Network.{events_by_cycle, events_of, tagged_events_in}

-- what source ports offer and take, without tags
abbrev pub at_sources : List (Option (ABeat × Tag)) → List Bool → List SourceOffer
at_sources [] takes = []
at_sources (beat ∷ beats) [] = []
at_sources (beat ∷ beats) (take ∷ takes) =
    record { beat = option_map (λ (tagged : ABeat × Tag). tagged.0) beat; takes = take } ∷ at_sources beats takes

-- what sink ports take and offer, without tags
abbrev pub at_sinks : List Bool → List (Option (DBeat × Tag)) → List SinkOffer
at_sinks [] beats = []
at_sinks (take ∷ takes) [] = []
at_sinks (take ∷ takes) (beat ∷ beats) =
    record { takes = take; beat = option_map (λ (tagged : DBeat × Tag). tagged.0) beat } ∷ at_sinks takes beats

-- the same of what is offered in a cycle
abbrev pub sources_in : Offers → List SourceOffer
sources_in offers = at_sources offers.enter offers.take_d

-- and at its sink ports
abbrev pub sinks_in : Offers → List SinkOffer
sinks_in offers = at_sinks offers.take_a offers.reply

-- the inputs of a netlist are what its ports offer and take
abbrev pub InputsLaw : Type 0
InputsLaw = (offers : Offers) → input_values offers ≡ cycle_inputs (sources_in offers) (sinks_in offers)

-- the events of each of some cycles, of which the first one has this number, read off the outputs in each
abbrev pub reads_by_cycle : ℕ → List Offers → List (List ℕ) → List (List Event)
reads_by_cycle cycle [] outputs = []
reads_by_cycle cycle (offers ∷ cycles) [] = []
reads_by_cycle cycle (offers ∷ cycles) (shown ∷ outputs) =
    events_read cycle (sources_in offers) (sinks_in offers) shown ∷ reads_by_cycle (cycle + 1) cycles outputs

-- in a locally valid state of a sound plan what the ports are shown gives the events of the network
abbrev pub CycleLaw : Type 0
CycleLaw =
    (plan : Plan) (state : State) (offers : Offers) (cycle : ℕ) → IsSound plan → IsValid plan state
    → AreOffersAt plan offers
    → events_read cycle (sources_in offers) (sinks_in offers) (shown_values state)
    ≡ events_of (tagged_events_in cycle state offers)

-- in each run of a netlist that is the network of a sound plan, as long as each cycle starts in a locally valid state,
-- the events that are read off its outputs are those of the network
abbrev pub TraceLaw : Type 0
TraceLaw =
    (plan : Plan) (netlist : Netlist) (cycles : List Offers) (values : List (ℕ → ℕ)) → IsSound plan
    → Implements plan netlist → AreOffered plan (network_at_start plan) cycles
    → IsRun netlist (map input_values cycles) values
    → reads_by_cycle 0 cycles (map (outputs_of netlist) values) ≡ events_by_cycle 0 (network_at_start plan) cycles
