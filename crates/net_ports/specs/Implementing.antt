-- What it means that a netlist is the network of a plan: in each cycle its ports show what the network's do.
use Rattle.std.specs.Prelude.{◌≡◌, ℕ, List, [], ◌∷◌, ◌++◌, length, map, flat_map, Option, Some, None, slice_get, IsTrue, Bool}
use Rattle.std.specs.Int.{from_bool}
use Rattle.std.specs.Option.{option_map}
use Rattle.tl_edge.specs.declared.beat.ABeat.{ABeat}
use Rattle.tl_edge.specs.declared.beat.DBeat.{DBeat}
use Rattle.tl_edge.specs.declared.beat.Tag.{Tag}
use Rattle.tl_edge.specs.declared.plan.PlanPort.{PlanPort}
use Rattle.tl_edge.specs.declared.plan.Plan.{Plan}
use Rattle.tl_edge.specs.Plans.{edge_at}
use Rattle.tl_edge.specs.Wires.{a_fields, d_fields}
use Rattle.flow_core.specs.Carried.{carries_a, carries_d}
use Rattle.flow_core.specs.Network.{State, network_at_start}
use Rattle.flow_core.specs.Queues.{queue, head_in, has_place}
use Rattle.flow_choice.specs.declared.offers.Offers.{Offers}
use Rattle.flow_choice.specs.Choosing.{state_after_cycle}
use Rattle.flow_choice.specs.Valid.{IsValid}
use Rattle.net_cells.specs.declared.netlist.Netlist.{Netlist}
use Rattle.net_cells.specs.declared.netlist.OutPort.{OutPort}
use Rattle.net_cells.specs.Values.{IsRun}
use Rattle.net_build.specs.Bits.{zeros}
use Rattle.net_ports.specs.Ports.{HasPorts}

-- ---- beats on wires

-- the values of the wires of a beat, if there is one: 1 and its fields, of which there are so many; else all are 0
abbrev pub beat_values : ℕ → Option (List ℕ) → List ℕ
beat_values count None = 0 ∷ zeros count
beat_values count (Some fields) = 1 ∷ fields

-- of a beat of a request, whose tag is on no wire
abbrev pub request_values : Option (ABeat × Tag) → List ℕ
request_values beat = beat_values 7 (option_map (λ (beat : ABeat × Tag). a_fields beat.0) beat)

-- of a beat of a response
abbrev pub response_values : Option (DBeat × Tag) → List ℕ
response_values beat = beat_values 5 (option_map (λ (beat : DBeat × Tag). d_fields beat.0) beat)

-- ---- the inputs in a cycle

-- at source ports: what each offers, and whether it takes
abbrev pub source_values : List (Option (ABeat × Tag)) → List Bool → List ℕ
source_values [] takes = []
source_values (beat ∷ offered) [] = []
source_values (beat ∷ offered) (take ∷ takes) =
    (request_values beat ++ from_bool take ∷ []) ++ source_values offered takes

-- at sink ports: whether each takes, and what it offers
abbrev pub sink_values : List Bool → List (Option (DBeat × Tag)) → List ℕ
sink_values [] offered = []
sink_values (take ∷ takes) [] = []
sink_values (take ∷ takes) (beat ∷ offered) = (from_bool take ∷ response_values beat) ++ sink_values takes offered

-- all inputs of a netlist, where `reset` is 0 and its ports offer and take this
abbrev pub input_values : Offers → List ℕ
input_values offers =
    0 ∷ (source_values offers.enter offers.take_d ++ sink_values offers.take_a offers.reply)

-- ---- the outputs in a state

-- at a source port: whether its edge has room for a request, and the response at the head
abbrev pub source_shows : State → PlanPort → List ℕ
source_shows state at =
    from_bool (has_place (queue state.a at.edge)) ∷ response_values (head_in (queue state.d at.edge))

-- at a sink port: the request at the head of its edge, and whether there is room for a response
abbrev pub sink_shows : State → PlanPort → List ℕ
sink_shows state at =
    request_values (head_in (queue state.a at.edge)) ++ from_bool (has_place (queue state.d at.edge)) ∷ []

-- all outputs of a netlist, where its network is in this state
abbrev pub shown_values : State → List ℕ
shown_values state =
    flat_map (source_shows state) state.plan.sources ++ flat_map (sink_shows state) state.plan.sinks

-- in each cycle, from this state on, where these are the offers
abbrev pub outputs_by_cycle : State → List Offers → List (List ℕ)
outputs_by_cycle state [] = []
outputs_by_cycle state (offers ∷ cycles) =
    shown_values state ∷ outputs_by_cycle (state_after_cycle state offers) cycles

-- the values of a netlist's outputs
abbrev pub outputs_of : Netlist → (ℕ → ℕ) → List ℕ
outputs_of netlist v = map (λ (shown : OutPort). v shown.net) netlist.outputs

-- ---- what the ports may offer

-- something is said of each port, and each beat that is offered is one that the edge of its port carries
pub record AreOffersAt (plan : Plan) (offers : Offers) : Type 0 where
  pub enter_long : length offers.enter ≡ length plan.sources
  pub take_d_long : length offers.take_d ≡ length plan.sources
  pub take_a_long : length offers.take_a ≡ length plan.sinks
  pub reply_long : length offers.reply ≡ length plan.sinks
  pub enters : (port : ℕ) (at : PlanPort) (beat : ABeat × Tag) → slice_get plan.sources port ≡ Some at
      → slice_get offers.enter port ≡ Some (Some beat) → IsTrue (carries_a (edge_at plan at.edge) beat.0)
  pub replies : (port : ℕ) (at : PlanPort) (beat : DBeat × Tag) → slice_get plan.sinks port ≡ Some at
      → slice_get offers.reply port ≡ Some (Some beat) → IsTrue (carries_d (edge_at plan at.edge) beat.0)

-- so it is in each cycle from this state on, and each cycle starts in a locally valid state
abbrev pub AreOffered : Plan → State → List Offers → Type 0
AreOffered plan state [] = Unit {0}
AreOffered plan state (offers ∷ cycles) =
    AreOffersAt plan offers × IsValid plan state × AreOffered plan (state_after_cycle state offers) cycles

-- ---- the netlist

-- A netlist is the network of a plan: it has the plan's ports, and in each run from the start, whatever the ports
-- offer that their edges carry, its outputs show in each cycle what the network's state then shows, as long as each
-- cycle starts in a locally valid state.
pub record Implements (plan : Plan) (netlist : Netlist) : Type 0 where
  pub ports : HasPorts plan netlist
  pub runs : (cycles : List Offers) (values : List (ℕ → ℕ)) → AreOffered plan (network_at_start plan) cycles
      → IsRun netlist (map input_values cycles) values
      → map (outputs_of netlist) values ≡ outputs_by_cycle (network_at_start plan) cycles
