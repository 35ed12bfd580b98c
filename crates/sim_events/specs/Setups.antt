-- What a run is made of, and what its ports offer in a cycle after what happened before it.
use Rattle.std.specs.Prelude.{ℕ, zero, suc, ◌+◌, ◌==◌, ◌&&◌, not, List, [], ◌∷◌, ◌++◌, Bool, true, false, cond, nat_le, nat_lt, filter, map, get_or, Option, None}
use Rattle.std.specs.List.{list_any}
use Rattle.std.specs.Option.{option_map}
use Rattle.tl_edge.specs.declared.beat.ABeat.{ABeat}
use Rattle.tl_edge.specs.declared.beat.DBeat.{DBeat}
use Rattle.tl_edge.specs.declared.beat.Event.{Event}
use Rattle.tl_edge.specs.declared.beat.Tag.{Tag}
use Rattle.tl_edge.specs.declared.beat.What.{What}
use Rattle.tl_edge.specs.declared.beat.What.TheVariants.{Enter, Return, Leave, Reply}
use Rattle.tl_edge.specs.declared.plan.Plan.{Plan}
use Rattle.tl_edge.specs.declared.plan.PlanPort.{PlanPort}
use Rattle.tl_edge.specs.Plans.{bus_width, edge_at}
use Rattle.flow_core.specs.Network.{State, network_at_start}
use Rattle.flow_core.specs.Tags.{no_tag}
use Rattle.flow_choice.specs.declared.offers.Offers.{Offers}
use Rattle.flow_choice.specs.Choosing.{state_after_cycle}
use Rattle.sim_ports.specs.declared.role.Role.TheVariants.{Ram}
use Rattle.sim_ports.specs.declared.stimulus.Setting.{Setting}
use Rattle.sim_ports.specs.declared.stimulus.Stall.{Stall}
use Rattle.sim_ports.specs.declared.stimulus.StimRequest.{StimRequest}
use Rattle.sim_ports.specs.Devices.{Says, Meaning}
use Rattle.sim_ports.specs.Sinks.{Sinking, served, sink_offers, sink_takes, sinking, unasked}
use Rattle.sim_ports.specs.Sources.{Script, sent_at, source_offers}
use Rattle.sim_events.specs.Network.{TaggedEvent, events_of, tagged_events_in}

-- what a run is made of: a plan, what a stimulus asks of its ports, what its devices state, and at which addresses the
-- device at each sink port is prepared
pub record Setup : Type 0 where
  pub plan : Plan
  pub requests : List StimRequest
  pub stalls : List Stall
  pub settings : List Setting
  pub devices : List Says
  pub addresses : List (List ℕ)

-- ---- what happened at a port

-- it happens at a source port
abbrev pub is_at_source : What → Bool
is_at_source (Enter beat) = true
is_at_source (Return beat) = true
is_at_source (Leave beat) = false
is_at_source (Reply beat) = false

-- the events of a source port, by its number
abbrev pub at_source : ℕ → List Event → List Event
at_source port history = filter (λ (e : Event). is_at_source e.what && e.port == port) history

-- the events of a sink port
abbrev pub at_sink : ℕ → List Event → List Event
at_sink port history = filter (λ (e : Event). not (is_at_source e.what) && e.port == port) history

-- ---- stalls

-- two flags are the same
abbrev pub same_flag : Bool → Bool → Bool
same_flag true other = other
same_flag false other = not other

-- a stall holds a channel of a port in a cycle: of a source port, or of a sink port; channel A, or channel D
abbrev pub holds_up : Bool → ℕ → Bool → ℕ → Stall → Bool
holds_up source port on_a cycle stall =
    same_flag stall.source source && stall.port == port && same_flag stall.on_a on_a
    && nat_le stall.start cycle && nat_lt cycle stall.end

-- one of some stalls does
abbrev pub is_stalled : List Stall → Bool → ℕ → Bool → ℕ → Bool
is_stalled stalls source port on_a cycle = list_any (holds_up source port on_a cycle) stalls

-- ---- source ports

-- the requests of a source port, in the order of the stimulus
abbrev pub stated_at : ℕ → List StimRequest → List StimRequest
stated_at port requests = filter (λ (asked : StimRequest). asked.port == port) requests

-- what a source port is to send
abbrev pub script_at : Setup → ℕ → PlanPort → Script
script_at setup port at = record {
  width = bus_width (edge_at setup.plan at.edge);
  ids = (edge_at setup.plan at.edge).ids;
  requests = map (λ (asked : StimRequest). asked.request) (stated_at port setup.requests);
  starts = map (λ (asked : StimRequest). asked.at) (stated_at port setup.requests);
}

-- the tag of what a source port sends next: the port, the number of the request, and no piece
abbrev pub entering_tag : Setup → List Event → ℕ → PlanPort → Tag
entering_tag setup history port at =
    record { port = port; index = (sent_at (script_at setup port at) (at_source port history)).whole; piece = 0 }

-- the beat that a source port offers in a cycle after what happened before it
abbrev pub source_beat : Setup → List Event → ℕ → ℕ → PlanPort → Option ABeat
source_beat setup history cycle port at =
    source_offers (script_at setup port at) (at_source port history) cycle
    (is_stalled setup.stalls true port true cycle)

-- the same with its tag
abbrev pub source_offer : Setup → List Event → ℕ → ℕ → PlanPort → Option (ABeat × Tag)
source_offer setup history cycle port at =
    option_map (λ beat. (beat, entering_tag setup history port at)) (source_beat setup history cycle port at)

-- whether it takes a beat of a response
abbrev pub source_takes : Setup → ℕ → ℕ → Bool
source_takes setup cycle port = not (is_stalled setup.stalls true port false cycle)

-- ---- sink ports

-- a device that states nothing
abbrev pub mute : Says
mute = record {
  start = λ role addresses address. None;
  stated = λ role held request. record { denied = true; payload = []; held = held };
}

-- the setting of a sink port
abbrev pub setting_at : Setup → ℕ → Setting
setting_at setup port = get_or setup.settings port (record { role = Ram; delay = 0 })

-- the device of a sink port, prepared in its role at its addresses
abbrev pub device_at_start : Setup → ℕ → Meaning
device_at_start setup port =
    let says : Says = get_or setup.devices port mute in
    record {
      says = says;
      prepared = true;
      role = (setting_at setup port).role;
      held = says.start (setting_at setup port).role (get_or setup.addresses port []);
    }

-- a sink port with its device before anything has happened
abbrev pub sink_at_start : Setup → ℕ → PlanPort → Sinking
sink_at_start setup port at =
    sinking (device_at_start setup port)
    (unasked (bus_width (edge_at setup.plan at.edge)) (setting_at setup port).delay)

-- and after what happened
abbrev pub sink_after : Setup → List Event → ℕ → PlanPort → Sinking
sink_after setup history port at = served (sink_at_start setup port at) (at_sink port history)

-- whether it takes a beat of a request in a cycle
abbrev pub sink_takes_at : Setup → List Event → ℕ → ℕ → PlanPort → Bool
sink_takes_at setup history cycle port at =
    sink_takes (sink_after setup history port at).port (is_stalled setup.stalls false port true cycle)

-- the beat of a response that it offers in a cycle
abbrev pub sink_beat : Setup → List Event → ℕ → ℕ → PlanPort → Option DBeat
sink_beat setup history cycle port at =
    sink_offers (sink_after setup history port at).port cycle (is_stalled setup.stalls false port false cycle)

-- a beat of a request leaves at a sink port
abbrev pub is_leave_at : ℕ → Event → Bool
is_leave_at port event = leaves_at port event.port event.what
  where
    leaves_at : ℕ → ℕ → What → Bool
    leaves_at port at (Leave beat) = at == port
    leaves_at port at _ = false

-- the tag of what a sink port replies: that of the last beat that left there
abbrev pub replying_tag : ℕ → Tag → List TaggedEvent → Tag
replying_tag port tag [] = tag
replying_tag port tag (happened ∷ history) =
    replying_tag port (cond (is_leave_at port happened.event) happened.tag tag) history

-- the beat with its tag
abbrev pub sink_offer : Setup → List TaggedEvent → ℕ → ℕ → PlanPort → Option (DBeat × Tag)
sink_offer setup history cycle port at =
    option_map (λ beat. (beat, replying_tag port no_tag history)) (sink_beat setup (events_of history) cycle port at)

-- ---- all ports

-- something of each of some ports, of which the first one has this number
abbrev pub of_ports : {A : Type 0} → (ℕ → PlanPort → A) → ℕ → List PlanPort → List A
of_ports f port [] = []
of_ports f port (at ∷ ports) = f port at ∷ of_ports f (port + 1) ports

-- what all ports offer and take in a cycle, after what happened before it
abbrev pub port_offers : Setup → List TaggedEvent → ℕ → Offers
port_offers setup history cycle = record {
  enter = of_ports (source_offer setup (events_of history) cycle) 0 setup.plan.sources;
  take_d = of_ports (λ port at. source_takes setup cycle port) 0 setup.plan.sources;
  take_a = of_ports (sink_takes_at setup (events_of history) cycle) 0 setup.plan.sinks;
  reply = of_ports (sink_offer setup history cycle) 0 setup.plan.sinks;
}

-- ---- the run

-- the network, and what happened so far
pub record RunState : Type 0 where
  pub network : State
  pub history : List TaggedEvent

-- what the ports offer and take in a cycle that starts so
abbrev pub run_offers : Setup → ℕ → RunState → Offers
run_offers setup cycle run = port_offers setup run.history cycle

-- the network and what has happened after a cycle that starts so, by what the ports offer and take in it
abbrev pub with_offers : ℕ → RunState → Offers → RunState
with_offers cycle run offers = record {
  network = state_after_cycle run.network offers;
  history = run.history ++ tagged_events_in cycle run.network offers;
}

-- the same after a cycle of a run
abbrev pub after_cycle : Setup → ℕ → RunState → RunState
after_cycle setup cycle run = with_offers cycle run (run_offers setup cycle run)

-- the network and what has happened at the start of a cycle
abbrev pub run_at : Setup → ℕ → RunState
run_at setup zero = record { network = network_at_start setup.plan; history = [] }
run_at setup (suc cycle) = after_cycle setup cycle (run_at setup cycle)

-- the events of a cycle that starts so
abbrev pub events_from : Setup → ℕ → RunState → List Event
events_from setup cycle run = events_of (tagged_events_in cycle run.network (run_offers setup cycle run))

-- the events of a cycle, in the order of a trace
abbrev pub run_events : Setup → ℕ → List Event
run_events setup cycle = events_from setup cycle (run_at setup cycle)

-- the events of all cycles before one
abbrev pub events_until : Setup → ℕ → List Event
events_until setup cycle = events_of (run_at setup cycle).history

-- the offers of all cycles before one
abbrev pub offers_until : Setup → ℕ → List Offers
offers_until setup zero = []
offers_until setup (suc cycle) =
    offers_until setup cycle ++ run_offers setup cycle (run_at setup cycle) ∷ []
