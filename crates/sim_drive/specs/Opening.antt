-- Drivers at ports at which nothing has happened.
use Rattle.std.specs.Prelude.{◌≡◌, ℕ, ◌≤◌, ◌<◌, All, List, [], length, map, get_or, Some, slice_get}
use Rattle.tl_edge.specs.declared.plan.Plan.{Plan}
use Rattle.tl_edge.specs.declared.plan.PlanPort.{PlanPort}
use Rattle.tl_edge.specs.Plans.{bus_width, edge_at}
use Rattle.sim_ports.specs.declared.prepared.Prepared.{Prepared}
use Rattle.sim_ports.specs.declared.stimulus.Setting.{Setting}
use Rattle.sim_ports.specs.declared.stimulus.StimRequest.{StimRequest}
use Rattle.sim_ports.specs.Devices.{HasJust, Says}
use Rattle.sim_ports.specs.Sinks.{Sinking}
use Rattle.sim_ports.specs.Sources.{MayBeSent, Script, Sending, Sends}
use Rattle.sim_events.specs.Setups.{Setup, script_at, sink_at_start, stated_at}
use Rattle.sim_drive.specs.declared.scripts.Asked.{Asked}

-- ---- source ports

-- a run as its source ports see it: a plan and requests
abbrev pub asking : Plan → List StimRequest → Setup
asking plan requests =
    record { plan = plan; requests = requests; stalls = []; settings = []; devices = []; addresses = [] }

-- the requests and their first cycles of each of some ports, in the order of a stimulus
pub record AreAskedBy (requests : List StimRequest) (count : ℕ) (lists : List Asked) : Type 0 where
  pub long : length lists ≡ count
  pub each : (port : ℕ) (asked : Asked) → slice_get lists port ≡ Some asked
      → (asked.requests ≡ map (λ (one : StimRequest). one.request) (stated_at port requests))
      × (asked.starts ≡ map (λ (one : StimRequest). one.at) (stated_at port requests))

-- what a source port of a plan sends where it is asked this
abbrev pub asked_script : Plan → PlanPort → Asked → Script
asked_script plan at asked = record {
  width = bus_width (edge_at plan at.edge);
  ids = (edge_at plan at.edge).ids;
  requests = asked.requests;
  starts = asked.starts;
}

-- a source port of a plan may be asked this: few requests, each with its first cycle, and such as may be sent on its
-- edge
pub record MaySendAsked (plan : Plan) (at : PlanPort) (asked : Asked) : Type 0 where
  pub edge : at.edge < length plan.edges
  pub few : length asked.requests ≤ 10000
  pub starts : length asked.starts ≡ length asked.requests
  pub may : All (MayBeSent (edge_at plan at.edge).ids) asked.requests

-- the drivers of a plan's source ports, with their requests, of which nothing is sent
pub record HaveAsked (setup : Setup) (drivers : List Sending) : Type 0 where
  pub long : length drivers ≡ length setup.plan.sources
  pub each : (port : ℕ) (at : PlanPort) (driver : Sending) → slice_get setup.plan.sources port ≡ Some at
      → slice_get drivers port ≡ Some driver → Sends (script_at setup port at) [] driver

-- ---- sink ports

-- the addresses of each of some sink ports
abbrev pub addresses_of : List Prepared → List (List ℕ)
addresses_of prepared = map (λ (at : Prepared). at.addresses) prepared

-- a run as its sink ports see it: a plan, settings, what devices state, and where they are prepared
abbrev pub answering : Plan → List Setting → List Says → List (List ℕ) → Setup
answering plan settings devices addresses = record {
  plan = plan;
  requests = [];
  stalls = [];
  settings = settings;
  devices = devices;
  addresses = addresses;
}

-- a sink port with its device before anything has happened: the device is prepared, and has just its addresses
pub record IsFresh (setup : Setup) (port : ℕ) (at : PlanPort) (sink : Sinking) : Type 0 where
  pub is : sink ≡ sink_at_start setup port at
  pub has : HasJust (get_or setup.addresses port []) sink.device.held

-- those of a plan
pub record AreFresh (setup : Setup) (sinks : List Sinking) : Type 0 where
  pub long : length sinks ≡ length setup.plan.sinks
  pub each : (port : ℕ) (at : PlanPort) (sink : Sinking) → slice_get setup.plan.sinks port ≡ Some at
      → slice_get sinks port ≡ Some sink → IsFresh setup port at sink
