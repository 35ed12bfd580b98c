-- What a run is made of, by a plan, a stimulus, and what the devices state.
use Rattle.std.specs.Prelude.{◌≡◌, List, [], ◌∷◌}
use Rattle.tl_edge.specs.declared.plan.Plan.{Plan}
use Rattle.sim_ports.specs.declared.role.Role.TheVariants.{Ram}
use Rattle.sim_ports.specs.Devices.{Says}
use Rattle.sim_ports.specs.Memories.{memory_says}
use Rattle.sim_events.specs.Setups.{Setup}
use Rattle.sim_events.specs.Worked.{one_edge, put_then_get}
use Rattle.soc_stimulus.specs.declared.read.Stimulus.{Stimulus}
use Rattle.sim_drive.specs.Preparing.{all_addresses}

-- a run of a stimulus over a plan, with devices that state this, each of a sink port prepared where it may be asked
abbrev pub setup_of : Plan → Stimulus → List Says → Setup
setup_of plan stimulus devices = record {
  plan = plan;
  requests = stimulus.requests;
  stalls = stimulus.stalls;
  settings = stimulus.devices;
  devices = devices;
  addresses = all_addresses plan stimulus.requests;
}

-- the put and the get of the worked run, as a stimulus
abbrev pub two_requests : Stimulus
two_requests = record {
  cycles = 8;
  requests = (put_then_get []).requests;
  stalls = [];
  devices = record { role = Ram; delay = 0 } ∷ [];
}

-- The put has eight bytes, and the get four of these: the memory is prepared at each of the eight once.
pub record SetupExample : Type 0 where
  pub whole : setup_of one_edge two_requests (memory_says ∷ []) ≡ put_then_get []
