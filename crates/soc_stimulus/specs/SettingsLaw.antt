-- Which settings a stimulus has.
use Rattle.std.specs.Prelude.{ℕ, ◌≡◌, ◌<◌, List, Some, length, slice_get}
use Rattle.toml.specs.Data.{Data, Items, Members, get_item}
use Rattle.tl_edge.specs.declared.plan.Plan.{Plan}
use Rattle.tl_edge.specs.declared.plan.PlanPort.{PlanPort}
use Rattle.sim_ports.specs.declared.stimulus.Setting.{Setting}
use Rattle.soc_stimulus.specs.declared.read.Stimulus.{Stimulus}
use Rattle.soc_stimulus.specs.Entries.{devices_in}
use Rattle.soc_stimulus.specs.Reading.{stated_stimulus, stimulus_tree}
use Rattle.soc_stimulus.specs.Settings.{default_setting, device_of}

-- one of some tables of devices, wherever it stands, names a sink port and states this setting for it
pub record SetsPort (names : List (List ℕ)) (sinks : List PlanPort) (tables : Items) (port : ℕ) (setting : Setting)
    : Type 0 where
  pub place : ℕ
  pub d : Data
  pub is : get_item place tables ≡ Some d
  pub states : device_of names sinks d ≡ Some (record { port = port; setting = setting })

-- A stimulus that a file states has a setting for each sink port of the plan: the one that a device's table states for
-- it; where none does, that of a memory that does all requests, without a delay.
pub record SettingsLaw : Type 0 where
  pub count : (names : List (List ℕ)) (plan : Plan) (bytes : List ℕ) (stimulus : Stimulus)
      → stated_stimulus names plan bytes ≡ Some stimulus → length stimulus.devices ≡ length plan.sinks
  pub named : (names : List (List ℕ)) (plan : Plan) (bytes : List ℕ) (ms : Members) (stimulus : Stimulus) (port : ℕ)
      (setting : Setting) → stimulus_tree bytes ≡ Some ms → stated_stimulus names plan bytes ≡ Some stimulus
      → SetsPort names plan.sinks (devices_in ms) port setting → slice_get stimulus.devices port ≡ Some setting
  pub others : (names : List (List ℕ)) (plan : Plan) (bytes : List ℕ) (ms : Members) (stimulus : Stimulus) (port : ℕ)
      → stimulus_tree bytes ≡ Some ms → stated_stimulus names plan bytes ≡ Some stimulus → port < length plan.sinks
      → ((setting : Setting) → SetsPort names plan.sinks (devices_in ms) port setting → ⊥)
      → slice_get stimulus.devices port ≡ Some default_setting
