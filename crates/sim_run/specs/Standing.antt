-- How a run stands after some cycles: what its registers hold, and what its drivers have been told.
use Rattle.std.specs.Prelude.{◌≡◌, ℕ, ◌+◌, List, [], ◌∷◌, length, map, Some, slice_get}
use Rattle.tl_edge.specs.declared.beat.Event.{Event}
use Rattle.tl_edge.specs.declared.plan.PlanPort.{PlanPort}
use Rattle.net_cells.specs.declared.netlist.Netlist.{Netlist}
use Rattle.net_cells.specs.Values.{AreInputs, IsRun, first_registers, next_registers}
use Rattle.flow_core.specs.Network.{network_at_start}
use Rattle.net_ports.specs.Implementing.{AreOffered, Implements, input_values, shown_values}
use Rattle.sim_engine.specs.Running.{Running, RunsCycle}
use Rattle.sim_ports.specs.Sinks.{Sinking}
use Rattle.sim_ports.specs.Sources.{Sending, Sends}
use Rattle.sim_events.specs.Setups.{Setup, at_source, offers_until, run_at, run_offers, script_at, sink_after}

-- what registers hold after cycles with these values
abbrev pub registers_after : Netlist → List ℕ → List (ℕ → ℕ) → List ℕ
registers_after netlist registers [] = registers
registers_after netlist registers (v ∷ values) = registers_after netlist (next_registers netlist v) values

-- there is a run of a netlist with these inputs, after which its registers hold this
pub record HasRunTo (netlist : Netlist) (inputs : List (List ℕ)) (registers : List ℕ) : Type 0 where
  pub values : List (ℕ → ℕ)
  pub is : IsRun netlist inputs values
  pub holds : registers ≡ registers_after netlist (first_registers netlist) values

-- an engine with a netlist has run with the offers of all cycles of a run before one
pub record HasRun (setup : Setup) (netlist : Netlist) (cycle : ℕ) (engine : Running) : Type 0 where
  pub netlist_is : engine.netlist ≡ netlist
  pub runs : HasRunTo netlist (map input_values (offers_until setup cycle)) engine.registers

-- what the ports offer in all cycles of a run up to and with one is what their edges carry, each of these cycles starts
-- in a locally valid state, and in this one each value fits its input
pub record IsOrderly (setup : Setup) (netlist : Netlist) (cycle : ℕ) : Type 0 where
  pub offered : AreOffered setup.plan (network_at_start setup.plan) (offers_until setup (cycle + 1))
  pub fits : AreInputs netlist (input_values (run_offers setup cycle (run_at setup cycle)))

-- an engine that has run so far runs on in a cycle with the offers of a run, and where these are orderly it shows what
-- the network of the run shows
pub record EngineLaw : Type 0 where
  pub starts : (setup : Setup) (netlist : Netlist) (engine : Running) → engine.netlist ≡ netlist
      → engine.registers ≡ first_registers netlist → HasRun setup netlist 0 engine
  pub goes_on : (setup : Setup) (netlist : Netlist) (cycle : ℕ) (before after : Running) (shown : List ℕ)
      → HasRun setup netlist cycle before → IsOrderly setup netlist cycle
      → RunsCycle before (input_values (run_offers setup cycle (run_at setup cycle))) shown after
      → HasRun setup netlist (cycle + 1) after
  pub shows : (setup : Setup) (netlist : Netlist) (cycle : ℕ) (before after : Running) (shown : List ℕ)
      → Implements setup.plan netlist → HasRun setup netlist cycle before → IsOrderly setup netlist cycle
      → RunsCycle before (input_values (run_offers setup cycle (run_at setup cycle))) shown after
      → shown ≡ shown_values (run_at setup cycle).network

-- the drivers of all ports have been told what happened
pub record AreTold (setup : Setup) (history : List Event) (sources : List Sending) (sinks : List Sinking)
    : Type 0 where
  pub sources_long : length sources ≡ length setup.plan.sources
  pub sinks_long : length sinks ≡ length setup.plan.sinks
  pub sends : (port : ℕ) (at : PlanPort) (driver : Sending) → slice_get setup.plan.sources port ≡ Some at
      → slice_get sources port ≡ Some driver → Sends (script_at setup port at) (at_source port history) driver
  pub serves : (port : ℕ) (at : PlanPort) (sink : Sinking) → slice_get setup.plan.sinks port ≡ Some at
      → slice_get sinks port ≡ Some sink → sink ≡ sink_after setup history port at
