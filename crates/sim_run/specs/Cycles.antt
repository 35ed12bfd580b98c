-- A run after some cycles, and what has to hold of the next one.
use Rattle.std.specs.Prelude.{◌≡◌, ℕ, List}
use Rattle.tl_edge.specs.SoundPlans.{IsSound}
use Rattle.net_cells.specs.declared.netlist.Netlist.{Netlist}
use Rattle.net_cells.specs.Rules.{IsWellFormed}
use Rattle.net_ports.specs.Implementing.{Implements, shown_values}
use Rattle.sim_engine.specs.Running.{Running}
use Rattle.sim_ports.specs.declared.stimulus.Stall.{Stall}
use Rattle.sim_ports.specs.Sinks.{Sinking}
use Rattle.sim_ports.specs.Sources.{Sending}
use Rattle.sim_events.specs.Laws.{sinks_in, sources_in}
use Rattle.sim_events.specs.Setups.{Setup, events_until, run_at, run_offers}
use Rattle.sim_run.specs.Following.{MayTell}
use Rattle.sim_run.specs.Standing.{AreTold, HasRun, IsOrderly}

-- after so many cycles of a run of a netlist: its engine has run with what the ports offered, and its drivers have been
-- told what happened
pub record StandsAfter (setup : Setup) (netlist : Netlist) (cycle : ℕ) (engine : Running) (stalls : List Stall)
    (sources : List Sending) (sinks : List Sinking) : Type 0 where
  pub sound : IsSound setup.plan
  pub well : IsWellFormed netlist
  pub implements : Implements setup.plan netlist
  pub engine_is : HasRun setup netlist cycle engine
  pub stalls_are : stalls ≡ setup.stalls
  pub told : AreTold setup (events_until setup cycle) sources sinks

-- what has to hold of a cycle of a run: its offers are orderly, and its events may be told
pub record IsGood (setup : Setup) (netlist : Netlist) (cycle : ℕ) : Type 0 where
  pub orderly : IsOrderly setup netlist cycle
  pub may : MayTell setup (events_until setup cycle) cycle (sources_in (run_offers setup cycle (run_at setup cycle)))
      (sinks_in (run_offers setup cycle (run_at setup cycle))) (shown_values (run_at setup cycle).network)
