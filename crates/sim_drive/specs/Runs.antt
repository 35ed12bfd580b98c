-- What a run keeps, and how it stands after some cycles.
use Rattle.std.specs.Prelude.{◌≡◌, ℕ, ◌+◌, ◌*◌, ◌%◌, ◌^◌, ◌≤◌, ◌<◌, List, length, vec_capacity}
use Rattle.net_cells.specs.declared.netlist.Netlist.{Netlist}
use Rattle.net_cells.specs.Rules.{IsWellFormed}
use Rattle.sim_ports.specs.Prepared.{ArePrepared}
use Rattle.sim_ports.specs.Sinks.{Sinking}
use Rattle.sim_events.specs.Setups.{Setup, events_until}
use Rattle.sim_run.specs.Buffering.{FitsPorts}
use Rattle.sim_run.specs.Cycles.{StandsAfter}
use Rattle.sim_drive.specs.declared.fault.RunFault.{RunFault}
use Rattle.sim_drive.specs.declared.fault.RunFault.TheVariants.{NoDevice, Memory}
use Rattle.sim_drive.specs.declared.run.Run.{Run}
use Rattle.sim_drive.specs.Totals.{data_returned}

-- A run with these sink ports and devices can run: it has room for a cycle, and each device is prepared. So it is
-- whatever has happened.
pub record IsRunnable {X : Type 0} {P : X → Type 0} (run : Run X P) (sinks : List Sinking) : Type 0 where
  pub few_sources : length run.sources.items ≤ 1024
  pub few_sinks : length run.sinks.items ≤ 1024
  pub as_many : length sinks ≡ length run.sinks.items
  pub fits : FitsPorts run.buffers run.engine.netlist (length run.sources.items) (length run.sinks.items)
  pub room : 2 * length run.sources.items + 2 * length run.sinks.items ≤ vec_capacity run.shown
  pub well : IsWellFormed run.engine.netlist
  pub prepared : ArePrepared run.prepared.items sinks
  pub within : run.ran ≤ run.cycles

-- a run with these sink ports and devices is that of a setup on a netlist, after so many cycles; the setup has no more
-- requests than a stimulus may have
pub record IsRunOf {X : Type 0} {P : X → Type 0} (setup : Setup) (netlist : Netlist) (cycle : ℕ) (run : Run X P)
    (sinks : List Sinking) : Type 0 where
  pub few : length setup.requests ≤ 10000
  pub ran : run.ran ≡ cycle
  pub stands : StandsAfter setup netlist cycle run.engine run.stalls run.sources.items sinks
  pub bytes : run.sum ≡ data_returned (events_until setup cycle) % 2 ^ 64

-- why no run was opened, where so many devices are needed and so many were given: there are too few; or there are
-- enough, and memory was wanting
abbrev pub IsRunFaultOf : ℕ → ℕ → RunFault → Type 0
IsRunFaultOf needed given (NoDevice more fewer) = (more ≡ needed) × (fewer ≡ given) × (given < needed)
IsRunFaultOf needed given Memory = needed ≤ given
