-- The trace of a run, and what was printed of it.
use Rattle.std.specs.Prelude.{ℕ, ◌≡◌, ◌<◌, List, ◌++◌}
use Rattle.dip_io.specs.Outside.{OutSeen, Writes}
use Rattle.tl_edge.specs.declared.beat.Event.{Event}
use Rattle.net_cells.specs.declared.netlist.Netlist.{Netlist}
use Rattle.soc_report.specs.TraceLines.{end_line, end_text, trace_lines}
use Rattle.soc_report.specs.declared.trace.Totals.{Totals}
use Rattle.sim_events.specs.Setups.{Setup, events_until}
use Rattle.sim_run.specs.Cycles.{IsGood}
use Rattle.sim_drive.specs.Totals.{requests_begun, requests_returned}

-- each cycle of a run before one is good
abbrev pub AllGood : Setup → Netlist → ℕ → Type 0
AllGood setup netlist cycles = (cycle : ℕ) → cycle < cycles → IsGood setup netlist cycle

-- the last line of a run's trace
abbrev pub last_line : Setup → ℕ → List ℕ
last_line setup cycles =
    end_text cycles (requests_begun setup (events_until setup cycles))
    (requests_returned setup (events_until setup cycles))

-- the trace of a run of so many cycles: a line for each event, and the last line
abbrev pub trace_text : Setup → ℕ → List ℕ
trace_text setup cycles = trace_lines (events_until setup cycles) ++ last_line setup cycles

-- a trace of so many cycles was written: lines of events, and a last line with this number
pub record WritesTrace (cycles : ℕ) (before after : OutSeen) : Type 0 where
  pub events : List Event
  pub totals : Totals
  pub all : totals.cycles ≡ cycles
  pub wrote : Writes (trace_lines events ++ end_line totals) before after
