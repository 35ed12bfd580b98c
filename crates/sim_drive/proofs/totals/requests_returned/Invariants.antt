use Rattle.std.proofs.Common.{◌≤◌, List, length}
use Rattle.tl_edge.specs.declared.beat.Event.{Event}
use Rattle.sim_ports.specs.Sinks.{Sinking}
use Rattle.sim_ports.specs.Sources.{finished_at}
use Rattle.sim_events.specs.Setups.{Setup, at_source, script_at}
use Rattle.sim_run.specs.Standing.{AreTold}
use Rattle.sim_drive.specs.Totals.{requests_returned}
use Rattle.sim_drive.proofs.Summing.{SumsTo}
use Rattle.sim_drive.proofs.totals.requests_returned.Given as goal

abbrev pub invariant-loop-driver : goal.invariant-loop-driver
invariant-loop-driver l = (setup : Setup) (history : List Event) (sinks : List Sinking) → length setup.requests ≤ 10000 → AreTold setup history l.drivers sinks
    → SumsTo (λ port at. finished_at (script_at setup port at) (at_source port history)) setup.plan.sources l.returned l.driver-index (requests_returned setup history)
