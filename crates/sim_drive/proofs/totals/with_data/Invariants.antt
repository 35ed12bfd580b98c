use Rattle.std.proofs.Common.{◌≡◌, ◌+◌, ◌%◌, ◌^◌, drop}
use Rattle.sim_drive.specs.Totals.{data_returned}
use Rattle.sim_drive.proofs.totals.with_data.Given as goal

abbrev pub invariant-loop-event : goal.invariant-loop-event
invariant-loop-event l = (l.sum + data_returned (drop l.event-index l.events)) % 2 ^ 64 ≡ (l.fn.sum + data_returned l.events) % 2 ^ 64
