use Rattle.std.proofs.Common.{◌+◌, ◌%◌, ◌^◌, ap}
use Rattle.sim_drive.proofs.Summing.{one_event_more}
use Rattle.sim_drive.proofs.totals.with_data.Goals as goal

pub loop-event-preserved : goal.loop-event-preserved
loop-event-preserved c =
    one_event_more c.loop-event.sum _ c.loop-event.event-index _ c.args.events.now _ c.loop-event-test.true c.loop-event.invariant
    (ap (λ n. (c.loop-event.sum + n) % 2 ^ 64) c.bytes_returned-sum.ensures)
