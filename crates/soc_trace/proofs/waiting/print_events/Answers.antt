use Rattle.std.proofs.Common.{arith, take, ◌∙◌}
use Rattle.std.proofs.lemmas.Result.{err_from_is_err_and}
use Rattle.soc_trace.proofs.Prints.{cut_event, failed, next_event}
use Rattle.soc_trace.proofs.waiting.print_events.Goals as goal

pub returns-in_err-end-clause-printed : goal.returns-in_err-end-clause-printed
returns-in_err-end-clause-printed g c =
    let i = c.loop-event.invariant in
    let e = c.in_err-end.ensures.printed in
    let p = err_from_is_err_and c.from_residual.result c.from_residual.ensures.1 in
    let middle = g.O.Out.seen c.loop-event.out in
    failed _ _ _ _ _ c.from_residual.result p.0 middle.faults p.1
    (cut_event c.args.events.now c.loop-event.event-index _ (take c.args.used c.args.waiting.now) (take c.loop-event.end c.loop-event.waiting)
    (g.O.Out.seen c.args.out.now) middle (g.O.Out.seen c.print_event.new.out) (omega (arith, c.loop-event-test.true)) i.printed e.refused)
    i.later e.later e.cause

pub loop-event-preserved : goal.loop-event-preserved
loop-event-preserved g c =
    let i = c.loop-event.invariant in
    let e = c.in_ok-end.ensures in
    record {
      within = e.printed.within;
      room = e.room ∙ i.room;
      printed = next_event c.args.events.now c.loop-event.event-index _ (take c.args.used c.args.waiting.now) (take c.loop-event.end c.loop-event.waiting)
          (take c.in_ok-end.end c.print_event.new.waiting) (g.O.Out.seen c.args.out.now) (g.O.Out.seen c.loop-event.out) (g.O.Out.seen c.print_event.new.out) (omega (arith, c.loop-event-test.true)) i.printed e.printed.ok;
      later = omega (arith, i.later, e.printed.later);
    }
