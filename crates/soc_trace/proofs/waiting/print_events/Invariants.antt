use Rattle.std.proofs.Common.{◌≡◌, ◌≤◌, length, take}
use Rattle.soc_report.specs.TraceLines.{trace_lines}
use Rattle.soc_trace.specs.Printing.{Prints}
use Rattle.soc_trace.proofs.waiting.print_events.Given as goal

abbrev pub invariant-loop-event : goal.invariant-loop-event
invariant-loop-event g l = record {
  within : l.end ≤ length l.waiting;
  room : length l.waiting ≡ length l.fn.waiting;
  printed : Prints (trace_lines (take l.event-index l.events)) (take l.fn.used l.fn.waiting) (g.O.Out.seen l.fn.out) (take l.end l.waiting) (g.O.Out.seen l.out);
  later : (g.O.Out.seen l.fn.out).faults ≤ (g.O.Out.seen l.out).faults;
}
