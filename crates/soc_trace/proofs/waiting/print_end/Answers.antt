use Rattle.std.proofs.Common.{take}
use Rattle.soc_report.specs.TraceLines.{end_line}
use Rattle.soc_trace.proofs.Prints.{cut_line, on_err_map}
use Rattle.soc_trace.proofs.waiting.print_end.Goals as goal

pub returns-clause-refused : goal.returns-clause-refused
returns-clause-refused g c =
    on_err_map c.put_all.result _ _
    (cut_line _ (end_line c.args.totals.now) (take c.args.used c.args.waiting.now) (take c.in_ok-end.end c.print_line.new.waiting) (g.O.Out.seen c.args.out.now)
    (g.O.Out.seen c.print_line.new.out) (g.O.Out.seen c.put_all.new.out) c.end_line-count.ensures.text c.in_ok-end.ensures.printed.ok)
    c.put_all.ensures.refused
