use Rattle.soc_top.proofs.SimRuns.{trace_failed, trace_passed}
use Rattle.soc_top.proofs.sim.save_and_run.Goals as goal

pub returns-in-Ok-print_run-clause-ran : goal.returns-in-Ok-print_run-clause-ran
returns-in-Ok-print_run-clause-ran g c = λ setup netlist r.
    trace_passed setup netlist c.args.run.cycles c.args.text.now c.args.name.now _ _ c.in-Ok.ensures.ok c.in-Ok-print_run.ensures.trace
    (λ good. c.in-Ok-print_run.ensures.ok setup netlist r good)

pub returns-in-Err-clause-ran : goal.returns-in-Err-clause-ran
returns-in-Err-clause-ran g c = λ setup netlist r.
    trace_failed setup netlist c.args.run.cycles c.args.text.now c.args.name.now _ _ c.in-Ok.ensures.ok c.in-Err.ensures.cause
    (λ good. c.in-Err.ensures.refused setup netlist r good)
