use Rattle.std.proofs.Common.{◌∙◌, ap, refl, Err}
use Rattle.soc_top.specs.Simulating.{no_memory_to_load, read, unread}
use Rattle.soc_top.proofs.Arms.{loaded}
use Rattle.soc_top.proofs.SimParts.{load_runs}
use Rattle.soc_top.proofs.sim.load_stimulus.Goals as goal

pub returns-in-Ok-clause-runs : goal.returns-in-Ok-clause-runs
returns-in-Ok-clause-runs g c = λ rules design_file d.
    load_runs _ _ _ _ _ c.load.ensures.content c.load.ensures.loads c.load.ensures.saves rules _ design_file _ _ c.as_slice.result.now
    (loaded _ _ _ _ _ c.new-bytes.ensures.items c.as_slice.ensures.value c.in-Ok.ensures.ok.1)
    (c.run_on_stimulus.ensures.runs rules design_file d)

pub returns-in-Err-Failed-clause-runs : goal.returns-in-Err-Failed-clause-runs
returns-in-Err-Failed-clause-runs g c = λ rules design_file d.
    unread (c.load.ensures.cause (c.in-Err-Failed.is ∙ ap Err c.in-Err-Failed.field-0-is)) c.load.ensures.content c.finish.ensures

pub returns-clause-runs : goal.returns-clause-runs
returns-clause-runs g c = λ rules design_file d.
    no_memory_to_load (record { status = refl; printed = refl; files = c.load.ensures.content })
