use Rattle.std.proofs.Common.{◌∙◌, ap, refl, Err}
use Rattle.soc_top.proofs.Arms.{loaded}
use Rattle.soc_top.proofs.SimRuns.{on_design, on_memory, on_read_failed}
use Rattle.soc_top.proofs.sim.answer_sim.Goals as goal

pub returns-in-Ok-clause-answered : goal.returns-in-Ok-clause-answered
returns-in-Ok-clause-answered g c =
    on_design _ _ _ _ _ _ _ _ c.load.ensures.content c.load.ensures.loads c.load.ensures.saves c.as_slice.result.now
    (loaded _ _ _ _ _ c.new-bytes.ensures.items c.as_slice.ensures.value c.in-Ok.ensures.ok.1)
    c.run_on_design.ensures.runs

pub returns-in-Err-Failed-clause-answered : goal.returns-in-Err-Failed-clause-answered
returns-in-Err-Failed-clause-answered g c =
    on_read_failed _ _ _ _ _ _ c.load.ensures.content (c.load.ensures.cause (c.in-Err-Failed.is ∙ ap Err c.in-Err-Failed.field-0-is))
    c.finish.ensures

pub returns-clause-answered : goal.returns-clause-answered
returns-clause-answered g c = on_memory _ _ _ _ _ c.load.ensures.content refl
