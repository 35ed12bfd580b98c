use Rattle.std.proofs.Common.{◌∙◌, ap, refl, Err}
use Rattle.soc_top.proofs.Arms.{loaded}
use Rattle.soc_top.proofs.VerilogRuns.{on_bytes, on_memory, on_read_failed}
use Rattle.soc_top.proofs.verilog.answer_verilog.Goals as goal

pub returns-in-Ok-clause-answered : goal.returns-in-Ok-clause-answered
returns-in-Ok-clause-answered g c =
    on_bytes _ _ _ _ _ _ _ c.load.ensures.content c.load.ensures.saves c.as_slice.result.now
    (loaded _ _ _ _ _ c.new-bytes.ensures.items c.as_slice.ensures.value c.in-Ok.ensures.ok.1)
    c.run_on.ensures.runs

pub returns-in-Err-Failed-clause-answered : goal.returns-in-Err-Failed-clause-answered
returns-in-Err-Failed-clause-answered g c =
    on_read_failed _ _ _ _ _ c.load.ensures.content (c.load.ensures.cause (c.in-Err-Failed.is ∙ ap Err c.in-Err-Failed.field-0-is))
    c.finish.ensures

pub returns-clause-answered : goal.returns-clause-answered
returns-clause-answered g c = on_memory _ _ _ _ c.load.ensures.content refl
