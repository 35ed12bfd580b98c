use Rattle.std.proofs.Common.{refl}
use Rattle.ver_text.specs.Spelling.{layout}
use Rattle.ver_text.proofs.PrintedTexts.{text_spells, text_read}
use Rattle.soc_top.proofs.Making.{is_failure}
use Rattle.soc_top.proofs.VerilogRuns.{is_verilog, run_built, run_refused}
use Rattle.soc_top.proofs.verilog.run_on.Goals as goal

pub returns-in-Ok-clause-runs : goal.returns-in-Ok-clause-runs
returns-in-Ok-clause-runs g c =
    let n = c.in-Ok.netlist in
    let formed = c.in-Ok.ensures.made.made.built.formed in
    run_built _ _ _ _ _ _ n (layout n) c.in-Ok.ensures.passes
    (is_verilog _ _ n c.in-Ok.ensures.made (text_spells (layout n) n refl formed) (text_read (layout n) n refl formed)) c.save_netlist.ensures.saved

pub returns-in-Err-Check-clause-runs : goal.returns-in-Err-Check-clause-runs
returns-in-Err-Check-clause-runs g c =
    run_refused _ _ _ _ _ _ c.in-Err-Check.number c.in-Err-Check.subject _ _
    (is_failure _ _ _ _ c.in-Err-Check.field-0-is c.in-Err-Check.ensures.err) c.in-Err-Check.number-is c.in-Err-Check.subject-is (λ name. refl) c.finish.ensures
