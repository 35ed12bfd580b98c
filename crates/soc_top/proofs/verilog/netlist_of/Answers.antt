use Rattle.std.proofs.lemmas.Result.{err_from_is_err_and}
use Rattle.soc_top.proofs.Making.{file_fails, file_passes, file_faults, file_gives}
use Rattle.soc_top.proofs.verilog.netlist_of.Goals as goal

pub returns-in_err-design-clause-err : goal.returns-in_err-design-clause-err
returns-in_err-design-clause-err g c =
    let p = err_from_is_err_and c.from_residual.result c.from_residual.ensures.1 in
    rw (p.1, p.2) (file_fails _ c.args.bytes.now c.in_err-design.field-0.0 c.in_err-design.ensures.err)

pub returns-clause-passes : goal.returns-clause-passes
returns-clause-passes g c = file_passes _ c.args.bytes.now c.in_ok-design.design c.in_ok-design.ensures.ok c.in_ok-design.ensures.passes c.build_design.result c.build_design.ensures.passes

pub returns-clause-made : goal.returns-clause-made
returns-clause-made g c = file_gives _ c.args.bytes.now c.in_ok-design.design c.in_ok-design.ensures.ok c.in_ok-design.ensures.passes c.build_design.result c.build_design.ensures.made

pub returns-clause-err : goal.returns-clause-err
returns-clause-err g c = file_faults _ c.args.bytes.now c.in_ok-design.design c.in_ok-design.ensures.ok c.in_ok-design.ensures.passes c.build_design.result c.build_design.ensures.err
