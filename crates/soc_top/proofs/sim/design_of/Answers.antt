use Rattle.std.proofs.lemmas.Result.{err_from_is_err_and}
use Rattle.soc_top.proofs.Making.{design_fails, file_fails}
use Rattle.soc_top.proofs.SimParts.{is_design}
use Rattle.soc_top.proofs.sim.design_of.Goals as goal

pub returns-in_err-design-clause-err : goal.returns-in_err-design-clause-err
returns-in_err-design-clause-err g c =
    let p = err_from_is_err_and c.from_residual.result c.from_residual.ensures.1 in
    rw (p.1, p.2) (file_fails _ c.args.bytes.now c.in_err-design.field-0.0 c.in_err-design.ensures.err)

pub returns-in_err-built-clause-err : goal.returns-in_err-built-clause-err
returns-in_err-built-clause-err g c =
    let p = err_from_is_err_and c.from_residual-in_err-built.result c.from_residual-in_err-built.ensures.1 in
    rw (p.1, p.2) (design_fails _ c.args.bytes.now c.in_ok-design.design c.in_ok-design.ensures.ok c.in_ok-design.ensures.passes c.in_err-built.field-0.0 c.in_err-built.ensures.err)

pub returns-clause-ok : goal.returns-clause-ok
returns-clause-ok g c =
    is_design _ c.args.bytes.now c.in_ok-design.design c.in_ok-design.ensures.ok c.in_ok-design.ensures.passes _ _
    c.in_ok-built.ensures.passes c.in_ok-built.ensures.accepted c.in_ok-built.ensures.made
