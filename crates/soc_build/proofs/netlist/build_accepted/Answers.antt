use Rattle.std.proofs.lemmas.Result.{err_from_is_err_and}
use Rattle.soc_build.proofs.Netlists.{design_fails, hardware_fails, none_fails}
use Rattle.soc_build.proofs.netlist.build_accepted.Goals as goal

pub returns-in_err-accepted-clause-err : goal.returns-in_err-accepted-clause-err
returns-in_err-accepted-clause-err g c =
    let p = err_from_is_err_and c.from_residual.result c.from_residual.ensures.1 in
    rw (p.1, p.2) (design_fails _ c.args.design.now c.in_err-accepted.field-0.0 c.in_err-accepted.ensures.err)

pub returns-in_err-kinds_are_built-clause-err : goal.returns-in_err-kinds_are_built-clause-err
returns-in_err-kinds_are_built-clause-err g c =
    let p = err_from_is_err_and c.from_residual-in_err-kinds_are_built.result c.from_residual-in_err-kinds_are_built.ensures.1 in
    rw (p.1, p.2) (hardware_fails _ c.args.design.now c.in_err-kinds_are_built.field-0.0 c.in_ok-accepted.ensures.passes c.in_err-kinds_are_built.ensures.err)

pub returns-clause-passes : goal.returns-clause-passes
returns-clause-passes g c = none_fails _ c.args.design.now c.in_ok-accepted.ensures.passes c.in_ok-kinds_are_built.ensures.passes
