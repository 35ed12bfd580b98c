use Rattle.soc_top.proofs.Mapping.{file_fault, passes_all, maps_all, faults_all, maps_only}
use Rattle.std.proofs.lemmas.Result.{err_from_is_err_and}
use Rattle.soc_top.proofs.map.map_of.Goals as goal

pub returns-in_err-design-clause-err : goal.returns-in_err-design-clause-err
returns-in_err-design-clause-err g c =
    let p = err_from_is_err_and c.from_residual.result c.from_residual.ensures.1 in
    rw (p.1, p.2) (file_fault _ c.args.bytes.now c.in_err-design.field-0.0 c.in_err-design.ensures.err)

pub returns-clause-passes : goal.returns-clause-passes
returns-clause-passes g c = passes_all _ c.args.bytes.now c.in_ok-design.design c.in_ok-design.ensures.ok c.in_ok-design.ensures.passes c.map_of_design.result c.map_of_design.ensures.passes

pub returns-clause-map : goal.returns-clause-map
returns-clause-map g c = maps_all _ c.args.bytes.now c.in_ok-design.design c.in_ok-design.ensures.ok c.in_ok-design.ensures.passes c.map_of_design.result c.map_of_design.ensures.map

pub returns-clause-err : goal.returns-clause-err
returns-clause-err g c = faults_all _ c.args.bytes.now c.in_ok-design.design c.in_ok-design.ensures.ok c.in_ok-design.ensures.passes c.map_of_design.result c.map_of_design.ensures.err

pub returns-clause-mapped : goal.returns-clause-mapped
returns-clause-mapped g c =
    maps_only _ c.args.bytes.now c.in_ok-design.design c.in_ok-design.ensures.ok c.in_ok-design.ensures.passes c.map_of_design.result c.map_of_design.ensures.map c.map_of_design.ensures.only c.map_of_design.ensures.apart c.map_of_design.ensures.planned
