use Rattle.std.proofs.Common.{◌≡◌, ◌∙◌, ap, sym, None, ◌++◌}
use Rattle.std.specs.Option.{option_map}
use Rattle.std.proofs.lemmas.Result.{err_from_is_err_and}
use Rattle.toml.specs.View.{table_view}
use Rattle.dip_lists.specs.First.{failure_of, first_failing}
use Rattle.dip_lists.proofs.Firsts.{fails_first}
use Rattle.soc_design.specs.Reading.{shape_checks, limit_checks, name_checks}
use Rattle.dip_graph.proofs.Finding.{in_first, in_second}
use Rattle.soc_design.proofs.read.design_in.Goals as goal

pub returns-in-Some-clause-err : goal.returns-in-Some-clause-err
returns-in-Some-clause-err c =
    let ms = table_view c.args.table.now in
    let failure = failure_of 2 c.in-Some.subject in
    fails_first (shape_checks ms ++ limit_checks ms) (name_checks ms) failure
    (fails_first (shape_checks ms) (limit_checks ms) failure (sym c.misshapen_entry.ensures ∙ ap (option_map (failure_of 2)) c.in-Some.is))

pub returns-in_err-file-clause-err : goal.returns-in_err-file-clause-err
returns-in_err-file-clause-err c =
    let ms = table_view c.args.table.now in
    let p = err_from_is_err_and c.from_residual.result c.from_residual.ensures.1 in
    let shape : first_failing (shape_checks ms) ≡ None = sym c.misshapen_entry.ensures ∙ ap (option_map (failure_of 2)) c.in_default.is in
    rw (p.1, p.2)
    (in_first (shape_checks ms ++ limit_checks ms) (name_checks ms) c.in_err-file.field-0.0
    (in_second (shape_checks ms) (limit_checks ms) c.in_err-file.field-0.0 shape c.in_err-file.ensures.err))
