use Rattle.std.proofs.Common.{◌≡◌, ◌∙◌, ◌++◌, ap, sym, None}
use Rattle.std.specs.Option.{option_map}
use Rattle.std.proofs.lemmas.Result.{err_from_is_err_and}
use Rattle.toml.specs.View.{table_view}
use Rattle.dip_lists.specs.First.{failure_of, first_failing}
use Rattle.dip_lists.proofs.Firsts.{fails_first}
use Rattle.dip_graph.proofs.Finding.{in_first, in_second}
use Rattle.soc_stimulus.specs.declared.passes.Pass.TheVariants.{Shape, Limits}
use Rattle.soc_stimulus.specs.Entries.{checks_of_pass}
use Rattle.soc_stimulus.specs.Reading.{port_rules}
use Rattle.soc_stimulus.proofs.read.stimulus_in.Goals as goal

pub returns-in-Some-clause-err : goal.returns-in-Some-clause-err
returns-in-Some-clause-err c =
    let ms = table_view c.args.table.now in
    let failure = failure_of 2 c.in-Some.subject in
    fails_first (checks_of_pass Shape ms ++ checks_of_pass Limits ms) (port_rules c.args.names.now c.args.plan.now c.args.downs.now c.args.ups.now ms) failure
    (fails_first (checks_of_pass Shape ms) (checks_of_pass Limits ms) failure (sym c.failing_entry.ensures ∙ ap (option_map (failure_of 2)) c.in-Some.is))

pub returns-in_err-cycles-clause-err : goal.returns-in_err-cycles-clause-err
returns-in_err-cycles-clause-err c =
    let ms = table_view c.args.table.now in
    let fault = c.in_err-cycles.field-0.0 in
    let p = err_from_is_err_and c.from_residual.result c.from_residual.ensures.1 in
    let shape : first_failing (checks_of_pass Shape ms) ≡ None = sym c.failing_entry.ensures ∙ ap (option_map (failure_of 2)) c.in_default.is in
    rw (p.1, p.2)
    (in_first (checks_of_pass Shape ms ++ checks_of_pass Limits ms) (port_rules c.args.names.now c.args.plan.now c.args.downs.now c.args.ups.now ms) fault
    (in_second (checks_of_pass Shape ms) (checks_of_pass Limits ms) fault shape c.in_err-cycles.ensures.err))
