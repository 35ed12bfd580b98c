use Rattle.std.proofs.Common.{◌∙◌, sym, arith}
use Rattle.toml_shape.proofs.Failing.{passes}
use Rattle.soc_stimulus.specs.Entries.{table_fails}
use Rattle.soc_stimulus.proofs.passes.first_to_fail.Goals as goal

pub loop-place-preserved : goal.loop-place-preserved
loop-place-preserved c =
    passes (table_fails c.args.pass c.args.part) c.loop-place.place _ _ c.args.tables.now c.index-tables-place.result
    c.index-tables-place.is c.loop-place-test.true (omega arith) (sym c.table_fails.ensures ∙ c.if-table_fails.false)
    ∙ c.loop-place.invariant
