use Rattle.std.proofs.Common.{◌∙◌, ap, not, sym, arith}
use Rattle.soc_design.specs.Shape.{part_has_shape}
use Rattle.toml_shape.proofs.Failing.{passes}
use Rattle.soc_design.proofs.shape.first_misshapen.Goals as goal

pub loop-place-preserved : goal.loop-place-preserved
loop-place-preserved c =
    passes (λ place d. not (part_has_shape c.args.part d)) c.loop-place.place _ _ c.args.tables.now c.index-tables-place.result
    c.index-tables-place.is c.loop-place-test.true (omega arith) (ap not (sym c.if-not-part_has_shape.ensures))
    ∙ c.loop-place.invariant
