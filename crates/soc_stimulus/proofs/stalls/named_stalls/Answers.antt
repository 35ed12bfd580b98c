use Rattle.std.proofs.Common.{◌∙◌, ap, sym, is_none}
use Rattle.std.specs.Option.{option_map}
use Rattle.dip_lists.specs.First.{failure_of}
use Rattle.toml_shape.proofs.Failing.{stops}
use Rattle.soc_stimulus.specs.Stalls.{stall_is_unnamed}
use Rattle.soc_stimulus.proofs.stalls.named_stalls.Goals as goal

pub returns-in_default-clause-err : goal.returns-in_default-clause-err
returns-in_default-clause-err c =
    ap (option_map (failure_of 4))
    (sym c.loop-place.invariant.passes
    ∙ stops (stall_is_unnamed c.args.names.now c.args.sources.now c.args.sinks.now) c.loop-place.place _ c.args.tables.now c.index-tables-place.result
    c.index-tables-place.is c.loop-place-test.true (ap is_none (sym c.stall_of.ensures ∙ c.in_default.is)))
