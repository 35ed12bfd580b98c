use Rattle.std.proofs.Common.{◌∙◌, ap, sym, arith}
use Rattle.std.specs.Option.{option_map}
use Rattle.toml.specs.View.{view}
use Rattle.dip_lists.specs.First.{failure_of}
use Rattle.soc_stimulus.specs.Settings.{device_after}
use Rattle.soc_stimulus.proofs.Each.{device_more, unnamed_more, unnamed_stop}
use Rattle.soc_stimulus.proofs.devices.placed_devices.Goals as goal

pub loop-place-preserved : goal.loop-place-preserved
loop-place-preserved c =
    let names = c.args.names.now in
    let sinks = c.args.sinks.now in
    let tables = c.args.tables.now in
    let value = c.index-tables-place.result in
    let found =
    ap (λ earlier. device_after names sinks earlier (view value)) (sym c.as_slice.ensures) ∙ sym c.device_after.ensures ∙ c.in-Some.is in
    record {
      placed =
          rw c.in_ok-push.ensures.ok
          (device_more names sinks c.loop-place.placed c.loop-place.place tables value c.in-Some.device c.index-tables-place.is c.loop-place-test.true found
          ∙ c.loop-place.invariant.placed);
      passes =
          rw c.in_ok-push.ensures.ok
          (unnamed_more names sinks c.loop-place.placed c.loop-place.place _ _ tables value c.in-Some.device c.index-tables-place.is c.loop-place-test.true
          (omega arith) found
          ∙ c.loop-place.invariant.passes);
    }

pub returns-in_default-clause-err : goal.returns-in_default-clause-err
returns-in_default-clause-err c =
    let names = c.args.names.now in
    let sinks = c.args.sinks.now in
    let value = c.index-tables-place.result in
    let none =
    ap (λ earlier. device_after names sinks earlier (view value)) (sym c.as_slice.ensures) ∙ sym c.device_after.ensures ∙ c.in_default.is in
    ap (option_map (failure_of 4))
    (sym c.loop-place.invariant.passes
    ∙ unnamed_stop names sinks c.loop-place.placed c.loop-place.place _ c.args.tables.now value c.index-tables-place.is c.loop-place-test.true none)
