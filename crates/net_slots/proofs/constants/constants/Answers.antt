use Rattle.std.proofs.Common.{◌+◌, ◌∙◌, ap, length}
use Rattle.std.proofs.lemmas.List.{length_push}
use Rattle.net_build.proofs.Steps.{adds_adds}
use Rattle.net_table.proofs.Indexed.{entries_more}
use Rattle.net_slots.proofs.Always.{all_constants, one_constant}
use Rattle.net_slots.proofs.constants.constants.Goals as goal

pub constant-requires-clause-value : goal.constant-requires-clause-value
constant-requires-clause-value c = c.requires.small c.loop-place.place _ c.loop-place-test.true

pub loop-place-preserved : goal.loop-place-preserved
loop-place-preserved c =
    let i = c.loop-place.invariant in
    let g = c.in_ok-wire.ensures.adds in
    let p = c.in_ok-push.ensures.ok in
    let w = c.in_ok-wire.wire in
    record {
      adds = adds_adds _ _ _ i.adds g;
      long = ap length p ∙ length_push c.loop-place.out w ∙ ap (λ n. n + 1) i.long;
      entries = entries_more _ _ c.args.width c.loop-place.out _ w g.later i.entries c.in_ok-wire.ensures.wire.0 c.in_ok-wire.ensures.wire.1 p;
      values = one_constant _ _ c.args.values.now c.loop-place.out _ w c.loop-place.place _ c.loop-place-test.true g i.values c.in_ok-wire.ensures.value p;
    }

pub returns-clause-values : goal.returns-clause-values
returns-clause-values c = all_constants _ c.args.values.now c.loop-place.out c.loop-place.place c.loop-place-test.false c.loop-place.invariant.values
