use Rattle.std.proofs.Common.{◌+◌, length, ap, ◌∙◌, arith}
use Rattle.std.proofs.lemmas.List.{length_push}
use Rattle.net_build.proofs.Steps.{adds_adds, bit_adds}
use Rattle.net_build.proofs.Folded.{bit_at, bits_more}
use Rattle.net_choice.proofs.Switched.{switch_all, switch_more}
use Rattle.net_choice.proofs.rows.switch.Goals as goal

pub switch_one-requires : goal.switch_one-requires
switch_one-requires c = (
  bit_adds _ _ c.args.pick c.loop-place.invariant.adds c.requires.pick,
  bit_at _ _ c.args.xs.now c.loop-place.place _ c.requires.xs c.loop-place.invariant.adds c.loop-place-test.true,
  bit_at _ _ c.args.ys.now c.loop-place.place _ c.requires.ys c.loop-place.invariant.adds (omega (arith, c.requires.long, c.loop-place-test.true)),
)

pub loop-place-preserved : goal.loop-place-preserved
loop-place-preserved c =
    let i = c.loop-place.invariant in
    let g = c.in_ok-wire.ensures.adds in
    let p = c.in_ok-push.ensures.ok in
    record {
      adds = adds_adds _ _ _ i.adds g;
      long = ap length p ∙ length_push c.loop-place.out c.in_ok-wire.wire ∙ ap (λ n. n + 1) i.long;
      bits = bits_more _ _ c.in_ok-wire.wire c.loop-place.out _ i.bits g c.in_ok-wire.ensures.bit p;
      rest = switch_more _ _ c.args.pick c.in_ok-wire.wire c.args.xs.now c.args.ys.now c.loop-place.out _ c.loop-place.place _ _ c.loop-place-test.true c.requires.long g i.rest c.in_ok-wire.ensures.tells p;
    }

pub returns-clause-tells : goal.returns-clause-tells
returns-clause-tells c = switch_all _ c.args.pick c.args.xs.now c.args.ys.now c.loop-place.out c.loop-place.place c.loop-place-test.false c.requires.long c.loop-place.invariant.rest
