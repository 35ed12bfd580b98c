use Rattle.std.proofs.Common.{◌+◌, ◌∙◌, ap, length}
use Rattle.std.proofs.lemmas.List.{length_push}
use Rattle.net_build.proofs.Folded.{bit_at, bits_more}
use Rattle.net_build.proofs.Steps.{adds_adds}
use Rattle.net_slots.proofs.FirstFree.{all_inverse, one_inverse}
use Rattle.net_slots.proofs.lowest.inverses.Goals as goal

pub inverse-requires : goal.inverse-requires
inverse-requires c = bit_at _ _ c.args.wires.now c.loop-place.place _ c.requires c.loop-place.invariant.adds c.loop-place-test.true

pub loop-place-preserved : goal.loop-place-preserved
loop-place-preserved c =
    let i = c.loop-place.invariant in
    let g = c.in_ok-wire.ensures.adds in
    let p = c.in_ok-push.ensures.ok in
    let w = c.in_ok-wire.wire in
    record {
      adds = adds_adds _ _ _ i.adds g;
      long = ap length p ∙ length_push c.loop-place.out w ∙ ap (λ n. n + 1) i.long;
      bits = bits_more _ _ w c.loop-place.out _ i.bits g c.in_ok-wire.ensures.bit p;
      tells = one_inverse _ _ c.args.wires.now c.loop-place.out _ w c.loop-place.place _ c.loop-place-test.true g i.tells c.in_ok-wire.ensures.tells p;
    }

pub returns-clause-tells : goal.returns-clause-tells
returns-clause-tells c = all_inverse _ c.args.wires.now c.loop-place.out c.loop-place.place c.loop-place-test.false c.loop-place.invariant.tells
