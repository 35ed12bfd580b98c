use Rattle.std.proofs.Common.{◌+◌, length, ap, ◌∙◌}
use Rattle.std.proofs.lemmas.List.{length_push}
use Rattle.net_build.proofs.Steps.{adds_adds, bit_adds}
use Rattle.net_build.proofs.Folded.{bit_at, bits_more}
use Rattle.net_choice.proofs.Switched.{behind_all, behind_more}
use Rattle.net_choice.proofs.rows.behind.Goals as goal

pub either-requires : goal.either-requires
either-requires c = (c.loop-wire.invariant.bit, bit_at _ _ c.args.wires.now c.loop-wire.wire-index _ c.requires c.loop-wire.invariant.adds c.loop-wire-test.true)

pub loop-wire-preserved : goal.loop-wire-preserved
loop-wire-preserved c =
    let i = c.loop-wire.invariant in
    let g = c.in_ok-seen-2.ensures.adds in
    let p = c.in_ok-push.ensures.ok in
    record {
      adds = adds_adds _ _ _ i.adds g;
      bit = c.in_ok-seen-2.ensures.bit;
      long = ap length p ∙ length_push c.loop-wire.out c.loop-wire.seen ∙ ap (λ n. n + 1) i.long;
      bits = bits_more _ _ c.loop-wire.seen c.loop-wire.out _ i.bits g (bit_adds _ _ _ g i.bit) p;
      rest = behind_more _ _ c.loop-wire.seen c.in_ok-seen-2.seen c.args.wires.now c.loop-wire.out _ c.loop-wire.wire-index _ c.loop-wire-test.true g i.rest c.in_ok-seen-2.ensures.tells p;
    }

pub returns-clause-tells : goal.returns-clause-tells
returns-clause-tells c = behind_all _ c.loop-wire.seen c.args.wires.now c.loop-wire.out c.loop-wire.wire-index c.loop-wire-test.false c.loop-wire.invariant.rest
