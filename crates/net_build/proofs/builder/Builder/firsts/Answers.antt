use Rattle.std.proofs.Common.{◌+◌, length, ap, ◌∙◌}
use Rattle.std.proofs.lemmas.List.{length_push}
use Rattle.net_build.proofs.Steps.{adds_adds, bit_adds}
use Rattle.net_build.proofs.Folded.{bit_at, bits_more}
use Rattle.net_build.proofs.Chains.{firsts_all, firsts_more, seen_all, seen_more}
use Rattle.net_build.proofs.builder.Builder.firsts.Goals as goal

pub alone-requires : goal.alone-requires
alone-requires c = (c.loop-wire.invariant.bit, bit_at _ _ c.args.wires.now c.loop-wire.wire-index _ c.requires.wires c.loop-wire.invariant.adds c.loop-wire-test.true)

pub either-requires : goal.either-requires
either-requires c = (
  bit_adds _ _ _ c.in_ok-mine.ensures.adds c.loop-wire.invariant.bit,
  bit_adds _ _ _ c.in_ok-mine.ensures.adds (bit_at _ _ c.args.wires.now c.loop-wire.wire-index _ c.requires.wires c.loop-wire.invariant.adds c.loop-wire-test.true),
)

pub loop-wire-preserved : goal.loop-wire-preserved
loop-wire-preserved c =
    let i = c.loop-wire.invariant in
    let l1 = c.in_ok-mine.ensures.adds in
    let l2 = c.in_ok-seen.ensures.adds in
    let l = adds_adds _ _ _ l1 l2 in
    let p = c.in_ok-push.ensures.ok in
    record {
      adds = adds_adds _ _ _ i.adds l;
      bit = c.in_ok-seen.ensures.bit;
      long = ap length p ∙ length_push c.loop-wire.firsts c.in_ok-mine.mine ∙ ap (λ n. n + 1) i.long;
      bits = bits_more _ _ c.in_ok-mine.mine c.loop-wire.firsts _ i.bits l (bit_adds _ _ _ l2 c.in_ok-mine.ensures.bit) p;
      some = seen_more _ _ _ c.args.before c.loop-wire.seen c.in_ok-seen.seen c.args.wires.now c.loop-wire.wire-index _ c.loop-wire-test.true l1 l2 i.some c.in_ok-seen.ensures.tells;
      rest = firsts_more _ _ _ c.args.before c.loop-wire.seen c.in_ok-mine.mine c.in_ok-seen.seen c.args.wires.now c.loop-wire.firsts _ c.loop-wire.wire-index _ c.loop-wire-test.true l1 l2 i.rest c.in_ok-mine.ensures.tells c.in_ok-seen.ensures.tells p;
    }

pub returns-clause-tells : goal.returns-clause-tells
returns-clause-tells c = seen_all _ c.args.before c.loop-wire.seen c.args.wires.now c.loop-wire.wire-index c.loop-wire-test.false c.loop-wire.invariant.some

pub returns-clause-shows : goal.returns-clause-shows
returns-clause-shows c = firsts_all _ c.args.before c.loop-wire.seen c.args.wires.now c.loop-wire.firsts c.loop-wire.wire-index c.loop-wire-test.false c.loop-wire.invariant.rest
