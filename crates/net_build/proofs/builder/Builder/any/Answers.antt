use Rattle.net_build.proofs.Folded.{any_more, bit_at}
use Rattle.net_build.proofs.Steps.{adds_adds}
use Rattle.net_build.proofs.builder.Builder.any.Goals as goal

pub either-requires : goal.either-requires
either-requires c = (c.loop-wire.invariant.bit, bit_at _ _ c.args.wires.now c.loop-wire.wire-index _ c.requires c.loop-wire.invariant.adds c.loop-wire-test.true)

pub loop-wire-preserved : goal.loop-wire-preserved
loop-wire-preserved c = record {
  adds = adds_adds _ _ _ c.loop-wire.invariant.adds c.in_ok-all-2.ensures.adds;
  bit = c.in_ok-all-2.ensures.bit;
  tells = any_more _ _ c.loop-wire.all c.in_ok-all-2.all c.args.wires.now c.loop-wire.wire-index _ c.loop-wire-test.true c.in_ok-all-2.ensures.adds c.loop-wire.invariant.tells c.in_ok-all-2.ensures.tells;
}
