use Rattle.std.proofs.Common.{◌+◌, ◌-◌, ◌<◌, ◌∙◌, length, arith}
use Rattle.net_build.proofs.Folded.{bit_at, choose_more, choose_none, first_width_at, value_at}
use Rattle.net_build.proofs.Steps.{adds_adds}
use Rattle.net_build.proofs.builder.Builder.choose.Goals as goal

pub loop-done-init : goal.loop-done-init
loop-done-init c = record {
  adds = c.in_ok-wire.ensures.adds;
  wire = c.in_ok-wire.ensures.wire.0;
  width = c.in_ok-wire.ensures.wire.1 ∙ first_width_at c.args.values.now _ (omega (arith, c.requires.some, c.requires.long));
  value = choose_none _ c.in_ok-wire.wire c.args.picks.now c.args.values.now _ _ (omega arith) c.in_ok-wire.ensures.value;
}

pub mux-requires-clause-pick : goal.mux-requires-clause-pick
mux-requires-clause-pick c = bit_at _ _ c.args.picks.now _ _ c.requires.picks c.loop-done.invariant.adds (omega (arith, c.loop-done-test.true))

pub mux-requires-clause-wires : goal.mux-requires-clause-wires
mux-requires-clause-wires c = (
  value_at _ _ c.args.values.now _ _ c.requires.values c.loop-done.invariant.adds (omega (arith, c.loop-done-test.true, c.requires.long)),
  c.loop-done.invariant.wire,
)

pub loop-done-preserved : goal.loop-done-preserved
loop-done-preserved c =
    let n = length c.args.picks.now in
    let k = c.loop-done.done in
    let b : k < n = c.loop-done-test.true in
    let place : n - 1 - k < length c.args.values.now = omega (arith, c.requires.long) in
    record {
      adds = adds_adds _ _ _ c.loop-done.invariant.adds c.in_ok-wire-2.ensures.adds;
      wire = c.in_ok-wire-2.ensures.wire.0;
      width = c.in_ok-wire-2.ensures.wire.1 ∙ (c.requires.values (n - 1 - k) _ place).1;
      value = choose_more _ _ c.args.picks.now c.args.values.now (n - 1 - k) (n - k) (n - (k + 1)) _ _ c.loop-done.wire c.in_ok-wire-2.wire (omega arith) c.requires.long (omega arith) (omega arith) c.in_ok-wire-2.ensures.adds c.loop-done.invariant.value c.in_ok-wire-2.ensures.value;
    }
