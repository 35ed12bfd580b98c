use Rattle.std.proofs.Common.{◌≡◌, ◌≤◌, ℕ, subst, arith}
use Rattle.std.proofs.lemmas.Nat.{pow_pos}
use Rattle.net_build.specs.Values.{Means}
use Rattle.net_build.proofs.Steps.{adds_adds, wire_adds}
use Rattle.net_lanes.proofs.Placed.{all_below, first_below, lanes_below, more_below}
use Rattle.net_lanes.proofs.lanes.place_lane.Goals as goal

pub loop-place-init : goal.loop-place-init
loop-place-init c = record {
  adds = c.in_ok-lanes.ensures.adds;
  wire = (c.in_ok-lanes.ensures.wire.0, omega (arith, c.in_ok-lanes.ensures.wire.1));
  value = first_below _ c.in_ok-lanes.lanes c.args.wire c.args.index c.in_ok-lanes.ensures.value;
}

pub place_one-requires-clause-wires : goal.place_one-requires-clause-wires
place_one-requires-clause-wires c =
    let i = c.loop-place.invariant in
    (i.wire.0, wire_adds _ _ c.args.wire i.adds c.requires.wires.0, wire_adds _ _ c.args.index i.adds c.requires.wires.1)

pub loop-place-preserved : goal.loop-place-preserved
loop-place-preserved c =
    let i = c.loop-place.invariant in
    let g = c.in_ok-lanes-2.ensures.adds in
    record {
      adds = adds_adds _ _ _ i.adds g;
      wire = (c.in_ok-lanes-2.ensures.wire.0, omega (arith, c.in_ok-lanes-2.ensures.wire.1, i.wire.1));
      value = more_below _ _ c.loop-place.lanes c.in_ok-lanes-2.lanes c.args.wire c.args.index c.loop-place.place g i.wire.1 i.value c.in_ok-lanes-2.ensures.value;
    }

pub returns-clause-value : goal.returns-clause-value
returns-clause-value c =
    let some : 1 ≤ c.args.count = omega (arith, c.requires.all, pow_pos c.args.index.width) in
    let all : c.loop-place.place ≡ c.args.count = omega (arith, c.loop-place.auto.place-end some) in
    all_below _ _ c.loop-place.lanes c.args.wire c.args.index c.args.count c.loop-place.invariant.adds c.requires.wires.1 c.requires.all
    (subst (λ (n : ℕ). Means c.loop-place.builder c.loop-place.lanes (λ v. lanes_below c.args.wire.width n (v c.args.index.number) (v c.args.wire.number))) all c.loop-place.invariant.value)
