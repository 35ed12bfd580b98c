use Rattle.std.proofs.Common.{◌≡◌, ℕ, subst, arith}
use Rattle.net_build.proofs.Steps.{adds_adds, wire_adds}
use Rattle.net_lanes.specs.Lanes.{AreTabled, mask_where}
use Rattle.net_lanes.proofs.Tabled.{tabled_more}
use Rattle.net_lanes.proofs.masks.masks_at.Goals as goal

pub mask_at-requires-clause-place : goal.mask_at-requires-clause-place
mask_at-requires-clause-place c = (wire_adds _ _ c.args.place c.loop-size.invariant.adds c.requires.place.0, c.requires.place.1)

pub loop-size-preserved : goal.loop-size-preserved
loop-size-preserved c =
    let i = c.loop-size.invariant in
    let g = c.in_ok-mask.ensures.adds in
    record {
      adds = adds_adds _ _ _ i.adds g;
      masks = tabled_more _ _ c.args.width c.loop-size.size _ c.loop-size.out _ c.in_ok-mask.mask g.later i.masks c.in_ok-mask.ensures.wire.0 c.in_ok-mask.ensures.wire.1 c.in_ok-mask.ensures.value.at c.in_ok-push.ensures.ok;
    }

pub returns-clause-masks : goal.returns-clause-masks
returns-clause-masks c =
    let all : c.loop-size.size ≡ 9 = omega (arith, c.loop-size.auto.size-end) in
    subst (λ (n : ℕ). AreTabled c.loop-size.builder c.args.width n (λ v size. mask_where c.args.width size (v c.args.place.number)) c.loop-size.out) all c.loop-size.invariant.masks
