use Rattle.std.proofs.Common.{◌≡◌, ℕ, ◌∙◌, subst, arith}
use Rattle.net_build.proofs.Steps.{adds_adds}
use Rattle.net_lanes.specs.Lanes.{AreTabled, mask_where}
use Rattle.net_lanes.proofs.Tabled.{tabled_more}
use Rattle.net_lanes.proofs.masks.masks_of.Goals as goal

pub loop-place-preserved : goal.loop-place-preserved
loop-place-preserved c =
    let i = c.loop-place.invariant in
    let g = c.in_ok-mask.ensures.adds in
    record {
      adds = adds_adds _ _ _ i.adds g;
      masks = tabled_more _ _ c.args.width c.loop-place.place _ c.loop-place.out _ c.in_ok-mask.mask g.later i.masks c.in_ok-mask.ensures.wire.0 c.in_ok-mask.ensures.wire.1 (λ v s. c.in_ok-mask.ensures.value.at v s ∙ c.lanes_where.ensures.value) c.in_ok-push.ensures.ok;
    }

pub returns-clause-masks : goal.returns-clause-masks
returns-clause-masks c =
    let all : c.loop-place.place ≡ 8 = omega (arith, c.loop-place.auto.place-end) in
    subst (λ (n : ℕ). AreTabled c.loop-place.builder c.args.width n (λ v place. mask_where c.args.width c.args.size place) c.loop-place.out) all c.loop-place.invariant.masks
