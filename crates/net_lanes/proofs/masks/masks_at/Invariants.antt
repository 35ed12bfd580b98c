use Rattle.net_build.specs.Values.{Adds}
use Rattle.net_lanes.specs.Lanes.{AreTabled, mask_where}
use Rattle.net_lanes.proofs.masks.masks_at.Given as goal

abbrev pub invariant-loop-size : goal.invariant-loop-size
invariant-loop-size l = record {
  adds : Adds l.fn.builder l.builder;
  masks : AreTabled l.builder l.width l.size (λ v size. mask_where l.width size (v l.place.number)) l.out;
}
