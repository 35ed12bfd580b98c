use Rattle.net_build.specs.Values.{Adds}
use Rattle.net_lanes.specs.Lanes.{AreTabled, mask_where}
use Rattle.net_lanes.proofs.masks.masks_of.Given as goal

abbrev pub invariant-loop-place : goal.invariant-loop-place
invariant-loop-place l = record {
  adds : Adds l.fn.builder l.builder;
  masks : AreTabled l.builder l.width l.place (λ v place. mask_where l.width l.size place) l.out;
}
