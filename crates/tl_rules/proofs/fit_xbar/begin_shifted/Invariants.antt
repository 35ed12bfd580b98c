use Rattle.std.proofs.Common.{◌≡◌, ◌-◌, drop, map, take, length}
use Rattle.tl_rules.specs.Crossbars.{shifted_master}
use Rattle.tl_rules.specs.Fits.{same_ids}
use Rattle.tl_rules.proofs.fit_xbar.begin_shifted.Given as goal

abbrev pub invariant-loop-place : goal.invariant-loop-place
invariant-loop-place l =
    same_ids (map (shifted_master l.by) (drop l.place l.masters)) (take (length l.masters - l.place) (drop l.place l.moved))
    ≡ same_ids (map (shifted_master l.by) l.masters) (take (length l.masters) l.moved)
