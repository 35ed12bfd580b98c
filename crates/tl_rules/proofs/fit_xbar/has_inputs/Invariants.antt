use Rattle.std.proofs.Common.{◌≡◌, drop, map}
use Rattle.dip_sets.specs.Assignments.{rounded, ranges_from}
use Rattle.tl_rules.specs.Crossbars.{id_count, joined_masters}
use Rattle.tl_rules.specs.Fits.{same_ids, port_down}
use Rattle.tl_rules.proofs.fit_xbar.has_inputs.Given as goal

abbrev pub invariant-loop-place : goal.invariant-loop-place
invariant-loop-place l =
    same_ids
    (joined_masters (map (port_down l.down) (drop l.place l.ins))
    (ranges_from l.place (map rounded (map id_count (map (port_down l.down) l.ins))) (map rounded (map id_count (map (port_down l.down) (drop l.place l.ins))))))
    l.rest
    ≡ same_ids
    (joined_masters (map (port_down l.down) l.ins)
    (ranges_from 0 (map rounded (map id_count (map (port_down l.down) l.ins))) (map rounded (map id_count (map (port_down l.down) l.ins)))))
    l.masters
