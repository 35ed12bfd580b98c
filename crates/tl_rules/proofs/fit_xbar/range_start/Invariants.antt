use Rattle.std.proofs.Common.{◌≡◌, ◌≤◌, ◌+◌, ◌*◌, drop, map}
use Rattle.dip_sets.specs.Assignments.{rounded, sum_before}
use Rattle.tl_rules.specs.Crossbars.{id_count}
use Rattle.tl_rules.specs.Fits.{port_down}
use Rattle.tl_rules.proofs.fit_xbar.range_start.Given as goal

abbrev pub invariant-loop-at : goal.invariant-loop-at
invariant-loop-at l = record {
  so_far : l.start + sum_before l.own l.place l.at (map rounded (map id_count (map (port_down l.down) (drop l.at l.ins))))
      ≡ sum_before l.own l.place 0 (map rounded (map id_count (map (port_down l.down) l.ins)));
  bound : l.start ≤ 1024 * l.at;
}
