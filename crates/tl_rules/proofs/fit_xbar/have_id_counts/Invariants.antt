use Rattle.std.proofs.Common.{◌≡◌, drop, map}
use Rattle.std.specs.List.{list_all}
use Rattle.tl_rules.specs.Crossbars.{id_count, is_id_count}
use Rattle.tl_rules.specs.Fits.{port_down}
use Rattle.tl_rules.proofs.fit_xbar.have_id_counts.Given as goal

abbrev pub invariant-loop-input : goal.invariant-loop-input
invariant-loop-input l =
    list_all (λ input. is_id_count (id_count input)) (map (port_down l.down) (drop l.input-index l.ins))
    ≡ list_all (λ input. is_id_count (id_count input)) (map (port_down l.down) l.ins)
