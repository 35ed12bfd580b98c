use Rattle.std.proofs.Common.{IsTrue, map, arith}
use Rattle.std.specs.List.{list_all}
use Rattle.std.proofs.lemmas.Grind.{common_steps}
use Rattle.tl_rules.specs.Crossbars.{id_count, is_id_count}
use Rattle.tl_rules.specs.Fits.{port_down}
use Rattle.tl_rules.proofs.Zips.{each_passes}
use Rattle.tl_rules.proofs.fit_xbar.have_id_counts.Goals as goal

pub returns-clause-each : goal.returns-clause-each
returns-clause-each c h =
    let all : IsTrue (list_all (λ input. is_id_count (id_count input)) (map (port_down c.args.down.now) c.args.ins.now)) = grind (arith, common_steps) in
    each_passes (λ input. is_id_count (id_count input)) (port_down c.args.down.now) c.args.ins.now all
