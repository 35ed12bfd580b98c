use Rattle.net_build.proofs.Steps.{adds_adds}
use Rattle.net_crossbar.proofs.Asked.{all_told_adds}
use Rattle.net_crossbar.proofs.rests.build_rests.Goals as goal

pub rests_by-requires-clause-rows : goal.rests_by-requires-clause-rows
rests_by-requires-clause-rows c = all_told_adds _ _ c.args.rows.now c.in_ok-table.ensures.adds c.requires.rows

pub returns-clause-adds : goal.returns-clause-adds
returns-clause-adds c = adds_adds _ _ _ c.in_ok-table.ensures.adds c.in_ok-rests.ensures.adds
