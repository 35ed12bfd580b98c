use Rattle.net_build.proofs.Folded.{bits_adds}
use Rattle.net_build.proofs.RowLists.{rows_adds}
use Rattle.net_build.proofs.Steps.{adds_adds}
use Rattle.net_crossbar.proofs.Lists.{all_lifted}
use Rattle.net_crossbar.proofs.Served.{gates_told, wanted_adds}
use Rattle.net_crossbar.proofs.channels.channel_gates.Goals as goal

pub build_gates-requires-clause-wants : goal.build_gates-requires-clause-wants
build_gates-requires-clause-wants c = all_lifted _ _ c.args.wants.now (λ k ws h. wanted_adds _ _ _ ws c.in_ok-rests.ensures.adds h) c.requires.wants

pub build_gates-requires-clause-readies : goal.build_gates-requires-clause-readies
build_gates-requires-clause-readies c = (bits_adds _ _ c.args.readies.now c.in_ok-rests.ensures.adds c.requires.readies.0, c.requires.readies.1)

pub build_gates-requires-clause-rows : goal.build_gates-requires-clause-rows
build_gates-requires-clause-rows c = rows_adds _ _ c.args.widths.now c.args.rows.now c.in_ok-rests.ensures.adds c.requires.rows

pub returns-clause-adds : goal.returns-clause-adds
returns-clause-adds c = adds_adds _ _ _ c.in_ok-rests.ensures.adds c.in_ok-servings.ensures.adds

pub returns-clause-gates : goal.returns-clause-gates
returns-clause-gates c = gates_told _ _ _ c.args.round c.args.channel c.args.bytes c.args.wants.now c.args.readies.now c.args.rows.now c.in_ok-rests.rests _ c.in_ok-servings.servings c.as_slice.ensures c.requires.wants c.in_ok-rests.ensures.rests c.in_ok-servings.ensures.long c.in_ok-servings.ensures.gates
