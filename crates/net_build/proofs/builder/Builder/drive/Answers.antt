use Rattle.net_build.proofs.Steps.{low_in_reset, drives_after, takes_next, becomes_taken}
use Rattle.net_build.proofs.builder.Builder.drive.Goals as goal

pub put-requires-clause-low : goal.put-requires-clause-low
put-requires-clause-low c = low_in_reset _ c.in_ok-before.before c.args.next c.in_ok-before.ensures.value

pub returns-clause-drives : goal.returns-clause-drives
returns-clause-drives c = drives_after _ _ _ _ c.in_ok-before.ensures.adds c.put.ensures.drives

pub returns-clause-takes : goal.returns-clause-takes
returns-clause-takes c = takes_next _ _ c.args.register c.in_ok-before.before c.args.next c.put.ensures.drives c.put.ensures.next c.in_ok-before.ensures.value

pub returns-clause-becomes : goal.returns-clause-becomes
returns-clause-becomes c = becomes_taken _ c.args.register _ (takes_next _ _ c.args.register c.in_ok-before.before c.args.next c.put.ensures.drives c.put.ensures.next c.in_ok-before.ensures.value)
