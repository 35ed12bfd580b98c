use Rattle.net_build.proofs.DrivenLists.{drives_more, drives_none, drives_whole, next_at, take_done, take_next, take_none, undriven_first, undriven_next}
use Rattle.net_build.proofs.builder.Builder.drive_all.Goals as goal

pub loop-place-init : goal.loop-place-init
loop-place-init c = record {
  drives = drives_none _ c.args.registers.now;
  undriven = undriven_first _ c.args.registers.now c.requires.undriven;
  taken = take_none _ c.args.registers.now c.args.nexts.now;
}

pub drive-requires-clause-next : goal.drive-requires-clause-next
drive-requires-clause-next c = (next_at _ _ c.args.registers.now c.args.nexts.now c.loop-place.place (record { number = 0; width = 0 }) _ c.loop-place.invariant.drives.later c.requires.nexts c.loop-place-test.true).0

pub loop-place-preserved : goal.loop-place-preserved
loop-place-preserved c =
    let i = c.loop-place.invariant in
    let d = c.in_ok-drive.ensures.drives in
    record {
      drives = drives_more _ _ _ c.args.registers.now c.loop-place.place _ c.loop-place-test.true i.drives d;
      undriven = undriven_next _ _ c.args.registers.now c.loop-place.place _ c.requires.distinct i.undriven d;
      taken = take_next _ _ c.args.registers.now c.args.nexts.now c.loop-place.place _ _ i.taken d c.in_ok-drive.ensures.takes;
    }

pub returns-clause-drives : goal.returns-clause-drives
returns-clause-drives c = drives_whole _ _ c.args.registers.now c.loop-place.place c.loop-place-test.false c.loop-place.invariant.drives

pub returns-clause-take : goal.returns-clause-take
returns-clause-take c = take_done _ c.args.registers.now c.args.nexts.now c.loop-place.place c.loop-place-test.false c.requires.long c.loop-place.invariant.taken
