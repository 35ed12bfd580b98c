use Rattle.std.proofs.Common.{arith}
use Rattle.std.specs.Vec.Iter.{into_iter_items}
use Rattle.sim_drive.proofs.Drivers.{first_left, may_drive, more_have, others_left, there_is}
use Rattle.sim_drive.proofs.scripts.source_drivers.Goals as goal

pub source_driver-requires-clause-may : goal.source_driver-requires-clause-may
source_driver-requires-clause-may c =
    let port = c.loop-at.at-index in
    let parts = rw c.in-Some.is at c.next.ensures.cases in
    may_drive c.args.plan.now c.args.requests port c.at-item.result c.in-Some.asked c.requires.sound c.requires.few c.requires.legal
    (there_is c.args.plan.now.sources c.as_slice-ports.result.now port c.at-item.result c.as_slice-ports.ensures (omega arith) c.at-item.is)
    (first_left c.args.requests port (into_iter_items c.loop-at.lists) (into_iter_items c.next.new.self) c.in-Some.asked c.loop-at.invariant.left parts.0)

pub loop-at-preserved : goal.loop-at-preserved
loop-at-preserved c =
    let port = c.loop-at.at-index in
    let asked = c.in-Some.asked in
    let left = into_iter_items c.loop-at.lists in
    let rest = into_iter_items c.next.new.self in
    let parts = rw c.in-Some.is at c.next.ensures.cases in
    record {
      left = others_left c.args.requests port left rest asked c.loop-at.invariant.left parts.0;
      remaining = omega (arith, parts.1);
      opened = more_have c.args.plan.now c.args.requests port c.loop-at.drivers.items c.push.new.self.items c.at-item.result asked c.in_ok-source_driver.field-0 c.loop-at.invariant.opened
          (there_is c.args.plan.now.sources c.as_slice-ports.result.now port c.at-item.result c.as_slice-ports.ensures (omega arith) c.at-item.is)
          (first_left c.args.requests port left rest asked c.loop-at.invariant.left parts.0) c.in_ok-source_driver.ensures c.in_ok-push.ensures.items;
    }
