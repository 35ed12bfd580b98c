use Rattle.std.proofs.Common.{◌<◌, length, arith}
use Rattle.std.specs.Vec.Iter.{into_iter_items}
use Rattle.sim_drive.proofs.Prepares.{next_is}
use Rattle.sim_drive.proofs.Scripted.{asks_one, next_has}
use Rattle.sim_drive.proofs.scripts.asked_by_port.Goals as goal

pub index_mut-requires : goal.index_mut-requires
index_mut-requires c =
    let place = c.loop-number._number in
    let within : place < length c.args.requests = omega arith in
    let parts = rw c.in-Some.is at c.next.ensures.cases in
    let next = next_is c.args.requests (into_iter_items c.loop-number.left) (into_iter_items c.next.new.self) place c.in-Some.asked c.loop-number.invariant.left parts.0 within in
    let below : c.in-Some.asked.port < c.args.count = next_has c.args.requests (into_iter_items c.next.new.self) place c.args.count c.in-Some.asked c.requires next within in
    omega (arith, c.loop-number.invariant.asked.long)

pub loop-number-preserved : goal.loop-number-preserved
loop-number-preserved c =
    let place = c.loop-number._number in
    let within : place < length c.args.requests = omega arith in
    let parts = rw c.in-Some.is at c.next.ensures.cases in
    let next = next_is c.args.requests (into_iter_items c.loop-number.left) (into_iter_items c.next.new.self) place c.in-Some.asked c.loop-number.invariant.left parts.0 within in
    let below : c.in-Some.asked.port < c.args.count = next_has c.args.requests (into_iter_items c.next.new.self) place c.args.count c.in-Some.asked c.requires next within in
    record {
      left = next.behind;
      remaining = omega (arith, parts.1);
      asked = asks_one c.args.requests place c.args.count c.in-Some.asked c.loop-number.lists.items c.index_mut.result.now c.add.new.self c.loop-number.invariant.asked within
          next.here below c.index_mut.ensures.value c.in_ok-add.ensures.requests c.in_ok-add.ensures.starts;
    }
