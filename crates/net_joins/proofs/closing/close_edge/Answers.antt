use Rattle.std.proofs.Common.{sym, subst}
use Rattle.net_build.proofs.Steps.{bit_later}
use Rattle.net_queue.specs.Queues.{IsOpen}
use Rattle.net_joins.proofs.Closed.{drives_copy, fits_copy, list_copy}
use Rattle.net_joins.proofs.Later.{list_later}
use Rattle.net_leaves.proofs.Later.{put_later}
use Rattle.net_joins.proofs.Reopened.{both_driven, responses_open}
use Rattle.net_joins.proofs.closing.close_edge.Goals as goal

pub close_queue-requires-clause-open : goal.close_queue-requires-clause-open
close_queue-requires-clause-open c = subst (IsOpen c.args.builder.now) (sym c.in_ok-a.ensures) c.requires.open.0

pub close_queue-requires-clause-bits : goal.close_queue-requires-clause-bits
close_queue-requires-clause-bits c = (c.requires.giver.put.valid, c.requires.taker.take)

pub close_queue-requires-clause-items : goal.close_queue-requires-clause-items
close_queue-requires-clause-items c = fits_copy _ c.args.edge.now.a c.in_ok-a.a c.args.giver.now.put c.as_slice-requests.result.now c.in_ok-a.ensures c.as_slice-requests.ensures c.requires.giver.put

pub close_queue-requires-2-clause-open : goal.close_queue-requires-2-clause-open
close_queue-requires-2-clause-open c =
    let g = drives_copy _ _ c.args.edge.now.a c.in_ok-a.a c.in_ok-a.ensures c.in_ok-close_queue.ensures.drives in
    subst (IsOpen c.close_queue.new.builder) (sym c.in_ok-d.ensures) (responses_open _ _ c.args.edge.now c.requires.first g c.requires.open.1)

pub close_queue-requires-2-clause-bits : goal.close_queue-requires-2-clause-bits
close_queue-requires-2-clause-bits c =
    let l = c.in_ok-close_queue.ensures.drives.later in
    (bit_later _ _ c.args.taker.now.put.valid l c.requires.taker.put.valid, bit_later _ _ c.args.giver.now.take l c.requires.giver.take)

pub close_queue-requires-2-clause-items : goal.close_queue-requires-2-clause-items
close_queue-requires-2-clause-items c =
    let l = c.in_ok-close_queue.ensures.drives.later in
    fits_copy _ c.args.edge.now.d c.in_ok-d.d c.args.taker.now.put c.as_slice-responses.result.now c.in_ok-d.ensures c.as_slice-responses.ensures (put_later _ _ c.args.edge.now.d c.args.taker.now.put l c.requires.taker.put)

pub returns-clause-drives : goal.returns-clause-drives
returns-clause-drives c =
    both_driven _ _ _ c.args.edge.now c.requires.first
    (drives_copy _ _ c.args.edge.now.a c.in_ok-a.a c.in_ok-a.ensures c.in_ok-close_queue.ensures.drives)
    (drives_copy _ _ c.args.edge.now.d c.in_ok-d.d c.in_ok-d.ensures c.in_ok-close_queue-2.ensures.drives)

pub returns-clause-closed : goal.returns-clause-closed
returns-clause-closed c =
    let e = c.args.edge.now in
    let from = c.args.giver.now in
    let to = c.args.taker.now in
    let l = c.in_ok-close_queue-2.ensures.drives.later in
    record {
      a = list_later _ _ e.a from.put.valid from.put.items to.take l (list_copy _ e.a c.in_ok-a.a from.put.valid to.take from.put.items c.as_slice-requests.result.now c.in_ok-a.ensures c.as_slice-requests.ensures c.in_ok-close_queue.ensures.list);
      d = list_copy _ e.d c.in_ok-d.d to.put.valid from.take to.put.items c.as_slice-responses.result.now c.in_ok-d.ensures c.as_slice-responses.ensures c.in_ok-close_queue-2.ensures.list;
    }
