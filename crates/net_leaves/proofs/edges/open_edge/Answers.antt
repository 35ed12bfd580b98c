use Rattle.std.proofs.Common.{◌++◌, refl}
use Rattle.net_build.proofs.OpenedLists.{opens_opens}
use Rattle.net_queue.specs.Queues.{queue_registers}
use Rattle.net_leaves.proofs.Opened.{edge_made, widths_fit, widths_fit_up}
use Rattle.net_leaves.proofs.edges.open_edge.Goals as goal

pub open_queue-requires : goal.open_queue-requires
open_queue-requires c = widths_fit c.args.edge.now c.a_widths-requests.result c.requires c.a_widths-requests.ensures

pub open_queue-requires-2 : goal.open_queue-requires-2
open_queue-requires-2 c = widths_fit_up c.args.edge.now c.d_widths-responses.result c.requires c.d_widths-responses.ensures

pub returns-clause-opens : goal.returns-clause-opens
returns-clause-opens c =
    let a = queue_registers c.in_ok-a.a in
    let d = queue_registers c.in_ok-d.d in
    opens_opens _ _ _ a d (a ++ d) c.in_ok-a.ensures.opens c.in_ok-d.ensures.opens refl

pub returns-clause-edge : goal.returns-clause-edge
returns-clause-edge c =
    let a = c.in_ok-a.ensures in
    let d = c.in_ok-d.ensures in
    edge_made _ _ c.args.edge.now c.in_ok-a.a c.in_ok-d.d c.a_widths-requests.result c.d_widths-responses.result _ c.a_widths-requests.ensures c.d_widths-responses.ensures d.opens a.open a.long a.widths d.open d.long d.widths
