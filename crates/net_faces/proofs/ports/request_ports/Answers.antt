use Rattle.std.proofs.Common.{◌∙◌, ap}
use Rattle.tl_edge.specs.declared.plan.PlanEdge.{PlanEdge}
use Rattle.net_ports.specs.Ports.{request_row}
use Rattle.net_faces.proofs.PortSteps.{request_fits}
use Rattle.net_faces.proofs.ports.request_ports.Goals as goal

pub returns-clause-fit : goal.returns-clause-fit
returns-clause-fit c =
    request_fits c.args.plan.now c.args.at.now c.in_ok-ports.ports c.requires c.in_ok-ports.ensures.named
    (c.in_ok-ports.ensures.ports ∙ ap (λ (edge : PlanEdge). request_row edge.bundle c.args.at.now) c.edge_at-edge.ensures)
