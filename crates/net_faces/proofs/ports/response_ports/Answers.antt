use Rattle.std.proofs.Common.{◌∙◌, ap}
use Rattle.tl_edge.specs.declared.plan.PlanEdge.{PlanEdge}
use Rattle.net_ports.specs.Ports.{response_row}
use Rattle.net_faces.proofs.PortSteps.{response_fits}
use Rattle.net_faces.proofs.ports.response_ports.Goals as goal

pub returns-clause-fit : goal.returns-clause-fit
returns-clause-fit c =
    response_fits c.args.plan.now c.args.at.now c.in_ok-ports.ports c.requires c.in_ok-ports.ensures.named
    (c.in_ok-ports.ensures.ports ∙ ap (λ (edge : PlanEdge). response_row edge.bundle c.args.at.now) c.edge_at-edge.ensures)
