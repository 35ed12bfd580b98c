-- A design whose binds pass the checks can be negotiated.
use Rattle.std.proofs.Common.{◌≡◌, List, None, sym, subst}
use Rattle.std.specs.Prelude.{All}
use Rattle.dip_lists.specs.First.{first}
use Rattle.dip_graph.specs.Edges.{HasNodes}
use Rattle.dip_graph.specs.Orders.{left_out}
use Rattle.dip_graph.specs.declared.design.Design.{Design}
use Rattle.dip_graph.specs.declared.edges.Edge.{Edge}
use Rattle.dip_rule.specs.Stated.{StatedRule}
use Rattle.dip_negotiate.specs.Negotiation.{IsNegotiable}
use Rattle.dip_stars.proofs.Follow.{each_follows}
use Rattle.dip_checks.specs.Checks.{edges_in}

pub negotiable : (rules : List StatedRule) (design : Design) (edges : List Edge) → All (HasNodes design.nodes) design.binds → first (left_out design) ≡ None → edges ≡ edges_in rules design
    → IsNegotiable design edges
negotiable rules design edges named acyclic e =
    subst (λ es. IsNegotiable design es) (sym e) (record { acyclic = acyclic; named = named; made = each_follows rules design })
