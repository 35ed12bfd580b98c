-- What is told of the plan of a design.
use Rattle.std.specs.Prelude.{ℕ, ◌≡◌, ◌<◌, List, [], length, false, Some, slice_get}
use Rattle.tl_params.specs.declared.ops.Template.{Template}
use Rattle.tl_params.specs.Operations.{is_nexus}
use Rattle.dip_graph.specs.declared.design.NodeKind.{NodeKind}
use Rattle.dip_graph.specs.declared.design.NodeKind.TheVariants.{Source, Sink, Ruled}
use Rattle.dip_graph.specs.declared.design.NodeEntry.{NodeEntry}
use Rattle.dip_graph.specs.declared.design.Design.{Design}
use Rattle.dip_graph.specs.declared.edges.Edge.{Edge}
use Rattle.dip_rule.specs.Stated.{StatedRule, template_of}
use Rattle.dip_negotiate.specs.Negotiation.{IsNegotiable}
use Rattle.dip_negotiate.specs.declared.solution.Solution.{Solution}
use Rattle.tl_edge.specs.Plans.{NoneReturns, given_edges, taken_edges, times}
use Rattle.dip_graph.specs.Edges.{edges_to, edges_from}
use Rattle.dip_plan.specs.DesignPlans.{plan_of}

-- no way comes back, since nodes stand behind those that they are bound to
abbrev pub AcyclicLaw : Type 0
AcyclicLaw = (rules : List StatedRule) (design : Design) (edges : List Edge) (solution : Solution) → IsNegotiable design edges
    → NoneReturns (plan_of rules design edges solution)

-- nothing goes to a source or from a sink; what is built for a node is known, and the edges of an adapter are pairs
abbrev pub KindJoins : List StatedRule → List Edge → ℕ → NodeKind → Type 0
KindJoins rules edges node (Source ports ids emits) = edges_to node edges ≡ []
KindJoins rules edges node (Sink beat ports supports) = edges_from node edges ≡ []
KindJoins rules edges node (Ruled kind args) =
    (template : Template) × (template_of rules kind ≡ Some template) × (is_nexus template ≡ false → length (edges_to node edges) ≡ length (edges_from node edges))

abbrev pub EachJoins : List StatedRule → List Edge → List NodeEntry → Type 0
EachJoins rules edges nodes = (node : ℕ) (entry : NodeEntry) → slice_get nodes node ≡ Some entry → KindJoins rules edges node entry.kind

-- each edge is given by one leaf or source port, and taken by one leaf or sink port
pub record OnceLaw : Type 0 where
  pub given : (rules : List StatedRule) (design : Design) (edges : List Edge) (solution : Solution) → IsNegotiable design edges → EachJoins rules edges design.nodes
      → (edge : ℕ) → edge < length edges → times edge (given_edges (plan_of rules design edges solution)) ≡ 1
  pub taken : (rules : List StatedRule) (design : Design) (edges : List Edge) (solution : Solution) → IsNegotiable design edges → EachJoins rules edges design.nodes
      → (edge : ℕ) → edge < length edges → times edge (taken_edges (plan_of rules design edges solution)) ≡ 1
