-- What is known of a design whose checks pass, node by node and edge by edge.
use Rattle.std.specs.Prelude.{ℕ, ◌≡◌, ◌≤◌, ◌<◌, List, length, true, false, Some, None, slice_get, All}
use Rattle.dip_lists.specs.First.{first_failing}
use Rattle.tl_params.specs.declared.ops.Template.{Template}
use Rattle.tl_params.specs.declared.ports.DownPort.{DownPort}
use Rattle.tl_params.specs.declared.ports.UpPort.{UpPort}
use Rattle.dip_graph.specs.declared.design.NodeKind.TheVariants.{Ruled}
use Rattle.dip_graph.specs.declared.design.NodeEntry.{NodeEntry}
use Rattle.dip_graph.specs.declared.design.Design.{Design}
use Rattle.dip_graph.specs.declared.edges.Edge.{Edge}
use Rattle.dip_rule.specs.Stated.{StatedRule, template_of}
use Rattle.dip_negotiate.specs.declared.solution.Solution.{Solution}
use Rattle.dip_negotiate.specs.Passes.{Solves}
use Rattle.dip_graph.specs.Edges.{HasNodes}
use Rattle.dip_negotiate.specs.Negotiation.{IsNegotiable, down_pass, up_pass}
use Rattle.dip_rule.specs.Stated.{is_nexus_kind}
use Rattle.dip_graph.specs.Kinds.{ruled_kind_at}
use Rattle.tl_rules.specs.Fits.{fits}
use Rattle.dip_graph.specs.Edges.{edges_to, edges_from}
use Rattle.dip_checks.specs.Checks.{masters_are_wrong, edge_is_misaligned, beats_differ, edges_in, solution_of, design_checks}
use Rattle.dip_graph.specs.Edges.{edges_at}
use Rattle.tl_params.specs.Apart.{HasDisjointSets}
use Rattle.tl_owners.proofs.SoundLeaves.{IsSoundLeaf}
use Rattle.dip_plan.specs.DesignPlans.{plan_of}
use Rattle.dip_stars.specs.Filled.{HasItsEdges, HasItsPorts}
use Rattle.dip_plan.proofs.PlanLaws.{EachJoins}

pub record IsJudged (rules : List StatedRule) (design : Design) (edges : List Edge) (solution : Solution) : Type 0 where
  pub negotiable : IsNegotiable design edges
  pub down : Solves (down_pass rules design.nodes edges) edges solution.down
  pub up : Solves (up_pass rules design.nodes edges) edges solution.up
  pub few : length edges ≤ 1024
  pub ports : (number : ℕ) (edge : Edge) → slice_get edges number ≡ Some edge → HasItsPorts edges number edge
  pub joins : EachJoins rules edges design.nodes
  pub has : (node : ℕ) (entry : NodeEntry) → slice_get design.nodes node ≡ Some entry → HasItsEdges rules edges node entry.kind
  pub fit : (node : ℕ) (entry : NodeEntry) (name args : List ℕ) (template : Template) → slice_get design.nodes node ≡ Some entry → entry.kind ≡ Ruled name args
      → template_of rules name ≡ Some template → fits template args (edges_to node edges) (edges_from node edges) solution.down solution.up ≡ true
  pub beats : (node : ℕ) → node < length design.nodes → is_nexus_kind rules (ruled_kind_at design.nodes node) ≡ true → beats_differ solution.up (edges_at node edges) ≡ false
  pub masters : All (λ (down : DownPort). masters_are_wrong down.masters ≡ false) solution.down
  pub apart : All HasDisjointSets solution.up
  pub aligned : All (λ (up : UpPort). edge_is_misaligned up ≡ false) solution.up

abbrev pub JudgedLaw : Type 0
JudgedLaw = (rules : List StatedRule) (design : Design) → All (HasNodes design.nodes) design.binds → first_failing (design_checks rules design) ≡ None
    → IsJudged rules design (edges_in rules design) (solution_of rules design (edges_in rules design))

-- each leaf of the plan of a design whose checks pass is sound
abbrev pub LeafLaw : Type 0
LeafLaw = (rules : List StatedRule) (design : Design) (edges : List Edge) (solution : Solution) → IsJudged rules design edges solution
    → All (IsSoundLeaf (plan_of rules design edges solution)) (plan_of rules design edges solution).leaves
