-- The plan of a design with its edges and what goes down and up them.
use Rattle.std.specs.Prelude.{ℕ, ◌+◌, List, [], ◌∷◌, ◌++◌, cond, Option, Some, None}
use Rattle.tl_params.specs.Operations.{is_nexus}
use Rattle.tl_params.specs.Owners.{largest_end}
use Rattle.tl_params.specs.declared.ops.Template.{Template}
use Rattle.tl_params.specs.declared.ports.DownPort.{DownPort}
use Rattle.tl_params.specs.declared.ports.UpPort.{UpPort}
use Rattle.tl_edge.specs.declared.plan.Leaf.{Leaf}
use Rattle.tl_edge.specs.declared.plan.PlanEdge.{PlanEdge}
use Rattle.tl_edge.specs.declared.plan.PlanPort.{PlanPort}
use Rattle.tl_edge.specs.declared.plan.Plan.{Plan}
use Rattle.tl_edge.specs.Bundles.{bundle}
use Rattle.dip_graph.specs.declared.design.NodeKind.{NodeKind}
use Rattle.dip_graph.specs.declared.design.NodeKind.TheVariants.{Source, Sink, Ruled}
use Rattle.dip_graph.specs.declared.design.NodeEntry.{NodeEntry}
use Rattle.dip_graph.specs.declared.design.Design.{Design}
use Rattle.dip_graph.specs.declared.edges.Edge.{Edge}
use Rattle.dip_rule.specs.Stated.{StatedRule, template_of}
use Rattle.dip_negotiate.specs.declared.solution.Solution.{Solution}
use Rattle.dip_checks.specs.Checks.{edges_in, solution_of}
use Rattle.dip_plan.specs.declared.accepted.Accepted.{Accepted}
use Rattle.dip_graph.specs.Edges.{edges_to, edges_from}

-- ---- leaves: one for each port of an adapter, between its in edge and its out edge, and one for a nexus

-- a leaf of a template, between edges
abbrev pub leaf_of : Template → List ℕ → List ℕ → List ℕ → Leaf
leaf_of template args ins outs = record { template = template; ins = ins; outs = outs; args = args }

-- a leaf between the first in edge and the first out edge, one between the second ones, and so on
abbrev pub leaves_between : Template → List ℕ → List ℕ → List ℕ → List Leaf
leaves_between template args [] outs = []
leaves_between template args (above ∷ ins) [] = []
leaves_between template args (above ∷ ins) (below ∷ outs) =
    leaf_of template args (above ∷ []) (below ∷ []) ∷ leaves_between template args ins outs

-- what is built of a template, if there is one, between the edges of a node
abbrev pub built_leaves : Option Template → List ℕ → List ℕ → List ℕ → List Leaf
built_leaves None args ins outs = []
built_leaves (Some template) args ins outs =
    cond (is_nexus template) (leaf_of template args ins outs ∷ []) (leaves_between template args ins outs)

-- what is built for a node of a kind: nothing for a source or a sink
abbrev pub kind_leaves : List StatedRule → NodeKind → List ℕ → List ℕ → List Leaf
kind_leaves rules (Source ports ids emits) ins outs = []
kind_leaves rules (Sink beat ports supports) ins outs = []
kind_leaves rules (Ruled kind args) ins outs = built_leaves (template_of rules kind) args ins outs

-- the leaves of nodes of which the first one has this number
abbrev pub leaves_from : List StatedRule → List Edge → ℕ → List NodeEntry → List Leaf
leaves_from rules edges node [] = []
leaves_from rules edges node (entry ∷ nodes) =
    kind_leaves rules entry.kind (edges_to node edges) (edges_from node edges)
    ++ leaves_from rules edges (node + 1) nodes

-- ---- ports

-- a node's ports on these edges, of which the first one is that port
abbrev pub ports_on : List ℕ → ℕ → ℕ → List ℕ → List PlanPort
ports_on name node port [] = []
ports_on name node port (edge ∷ edges) =
    record { edge = edge; node = node; port = port; name = name } ∷ ports_on name node (port + 1) edges

-- the ports of a source, on the edges from it; none of another node
abbrev pub source_ports : List ℕ → ℕ → NodeKind → List Edge → List PlanPort
source_ports name node (Source ports ids emits) edges = ports_on name node 0 (edges_from node edges)
source_ports name node (Sink beat ports supports) edges = []
source_ports name node (Ruled kind args) edges = []

-- the ports of a sink, on the edges to it; none of another node
abbrev pub sink_ports : List ℕ → ℕ → NodeKind → List Edge → List PlanPort
sink_ports name node (Source ports ids emits) edges = []
sink_ports name node (Sink beat ports supports) edges = ports_on name node 0 (edges_to node edges)
sink_ports name node (Ruled kind args) edges = []

-- the ports of nodes of which the first one has this number
abbrev pub ports_from : (List ℕ → ℕ → NodeKind → List Edge → List PlanPort) → List Edge → ℕ → List NodeEntry
    → List PlanPort
ports_from ports edges node [] = []
ports_from ports edges node (entry ∷ nodes) =
    ports entry.name node entry.kind edges ++ ports_from ports edges (node + 1) nodes

-- ---- edges

-- an edge, by what goes down and up it: its slaves, as many ids as the end of the last range, and the bundle of these
abbrev pub plan_edge : DownPort → UpPort → PlanEdge
plan_edge down up =
    record {
      bundle = bundle up.slaves (largest_end down.masters) up.beat;
      slaves = up.slaves;
      ids = largest_end down.masters;
    }

-- edges, one by one
abbrev pub plan_edges : List DownPort → List UpPort → List PlanEdge
plan_edges [] ups = []
plan_edges (down ∷ downs) [] = []
plan_edges (down ∷ downs) (up ∷ ups) = plan_edge down up ∷ plan_edges downs ups

-- ---- all of it

-- the plan of a design with its edges and what goes down and up them: leaves and ports by node and then by port
abbrev pub plan_of : List StatedRule → Design → List Edge → Solution → Plan
plan_of rules design edges solution =
    record {
      name = design.name;
      policy = design.policy;
      leaves = leaves_from rules edges 0 design.nodes;
      edges = plan_edges solution.down solution.up;
      sources = ports_from source_ports edges 0 design.nodes;
      sinks = ports_from sink_ports edges 0 design.nodes;
    }

-- what an accepted design has: its edges, its only solution and its plan
abbrev pub accepted_of : List StatedRule → Design → Accepted
accepted_of rules design =
    record {
      edges = edges_in rules design;
      solution = solution_of rules design (edges_in rules design);
      plan = plan_of rules design (edges_in rules design) (solution_of rules design (edges_in rules design));
    }
