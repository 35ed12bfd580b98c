-- The parts of a plan as they are built in a few passes, none of which looks for a node's edges: from the edges of each
-- node, by the numbers of nodes. Only functions that aren't public cite what stands here.
use Rattle.std.specs.Prelude.{ℕ, ◌+◌, List, [], ◌∷◌, ◌++◌, zero, suc}
use Rattle.tl_edge.specs.declared.plan.Leaf.{Leaf}
use Rattle.tl_edge.specs.declared.plan.PlanPort.{PlanPort}
use Rattle.dip_graph.specs.declared.design.NodeKind.{NodeKind}
use Rattle.dip_graph.specs.declared.design.NodeKind.TheVariants.{Source, Sink, Ruled}
use Rattle.dip_graph.specs.declared.design.NodeEntry.{NodeEntry}
use Rattle.dip_graph.specs.declared.edges.Edge.{Edge}
use Rattle.dip_rule.specs.Stated.{StatedRule}
use Rattle.dip_graph.specs.Edges.{edges_to, edges_from}
use Rattle.dip_plan.specs.DesignPlans.{kind_leaves, ports_on}

-- the edges to each of so many nodes from one on
abbrev pub each_to : List Edge → ℕ → ℕ → List (List ℕ)
each_to edges node zero = []
each_to edges node (suc more) = edges_to node edges ∷ each_to edges (node + 1) more

-- the edges from each of so many nodes from one on
abbrev pub each_from : List Edge → ℕ → ℕ → List (List ℕ)
each_from edges node zero = []
each_from edges node (suc more) = edges_from node edges ∷ each_from edges (node + 1) more

-- the leaves of nodes that have these edges
abbrev pub leaves_by : List StatedRule → List NodeEntry → List (List ℕ) → List (List ℕ) → List Leaf
leaves_by rules [] ins outs = []
leaves_by rules (entry ∷ nodes) [] outs = []
leaves_by rules (entry ∷ nodes) (i ∷ ins) [] = []
leaves_by rules (entry ∷ nodes) (i ∷ ins) (o ∷ outs) =
    kind_leaves rules entry.kind i o ++ leaves_by rules nodes ins outs

-- the ports of a source that has these edges, none of another node
abbrev pub source_on : List ℕ → ℕ → NodeKind → List ℕ → List PlanPort
source_on name node (Source ports ids emits) edges = ports_on name node 0 edges
source_on name node (Sink beat ports supports) edges = []
source_on name node (Ruled kind args) edges = []

-- the ports of a sink that has these edges, none of another node
abbrev pub sink_on : List ℕ → ℕ → NodeKind → List ℕ → List PlanPort
sink_on name node (Source ports ids emits) edges = []
sink_on name node (Sink beat ports supports) edges = ports_on name node 0 edges
sink_on name node (Ruled kind args) edges = []

-- the ports of the sources among nodes that have these edges, the first of which has this number
abbrev pub sources_by : ℕ → List NodeEntry → List (List ℕ) → List PlanPort
sources_by node [] lists = []
sources_by node (entry ∷ nodes) [] = []
sources_by node (entry ∷ nodes) (edges ∷ lists) =
    source_on entry.name node entry.kind edges ++ sources_by (node + 1) nodes lists

-- the same of the sinks
abbrev pub sinks_by : ℕ → List NodeEntry → List (List ℕ) → List PlanPort
sinks_by node [] lists = []
sinks_by node (entry ∷ nodes) [] = []
sinks_by node (entry ∷ nodes) (edges ∷ lists) =
    sink_on entry.name node entry.kind edges ++ sinks_by (node + 1) nodes lists
