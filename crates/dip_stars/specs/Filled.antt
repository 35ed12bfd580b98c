-- Where all stars are resolved each node has the edges that it needs, and its ports are numbered in their order.
use Rattle.std.specs.Prelude.{ℕ, ◌≡◌, ◌≤◌, Bool, true, false, List, length, take, All, Some, None, slice_get}
use Rattle.dip_lists.specs.First.{first}
use Rattle.dip_graph.specs.Edges.{HasNodes, edges_from, edges_to}
use Rattle.dip_graph.specs.declared.design.NodeKind.{NodeKind}
use Rattle.dip_graph.specs.declared.design.NodeKind.TheVariants.{Source, Sink, Ruled}
use Rattle.dip_graph.specs.declared.design.NodeEntry.{NodeEntry}
use Rattle.dip_graph.specs.declared.design.Design.{Design}
use Rattle.dip_graph.specs.declared.edges.Edge.{Edge}
use Rattle.dip_rule.specs.Stated.{StatedRule, is_nexus_kind}
use Rattle.dip_stars.specs.Edges.{design_counts, edges_of, unfilled}

-- a ruled node has an edge on each side; an adapter, which isn't a nexus, has as many in as out
abbrev pub HasBothSides : Bool → ℕ → ℕ → Type 0
HasBothSides true ins outs = (1 ≤ ins) × (1 ≤ outs)
HasBothSides false ins outs = (ins ≡ outs) × (1 ≤ ins)

-- a source has an edge for each port, and so has a sink
abbrev pub HasItsEdges : List StatedRule → List Edge → ℕ → NodeKind → Type 0
HasItsEdges rules edges node (Source ports ids emits) = length (edges_from node edges) ≡ ports
HasItsEdges rules edges node (Sink beat ports supports) = length (edges_to node edges) ≡ length ports
HasItsEdges rules edges node (Ruled kind args) =
    HasBothSides (is_nexus_kind rules (Some kind)) (length (edges_to node edges)) (length (edges_from node edges))

-- so has each node of a design none of whose nodes fails
abbrev pub EachHasItsEdges : Type 0
EachHasItsEdges =
    (rules : List StatedRule) (design : Design) → All (HasNodes design.nodes) design.binds
    → first (unfilled rules design.nodes (design_counts rules design)) ≡ None
    → (node : ℕ) (entry : NodeEntry) → slice_get design.nodes node ≡ Some entry
    → HasItsEdges rules (edges_of (design_counts rules design)) node entry.kind

-- the ports of an edge say how many edges of the same nodes stand before it
pub record HasItsPorts (edges : List Edge) (number : ℕ) (edge : Edge) : Type 0 where
  pub from : edge.from_port ≡ length (edges_from edge.from (take number edges))
  pub to : edge.to_port ≡ length (edges_to edge.to (take number edges))

-- so do those of each edge of a design
abbrev pub EachHasItsPorts : Type 0
EachHasItsPorts =
    (rules : List StatedRule) (design : Design) (number : ℕ) (edge : Edge)
    → slice_get (edges_of (design_counts rules design)) number ≡ Some edge
    → HasItsPorts (edges_of (design_counts rules design)) number edge
