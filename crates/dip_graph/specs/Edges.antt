-- The edges that binds make: which nodes they join, and which edges a node has.
use Rattle.std.specs.Prelude.{ℕ, ◌≡◌, ◌<◌, ◌==◌, Bool, ◌||◌, List, length, Some, slice_get}
use Rattle.dip_lists.specs.First.{places}
use Rattle.dip_graph.specs.declared.design.NodeEntry.{NodeEntry}
use Rattle.dip_graph.specs.declared.design.BindEntry.{BindEntry}
use Rattle.dip_graph.specs.declared.edges.Edge.{Edge}
use Rattle.dip_graph.specs.declared.edges.Ends.{Ends}
use Rattle.dip_graph.specs.declared.edges.Ends.TheVariants.{To, From, Either}

-- a bind's nodes exist
abbrev pub HasNodes : List NodeEntry → BindEntry → Type 0
HasNodes nodes b = (b.to < length nodes) × (b.from < length nodes)

-- an edge joins the nodes of its bind
pub record FollowsBind (binds : List BindEntry) (edge : Edge) : Type 0 where
  pub made_by : BindEntry
  pub is : slice_get binds edge.bind ≡ Some made_by
  pub from : edge.from ≡ made_by.from
  pub to : edge.to ≡ made_by.to

-- the numbers of the edges to a node
abbrev pub edges_to : ℕ → List Edge → List ℕ
edges_to node edges = places (λ number edge. edge.to == node) 0 edges

-- the numbers of the edges from a node
abbrev pub edges_from : ℕ → List Edge → List ℕ
edges_from node edges = places (λ number edge. edge.from == node) 0 edges

-- the numbers of the edges to a node and from it
abbrev pub edges_at : ℕ → List Edge → List ℕ
edges_at node edges = places (λ number edge. (edge.to == node) || (edge.from == node)) 0 edges

-- whether one of these ends of an edge is at a node
abbrev pub is_at : Ends → ℕ → Edge → Bool
is_at To node edge = edge.to == node
is_at From node edge = edge.from == node
is_at Either node edge = (edge.to == node) || (edge.from == node)
