-- The ends of edges, which edges an edge's port is made of, and the order in which a pass takes edges.
use Rattle.std.specs.Prelude.{ℕ, ◌+◌, Bool, ◌&&◌, ◌||◌, ◌==◌, cond, List, [], ◌∷◌, ◌++◌}
use Rattle.dip_lists.specs.First.{places}
use Rattle.dip_graph.specs.Kinds.{ruled_kind_at}
use Rattle.dip_graph.specs.declared.design.NodeEntry.{NodeEntry}
use Rattle.dip_graph.specs.declared.edges.Edge.{Edge}
use Rattle.dip_rule.specs.Stated.{StatedRule, is_nexus_kind}
use Rattle.dip_negotiate.specs.declared.steps.End.{End}
use Rattle.dip_negotiate.specs.declared.steps.Step.{Step}

-- where an edge comes from
abbrev pub source_end : Edge → End
source_end edge = record { node = edge.from; port = edge.from_port }

-- where an edge goes to
abbrev pub sink_end : Edge → End
sink_end edge = record { node = edge.to; port = edge.to_port }

-- two ends at one node belong together where it is a nexus, or where they have the same port number
abbrev pub belongs : Bool → End → End → Bool
belongs nexus a b = (a.node == b.node) && (nexus || (a.port == b.port))

-- the numbers of the edges whose far ends belong to an end
abbrev pub joined_to : Bool → (Edge → End) → End → List Edge → List ℕ
joined_to nexus far own edges = places (λ number edge. belongs nexus own (far edge)) 0 edges

-- the edges of which the port of an edge is made: those that reach its near end's node, all of them at a nexus, else
-- those at the same port
abbrev pub asked : List StatedRule → List NodeEntry → List Edge → (Edge → End) → (Edge → End) → Edge → List ℕ
asked rules nodes edges near far edge =
    joined_to (is_nexus_kind rules (ruled_kind_at nodes (near edge).node)) far (near edge) edges

-- ---- the order of a pass

-- an edge with its number
abbrev pub step : ℕ → Edge → Step
step number edge = record { number = number; edge = edge }

-- the edges whose near ends are at a node, numbered from a first one
abbrev pub steps_at : (Edge → End) → ℕ → ℕ → List Edge → List Step
steps_at near node number [] = []
steps_at near node number (edge ∷ edges) =
    cond ((near edge).node == node)
    (step number edge ∷ steps_at near node (number + 1) edges)
    (steps_at near node (number + 1) edges)

-- going down: node by node in their order, each with the edges that leave it
abbrev pub steps_down : List ℕ → List Edge → List Step
steps_down [] edges = []
steps_down (node ∷ nodes) edges = steps_at source_end node 0 edges ++ steps_down nodes edges

-- going up: node by node in the reversed order, each with the edges that enter it
abbrev pub steps_up : List ℕ → List Edge → List Step
steps_up [] edges = []
steps_up (node ∷ nodes) edges = steps_up nodes edges ++ steps_at sink_end node 0 edges
