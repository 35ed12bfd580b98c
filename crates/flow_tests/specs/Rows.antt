-- The plan of the tests: edge 0 from the first source to the first sink, a buffer from edge 1 to edge 2, and a crossbar
-- from edges 3 and 4 to edges 5 and 6.
use Rattle.std.specs.Prelude.{ℕ, List, [], ◌∷◌}
use Rattle.tl_params.specs.declared.ops.Template.TheVariants.{Buffer, Xbar}
use Rattle.tl_params.specs.declared.ports.Slave.{Slave}
use Rattle.tl_edge.specs.declared.bundle.Bundle.{Bundle}
use Rattle.tl_edge.specs.declared.plan.Leaf.{Leaf}
use Rattle.tl_edge.specs.declared.plan.PlanEdge.{PlanEdge}

-- the wires of an edge
abbrev pub row_wires : Bundle
row_wires = record { address_bits = 32; data_bytes = 8; source_bits = 2; size_bits = 3 }

-- an edge with so many ids
abbrev pub edge_with : ℕ → List Slave → PlanEdge
edge_with ids slaves = record { bundle = row_wires; slaves = slaves; ids = ids }

-- the edges, where these slaves are behind the outputs of the crossbar
abbrev pub edges_with : List Slave → List Slave → List PlanEdge
edges_with low high =
    edge_with 2 [] ∷ edge_with 2 [] ∷ edge_with 2 [] ∷ edge_with 2 [] ∷ edge_with 2 []
    ∷ edge_with 4 low ∷ edge_with 4 high ∷ []

-- the buffer
abbrev pub the_buffer : Leaf
the_buffer = record { template = Buffer; ins = 1 ∷ []; outs = 2 ∷ []; args = [] }

-- the crossbar
abbrev pub the_crossbar : Leaf
the_crossbar = record { template = Xbar; ins = 3 ∷ 4 ∷ []; outs = 5 ∷ 6 ∷ []; args = [] }

-- both
abbrev pub both_leaves : List Leaf
both_leaves = the_buffer ∷ the_crossbar ∷ []
