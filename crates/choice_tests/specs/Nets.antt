-- The plan of the tests: edge 0 from the first source to the first sink, a crossbar from edges 1 and 2 to edge 3, and
-- one from edges 4, 5 and 6 to edges 7 and 8.
use Rattle.std.specs.Prelude.{ℕ, List, [], ◌∷◌}
use Rattle.tl_params.specs.declared.ops.Template.TheVariants.{Xbar}
use Rattle.tl_params.specs.declared.ports.Slave.{Slave}
use Rattle.tl_edge.specs.declared.bundle.Bundle.{Bundle}
use Rattle.tl_edge.specs.declared.plan.Leaf.{Leaf}
use Rattle.tl_edge.specs.declared.plan.PlanEdge.{PlanEdge}

-- the wires of an edge
abbrev pub net_wires : Bundle
net_wires = record { address_bits = 32; data_bytes = 8; source_bits = 3; size_bits = 3 }

-- an edge with so many ids
abbrev pub net_edge : ℕ → List Slave → PlanEdge
net_edge ids slaves = record { bundle = net_wires; slaves = slaves; ids = ids }

-- the edges, where these slaves are behind the outputs of the crossbars
abbrev pub net_edges : (ram low high : List Slave) → List PlanEdge
net_edges ram low high =
    net_edge 2 [] ∷ net_edge 2 [] ∷ net_edge 2 [] ∷ net_edge 4 ram ∷ net_edge 2 [] ∷ net_edge 2 [] ∷ net_edge 2 []
    ∷ net_edge 8 low ∷ net_edge 8 high ∷ []

-- a crossbar between some edges
abbrev pub crossbar_between : List ℕ → List ℕ → Leaf
crossbar_between ins outs = record { template = Xbar; ins = ins; outs = outs; args = [] }

-- both crossbars
abbrev pub both_crossbars : List Leaf
both_crossbars = crossbar_between (1 ∷ 2 ∷ []) (3 ∷ []) ∷ crossbar_between (4 ∷ 5 ∷ 6 ∷ []) (7 ∷ 8 ∷ []) ∷ []
