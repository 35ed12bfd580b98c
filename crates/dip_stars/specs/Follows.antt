-- The edges that binds make join the nodes of these binds, each at the next ports of its nodes.
use Rattle.std.specs.Prelude.{◌≡◌, List, [], ◌∷◌, ◌++◌, All}
use Rattle.dip_graph.specs.Edges.{FollowsBind}
use Rattle.dip_graph.specs.declared.design.Design.{Design}
use Rattle.dip_graph.specs.declared.edges.Edge.{Edge}
use Rattle.dip_rule.specs.Stated.{StatedRule}
use Rattle.dip_stars.specs.Edges.{design_counts, edges_of, outs, ins}

-- each edge joins the nodes of its bind
abbrev pub EachFollowsItsBind : Type 0
EachFollowsItsBind =
    (rules : List StatedRule) (design : Design) → All (FollowsBind design.binds) (edges_of (design_counts rules design))

-- behind earlier edges, each of these comes from the next out port of its node and goes to the next in port of its node
abbrev pub AreNumbered : List Edge → List Edge → Type 0
AreNumbered earlier [] = Unit {0}
AreNumbered earlier (edge ∷ edges) =
    (edge.from_port ≡ outs edge.from earlier)
    × (edge.to_port ≡ ins edge.to earlier)
    × AreNumbered (earlier ++ edge ∷ []) edges

-- so are the edges of every design
abbrev pub EachTakesTheNextPorts : Type 0
EachTakesTheNextPorts =
    (rules : List StatedRule) (design : Design) → AreNumbered [] (edges_of (design_counts rules design))
