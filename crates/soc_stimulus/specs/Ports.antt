-- The ports that the tables of a stimulus file name, by the name of their node and their number at it.
use Rattle.std.specs.Prelude.{ℕ, ◌+◌, ◌==◌, ◌&&◌, List, [], ◌∷◌, codes, Bool, cond, map, position, Option, Some, None}
use Rattle.std.specs.Option.{option_and_then}
use Rattle.std.specs.Str.{bytes_eq}
use Rattle.toml.specs.Data.{Members}
use Rattle.tl_edge.specs.declared.plan.PlanPort.{PlanPort}
use Rattle.dip_graph.specs.declared.design.NodeEntry.{NodeEntry}
use Rattle.toml_shape.specs.Shapes.{name_under}

-- the names of a design's nodes by their numbers
abbrev pub names_of_nodes : List NodeEntry → List (List ℕ)
names_of_nodes nodes = map (λ (node : NodeEntry). node.name) nodes

-- the number of the node that a table names
abbrev pub named_node : List (List ℕ) → Members → Option ℕ
named_node names ms = option_and_then (λ name. position (bytes_eq name) names) (name_under (codes "node") ms)

-- a port of a plan is this one of this node
abbrev pub is_port_of : ℕ → ℕ → PlanPort → Bool
is_port_of node port at = at.node == node && at.port == port

-- the number of a node's port among the source ports or the sink ports of a plan, counted from a first one
abbrev pub port_from : ℕ → List PlanPort → ℕ → ℕ → Option ℕ
port_from number [] node port = None
port_from number (at ∷ ports) node port =
    cond (is_port_of node port at) (Some number) (port_from (number + 1) ports node port)

-- the number of a node's port among all of them: none where the node is of another kind, or hasn't so many ports
abbrev pub port_number : List PlanPort → ℕ → ℕ → Option ℕ
port_number ports node port = port_from 0 ports node port

-- the number of the port that a table names
abbrev pub named_port : List (List ℕ) → List PlanPort → ℕ → Members → Option ℕ
named_port names ports port ms = option_and_then (λ node. port_number ports node port) (named_node names ms)
