-- The map of a design: its name and edges, then for each port of a source, by node and then by port, the slaves that it
-- reaches, with the address sets of each and what it supports there.
use Rattle.std.specs.Prelude.{ℕ, ◌+◌, ◌==◌, List, [], ◌∷◌, ◌++◌, length, codes, decimal, cond}
use Rattle.std.specs.Prelude.{Option, Some, None, slice_get}
use Rattle.dip_text.specs.Numbers.{hexadecimal}
use Rattle.dip_sets.specs.Sets.{Pattern}
use Rattle.dip_sets.specs.SizeRanges.{SizeRange}
use Rattle.tl_params.specs.declared.ops.Ops.{Ops}
use Rattle.tl_params.specs.declared.ports.Slave.{Slave}
use Rattle.tl_params.specs.declared.ports.UpPort.{UpPort}
use Rattle.dip_graph.specs.declared.design.NodeKind.{NodeKind}
use Rattle.dip_graph.specs.declared.design.NodeKind.TheVariants.{Source, Sink, Ruled}
use Rattle.dip_graph.specs.declared.design.NodeEntry.{NodeEntry}
use Rattle.dip_graph.specs.declared.design.Design.{Design}
use Rattle.dip_graph.specs.declared.edges.Edge.{Edge}
use Rattle.dip_plan.specs.declared.accepted.Accepted.{Accepted}

-- a node's name, `?` where there is no such node
abbrev pub name_of : Option NodeEntry → List ℕ
name_of (Some node) = node.name
name_of None = codes "?"

-- a port of a node, as `ram.0`
unfoldable pub place_text : List NodeEntry → ℕ → ℕ → List ℕ
place_text nodes node port = name_of (slice_get nodes node) ++ codes "." ++ decimal port

-- ---- what a slave supports

-- the least and the greatest size of an operation, as ` get=1-8`; nothing where it has none
unfoldable pub sizes_text : List ℕ → SizeRange → List ℕ
sizes_text key sizes =
    cond (sizes.max == 0) [] (codes " " ++ key ++ codes "=" ++ decimal sizes.min ++ codes "-" ++ decimal sizes.max)

-- the sizes of each operation
unfoldable pub operations_text : Ops → List ℕ
operations_text ops =
    sizes_text (codes "get") ops.get ++ sizes_text (codes "put_full") ops.put_full
    ++ sizes_text (codes "put_partial") ops.put_partial ++ sizes_text (codes "arithmetic") ops.arithmetic
    ++ sizes_text (codes "logical") ops.logical ++ sizes_text (codes "intent") ops.intent

-- ---- the lines of a port

-- the base and the mask of an address set
unfoldable pub set_text : Pattern → List ℕ
set_text s = codes "  " ++ hexadecimal s.base ++ codes " " ++ hexadecimal s.mask ++ codes " "

-- the line of an address set of a slave
unfoldable pub set_line : List NodeEntry → Slave → Pattern → List ℕ
set_line nodes slave s =
    set_text s ++ place_text nodes slave.node slave.port ++ operations_text slave.supports ++ codes "\n"

-- a line for each of some sets of a slave
abbrev pub set_lines : List NodeEntry → Slave → List Pattern → List ℕ
set_lines nodes slave [] = []
set_lines nodes slave (s ∷ sets) = set_line nodes slave s ++ set_lines nodes slave sets

-- a line for each set of each slave
abbrev pub slave_lines : List NodeEntry → List Slave → List ℕ
slave_lines nodes [] = []
slave_lines nodes (slave ∷ slaves) = set_lines nodes slave slave.addresses ++ slave_lines nodes slaves

-- the line of an out port of a source with so many ids, whose bus has so many bytes
unfoldable pub port_line : List ℕ → ℕ → ℕ → ℕ → List ℕ
port_line name port ids beat =
    codes "port " ++ name ++ codes "." ++ decimal port ++ codes " ids " ++ decimal ids
    ++ codes " beat " ++ decimal beat ++ codes "\n"

-- the line of an edge's out port, and those of what it reaches
unfoldable pub port_lines : List NodeEntry → List ℕ → ℕ → Edge → UpPort → List ℕ
port_lines nodes name ids edge up = port_line name edge.from_port ids up.beat ++ slave_lines nodes up.slaves

-- the same where the edge comes from the node with this number, else nothing
unfoldable pub lines_if_from : List NodeEntry → ℕ → List ℕ → ℕ → Edge → UpPort → List ℕ
lines_if_from nodes number name ids edge up = cond (edge.from == number) (port_lines nodes name ids edge up) []

-- the lines of a source's out ports, which are numbered in the order of edges
abbrev pub node_lines : List NodeEntry → ℕ → List ℕ → ℕ → List Edge → List UpPort → List ℕ
node_lines nodes number name ids [] ups = []
node_lines nodes number name ids (edge ∷ edges) [] = []
node_lines nodes number name ids (edge ∷ edges) (up ∷ ups) =
    lines_if_from nodes number name ids edge up ++ node_lines nodes number name ids edges ups

-- the lines of a node with a name and a kind: those of its out ports where it is a source
abbrev pub kind_lines : List NodeEntry → ℕ → List ℕ → NodeKind → List Edge → List UpPort → List ℕ
kind_lines nodes number name (Source ports ids emits) edges ups = node_lines nodes number name ids edges ups
kind_lines nodes number name (Sink beat ports supports) edges ups = []
kind_lines nodes number name (Ruled kind args) edges ups = []

-- the lines of some nodes, of which the first one has this number
abbrev pub all_lines : List NodeEntry → ℕ → List NodeEntry → List Edge → List UpPort → List ℕ
all_lines nodes number [] edges ups = []
all_lines nodes number (node ∷ others) edges ups =
    kind_lines nodes number node.name node.kind edges ups ++ all_lines nodes (number + 1) others edges ups

-- the first line of a map
abbrev pub design_line : List ℕ → ℕ → List ℕ
design_line name edges = codes "design " ++ name ++ codes " edges " ++ decimal edges ++ codes "\n"

-- the whole map
unfoldable pub map_text : Design → Accepted → List ℕ
map_text design accepted =
    design_line design.name (length accepted.edges)
    ++ all_lines design.nodes 0 design.nodes accepted.edges accepted.solution.up
