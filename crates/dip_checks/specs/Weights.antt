-- The weight of a design, which bounds how large its network is.
use Rattle.std.specs.Prelude.{ℕ, ◌+◌, ◌*◌, ◌/◌, List, [], ◌∷◌, length, Option, Some, None, unwrap_or, slice_get}
use Rattle.tl_params.specs.Owners.{largest_end}
use Rattle.tl_params.specs.declared.ops.Template.{Template}
use Rattle.tl_params.specs.declared.ops.Template.TheVariants.{Buffer, Width, Fragmenter, Shrinker, Xbar}
use Rattle.tl_params.specs.declared.ports.Slave.{Slave}
use Rattle.tl_params.specs.declared.ports.DownPort.{DownPort}
use Rattle.tl_params.specs.declared.ports.UpPort.{UpPort}
use Rattle.dip_graph.specs.Edges.{edges_to, edges_from}
use Rattle.dip_graph.specs.declared.design.NodeKind.{NodeKind}
use Rattle.dip_graph.specs.declared.design.NodeKind.TheVariants.{Source, Sink, Ruled}
use Rattle.dip_graph.specs.declared.design.NodeEntry.{NodeEntry}
use Rattle.dip_graph.specs.declared.edges.Edge.{Edge}
use Rattle.dip_rule.specs.Stated.{StatedRule, template_of}
use Rattle.tl_rules.specs.Fits.{port_down, port_up}

-- a width adapter keeps an entry for each id that enters it
abbrev pub width_weight : List DownPort → List ℕ → ℕ
width_weight downs [] = 0
width_weight downs (edge ∷ edges) = 4 + largest_end (port_down downs edge).masters + width_weight downs edges

-- a fragmenter keeps the beats of a whole transfer
abbrev pub fragmenter_weight : List UpPort → List ℕ → ℕ
fragmenter_weight ups [] = 0
fragmenter_weight ups (edge ∷ edges) = 4 + 256 / (port_up ups edge).beat + fragmenter_weight ups edges

-- how many address sets slaves have
abbrev pub set_count : List Slave → ℕ
set_count [] = 0
set_count (slave ∷ slaves) = length slave.addresses + set_count slaves

-- how many are shown on these edges together
abbrev pub all_sets : List UpPort → List ℕ → ℕ
all_sets ups [] = 0
all_sets ups (edge ∷ edges) = set_count (port_up ups edge).slaves + all_sets ups edges

-- what a template weighs between these edges; n is its first argument
abbrev pub template_weight : Template → ℕ → List ℕ → List ℕ → List DownPort → List UpPort → ℕ
template_weight Buffer n ins outs downs ups = length outs
template_weight Width n ins outs downs ups = width_weight downs ins
template_weight Fragmenter n ins outs downs ups = fragmenter_weight ups outs
template_weight Shrinker n ins outs downs ups = length outs * (4 + 2 * n)
template_weight Xbar n ins outs downs ups = length ins * (4 * length outs + all_sets ups outs)

-- the first argument, 0 where there is none
abbrev pub first_argument : List ℕ → ℕ
first_argument args = unwrap_or (slice_get args 0) 0

-- the weight of what is built for a node, if anything is
abbrev pub built_weight : Option Template → List ℕ → ℕ → List Edge → List DownPort → List UpPort → ℕ
built_weight None args node edges downs ups = 0
built_weight (Some template) args node edges downs ups =
    template_weight template (first_argument args) (edges_to node edges) (edges_from node edges) downs ups

-- the weight of a node of this kind; sources and sinks weigh nothing
abbrev pub kind_weight : List StatedRule → ℕ → NodeKind → List Edge → List DownPort → List UpPort → ℕ
kind_weight rules node (Source ports ids emits) edges downs ups = 0
kind_weight rules node (Sink beat ports supports) edges downs ups = 0
kind_weight rules node (Ruled kind args) edges downs ups =
    built_weight (template_of rules kind) args node edges downs ups

-- the weight of all nodes, which are numbered from a first one
abbrev pub node_weights : List StatedRule → ℕ → List NodeEntry → List Edge → List DownPort → List UpPort → ℕ
node_weights rules node [] edges downs ups = 0
node_weights rules node (entry ∷ nodes) edges downs ups =
    kind_weight rules node entry.kind edges downs ups
    + node_weights rules (node + 1) nodes edges downs ups

-- 8 for each edge, and what is built for the nodes
abbrev pub weight : List StatedRule → List NodeEntry → List Edge → List DownPort → List UpPort → ℕ
weight rules nodes edges downs ups = 8 * length edges + node_weights rules 0 nodes edges downs ups
