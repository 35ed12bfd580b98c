-- The checks of designs after those of their files.
use Rattle.std.specs.Prelude.{ℕ, ◌==◌, List, [], ◌∷◌, ◌++◌, length, Bool, false, ◌||◌, ◌&&◌, not, cond, nat_lt, nat_le}
use Rattle.std.specs.Prelude.{Option, Some, None, is_none, Result, Ok, Err}
use Rattle.std.specs.List.{list_any}
use Rattle.std.specs.Option.{option_map_or}
use Rattle.dip_lists.specs.First.{Check, check, places}
use Rattle.dip_sets.specs.Sets.{Pattern, overlap, alignment}
use Rattle.dip_sets.specs.Ids.{overlap_ids}
use Rattle.tl_params.specs.declared.ops.Template.{Template}
use Rattle.tl_params.specs.declared.ports.Master.{Master}
use Rattle.tl_params.specs.declared.ports.Slave.{Slave}
use Rattle.tl_params.specs.declared.ports.DownPort.{DownPort}
use Rattle.tl_params.specs.declared.ports.UpPort.{UpPort}
use Rattle.tl_params.specs.Operations.{largest}
use Rattle.tl_params.specs.Owners.{sets_of}
use Rattle.dip_graph.specs.Edges.{edges_to, edges_from, edges_at}
use Rattle.dip_graph.specs.Kinds.{kind_at, is_source, is_sink, ruled_kind_at}
use Rattle.dip_graph.specs.Orders.{left_out}
use Rattle.dip_graph.specs.declared.design.NodeKind.{NodeKind}
use Rattle.dip_graph.specs.declared.design.NodeKind.TheVariants.{Source, Sink, Ruled}
use Rattle.dip_graph.specs.declared.design.NodeEntry.{NodeEntry}
use Rattle.dip_graph.specs.declared.design.BindEntry.{BindEntry}
use Rattle.dip_graph.specs.declared.design.Design.{Design}
use Rattle.dip_graph.specs.declared.edges.Edge.{Edge}
use Rattle.dip_rule.specs.Stated.{StatedRule, template_of, is_nexus_kind}
use Rattle.dip_negotiate.specs.Passes.{Refusal}
use Rattle.dip_negotiate.specs.declared.solution.Solution.{Solution}
use Rattle.dip_negotiate.specs.Negotiation.{downs, ups}
use Rattle.dip_stars.specs.Edges.{design_counts, waiting, unfilled, excess, edges_of}
use Rattle.tl_rules.specs.Fits.{fits, port_up}
use Rattle.dip_checks.specs.declared.agreed.Agreed.{Agreed}
use Rattle.dip_checks.specs.Weights.{weight}

-- ---- check 5: a node whose kind has no rule

-- the kind of a node has no rule
abbrev pub kind_is_unruled : List StatedRule → NodeKind → Bool
kind_is_unruled rules (Source ports ids emits) = false
kind_is_unruled rules (Sink beat ports supports) = false
kind_is_unruled rules (Ruled kind args) = is_none (template_of rules kind)

-- the nodes for which that is so
abbrev pub unruled_nodes : List StatedRule → Design → List ℕ
unruled_nodes rules design = places (λ number node. kind_is_unruled rules node.kind) 0 design.nodes

-- ---- check 6: a bind from a sink or to a source

-- the bind is from a sink or to a source
abbrev pub bind_is_turned : List NodeEntry → BindEntry → Bool
bind_is_turned nodes b =
    option_map_or is_sink (kind_at nodes b.from) false || option_map_or is_source (kind_at nodes b.to) false

-- the binds for which that is so
abbrev pub turned_binds : Design → List ℕ
turned_binds design = places (λ number b. bind_is_turned design.nodes b) 0 design.binds

-- ---- checks 7 to 10: a cycle of binds, stars that wait on each other, binds of a node that don't sum up, too many
-- edges

-- the edges that the binds of a design make
abbrev pub edges_in : List StatedRule → Design → List Edge
edges_in rules design = edges_of (design_counts rules design)

-- the checks 8 to 10
abbrev pub star_checks : List StatedRule → Design → List Check
star_checks rules design =
    check 8 (waiting (design_counts rules design))
    ∷ check 9 (unfilled rules design.nodes (design_counts rules design))
    ∷ check 10 (excess (design_counts rules design))
    ∷ []

-- the checks 5 to 10
abbrev pub graph_checks : List StatedRule → Design → List Check
graph_checks rules design =
    check 5 (unruled_nodes rules design)
    ∷ check 6 (turned_binds design)
    ∷ check 7 (left_out design)
    ∷ star_checks rules design

-- ---- checks 11 and 12: the node whose rule is the first to refuse, down in canonical order and then up in the
-- reversed order

-- the node of a pass that refused, of its refused edge
abbrev pub refusing : {P : Type 0} → (Edge → ℕ) → Result (List P) Refusal → List ℕ
refusing node (Ok ports) = []
refusing node (Err refused) = node refused.edge ∷ []

-- the checks 11 and 12
abbrev pub rule_checks : List StatedRule → Design → List Edge → List Check
rule_checks rules design edges =
    check 11 (refusing (λ edge. edge.from) (downs rules design edges))
    ∷ check 12 (refusing (λ edge. edge.to) (ups rules design edges))
    ∷ []

-- ---- check 13: an edge without masters, or with ids that are none, too large, or another master's

-- the most ids of an edge
abbrev pub most_ids : ℕ
most_ids = 1024

-- a master without ids, or with too large ones
abbrev pub has_wrong_ids : Master → Bool
has_wrong_ids m = nat_le m.ids.end m.ids.start || nat_lt most_ids m.ids.end

-- two masters have an id in common
abbrev pub share_ids : List Master → Bool
share_ids [] = false
share_ids (m ∷ masters) = list_any (λ other. overlap_ids m.ids other.ids) masters || share_ids masters

-- the masters of an edge fail the check
abbrev pub masters_are_wrong : List Master → Bool
masters_are_wrong masters = (length masters == 0) || list_any has_wrong_ids masters || share_ids masters

-- the edges for which that is so
abbrev pub wrong_edges : List DownPort → List ℕ
wrong_edges downs = places (λ number down. masters_are_wrong down.masters) 0 downs

-- ---- check 14: two address sets of one edge have a common address

-- two sets have a common address
abbrev pub has_overlap : List Pattern → Bool
has_overlap [] = false
has_overlap (s ∷ sets) = list_any (overlap s) sets || has_overlap sets

-- a set and the next one have a common address
abbrev pub neighbours_overlap : List Pattern → Bool
neighbours_overlap [] = false
neighbours_overlap (s ∷ []) = false
neighbours_overlap (s ∷ t ∷ sets) = overlap s t || neighbours_overlap (t ∷ sets)

-- two sets of the edge have one
abbrev pub edge_overlaps : UpPort → Bool
edge_overlaps up = has_overlap (sets_of up.slaves)

-- the edges for which that is so
abbrev pub overlapping_edges : List UpPort → List ℕ
overlapping_edges ups = places (λ number up. edge_overlaps up) 0 ups

-- ---- check 15: a set whose alignment is below its slave's largest transfer

-- a slave has such a set
abbrev pub slave_is_misaligned : Slave → Bool
slave_is_misaligned slave = list_any (λ s. nat_lt (alignment s) (largest slave.supports)) slave.addresses

-- a slave of the edge has one
abbrev pub edge_is_misaligned : UpPort → Bool
edge_is_misaligned up = list_any slave_is_misaligned up.slaves

-- the edges for which that is so
abbrev pub misaligned_edges : List UpPort → List ℕ
misaligned_edges ups = places (λ number up. edge_is_misaligned up) 0 ups

-- the checks 13 to 15
abbrev pub edge_checks : List DownPort → List UpPort → List Check
edge_checks downs ups =
    check 13 (wrong_edges downs) ∷ check 14 (overlapping_edges ups) ∷ check 15 (misaligned_edges ups) ∷ []

-- ---- check 16: a nexus whose edges haven't all the same width of the bus

-- the width of the bus of an edge
abbrev pub beat_at : List UpPort → ℕ → ℕ
beat_at ups edge = (port_up ups edge).beat

-- one of the edges has another width than the first
abbrev pub beats_differ : List UpPort → List ℕ → Bool
beats_differ ups [] = false
beats_differ ups (edge ∷ others) =
    list_any (λ other. not (beat_at ups other == beat_at ups edge)) others

-- the node is such a nexus
abbrev pub nexus_differs : List StatedRule → List NodeEntry → List Edge → List UpPort → ℕ → Bool
nexus_differs rules nodes edges ups node =
    is_nexus_kind rules (ruled_kind_at nodes node) && beats_differ ups (edges_at node edges)

-- the nodes for which that is so
abbrev pub differing_nodes : List StatedRule → List NodeEntry → List Edge → List UpPort → List ℕ
differing_nodes rules nodes edges ups =
    places (λ node entry. nexus_differs rules nodes edges ups node) 0 nodes

-- ---- check 17: what is built for a node doesn't fit its ports

-- the template of a node, if it has one, doesn't fit the ports of its edges
abbrev pub template_misfits : Option Template → List ℕ → ℕ → List Edge → List DownPort → List UpPort → Bool
template_misfits None args node edges downs ups = false
template_misfits (Some template) args node edges downs ups =
    not (fits template args (edges_to node edges) (edges_from node edges) downs ups)

-- what is built for a node of this kind doesn't fit; nothing is built for sources and sinks
abbrev pub kind_misfits : List StatedRule → ℕ → NodeKind → List Edge → List DownPort → List UpPort → Bool
kind_misfits rules node (Source ports ids emits) edges downs ups = false
kind_misfits rules node (Sink beat ports supports) edges downs ups = false
kind_misfits rules node (Ruled kind args) edges downs ups =
    template_misfits (template_of rules kind) args node edges downs ups

-- the nodes for which that is so
abbrev pub misfitting_nodes : List StatedRule → List NodeEntry → List Edge → List DownPort → List UpPort → List ℕ
misfitting_nodes rules nodes edges downs ups =
    places (λ node entry. kind_misfits rules node entry.kind edges downs ups) 0 nodes

-- ---- check 18: the weight is too large

-- the most weight of a design
abbrev pub most_weight : ℕ
most_weight = 65536

-- the weight, where it is too large
abbrev pub overweight : ℕ → List ℕ
overweight heavy = cond (nat_lt most_weight heavy) (heavy ∷ []) []

-- the checks 16 to 18
abbrev pub fit_checks : List StatedRule → List NodeEntry → List Edge → List DownPort → List UpPort → List Check
fit_checks rules nodes edges downs ups =
    check 16 (differing_nodes rules nodes edges ups)
    ∷ check 17 (misfitting_nodes rules nodes edges downs ups)
    ∷ check 18 (overweight (weight rules nodes edges downs ups))
    ∷ []

-- ---- all of them

-- the ports of all edges, none where a rule refuses
abbrev pub ports_of : {P : Type 0} → Result (List P) Refusal → List P
ports_of (Ok ports) = ports
ports_of (Err refused) = []

-- what goes down and up all edges
abbrev pub solution_of : List StatedRule → Design → List Edge → Solution
solution_of rules design edges =
    record { down = ports_of (downs rules design edges); up = ports_of (ups rules design edges) }

-- the checks 11 to 18 of a design with these edges
abbrev pub port_checks : List StatedRule → Design → List Edge → List Check
port_checks rules design edges =
    rule_checks rules design edges
    ++ edge_checks (solution_of rules design edges).down (solution_of rules design edges).up
    ++ fit_checks rules design.nodes edges (solution_of rules design edges).down (solution_of rules design edges).up

-- the checks 5 to 18
unfoldable pub design_checks : List StatedRule → Design → List Check
design_checks rules design = graph_checks rules design ++ port_checks rules design (edges_in rules design)

-- what a design agrees on where its checks pass
abbrev pub agreed_of : List StatedRule → Design → Agreed
agreed_of rules design =
    record { edges = edges_in rules design; solution = solution_of rules design (edges_in rules design) }
