-- The edges that binds make, and why they make none.
use Rattle.std.specs.Prelude.{ℕ, zero, suc, ℤ, pos, nat_abs, ◌+◌, ◌≡◌, ◌==◌, ◌⊎◌, Bool, false, ◌||◌, ◌&&◌, not, cond}
use Rattle.std.specs.Prelude.{List, [], ◌∷◌, ◌++◌, length, count_by, Option, Some, None, is_none, int_lt, nat_lt}
use Rattle.std.specs.Ordering.{int_eq}
use Rattle.std.specs.List.{list_any}
use Rattle.dip_lists.specs.First.{first, places}
use Rattle.dip_graph.specs.Kinds.{ruled_kind_at}
use Rattle.dip_graph.specs.declared.design.NodeKind.{NodeKind}
use Rattle.dip_graph.specs.declared.design.NodeKind.TheVariants.{Source, Sink, Ruled}
use Rattle.dip_graph.specs.declared.design.NodeEntry.{NodeEntry}
use Rattle.dip_graph.specs.declared.design.BindEntry.{BindEntry}
use Rattle.dip_graph.specs.declared.design.Design.{Design}
use Rattle.dip_graph.specs.declared.edges.Edge.{Edge}
use Rattle.dip_rule.specs.Stated.{StatedRule, is_nexus_kind}
use Rattle.dip_stars.specs.declared.rounds.Counted.{Counted}
use Rattle.dip_stars.specs.declared.stars.StarFault.{StarFault}
use Rattle.dip_stars.specs.declared.stars.StarFault.TheVariants.{StarsWait, Arity, TooManyEdges, Memory}
use Rattle.dip_stars.specs.Rounds.{counts_of, decider, known_number, sum_to, sum_from}

-- the binds of a design, each with the number of its edges where it is known
abbrev pub design_counts : List StatedRule → Design → List Counted
design_counts rules design = counts_of rules design.nodes design.binds

-- ---- binds that are never known

-- the binds whose number isn't known
abbrev pub waiting : List Counted → List ℕ
waiting counts = places (λ number c. is_none c.number) 0 counts

-- ---- nodes whose binds don't sum up

-- the node is this one
abbrev pub is_node : ℕ → Option ℕ → Bool
is_node node None = false
is_node node (Some other) = other == node

-- the node decides a negative number
abbrev pub decides_negative : ℕ → Counted → Bool
decides_negative node c = is_node node (decider c.bind) && int_lt (known_number c) (pos 0)

-- a nexus needs an edge on either side, another ruled node as many edges on the one side as on the other, and at least
-- one
abbrev pub ruled_is_unfilled : Bool → ℤ → ℤ → Bool
ruled_is_unfilled nexus ins outs =
    cond nexus (int_lt ins (pos 1) || int_lt outs (pos 1)) (not (int_eq ins outs) || int_eq ins (pos 0))

-- a source needs an edge for each port, and so does a sink
abbrev pub kind_is_unfilled : List StatedRule → List NodeEntry → List Counted → ℕ → NodeKind → Bool
kind_is_unfilled rules nodes counts node (Source ports ids emits) = not (int_eq (sum_from node counts) (pos ports))
kind_is_unfilled rules nodes counts node (Sink beat ports supports) =
    not (int_eq (sum_to node counts) (pos (length ports)))
kind_is_unfilled rules nodes counts node (Ruled kind args) =
    ruled_is_unfilled (is_nexus_kind rules (ruled_kind_at nodes node)) (sum_to node counts) (sum_from node counts)

-- a node that decides a negative number, or whose binds don't sum up to what it needs
abbrev pub node_is_unfilled : List StatedRule → List NodeEntry → List Counted → ℕ → NodeEntry → Bool
node_is_unfilled rules nodes counts node entry =
    list_any (decides_negative node) counts || kind_is_unfilled rules nodes counts node entry.kind

-- those nodes
abbrev pub unfilled : List StatedRule → List NodeEntry → List Counted → List ℕ
unfilled rules nodes counts = places (node_is_unfilled rules nodes counts) 0 nodes

-- ---- too many edges

-- the most edges of a design
abbrev pub most_edges : ℕ
most_edges = 1024

-- how many edges a bind makes
abbrev pub copies : Counted → ℕ
copies c = nat_abs (known_number c)

-- how many edges all binds make
abbrev pub total : List Counted → ℕ
total [] = 0
total (c ∷ counts) = copies c + total counts

-- the count, where it is too large
abbrev pub excess : List Counted → List ℕ
excess counts = cond (nat_lt most_edges (total counts)) (total counts ∷ []) []

-- ---- the edges: each bind as often as its number says, in the order of binds

-- how many edges come from a node
abbrev pub outs : ℕ → List Edge → ℕ
outs node edges = count_by (λ edge. edge.from == node) edges

-- how many edges go to a node
abbrev pub ins : ℕ → List Edge → ℕ
ins node edges = count_by (λ edge. edge.to == node) edges

-- the edge of a bind behind others: a node's out ports and in ports are numbered in that order
abbrev pub edge_behind : List Edge → ℕ → BindEntry → Edge
edge_behind earlier number b =
    record {
      bind = number;
      from = b.from;
      from_port = outs b.from earlier;
      to = b.to;
      to_port = ins b.to earlier;
    }

-- earlier edges, and so many of a bind behind them
abbrev pub with_copies : ℕ → List Edge → ℕ → BindEntry → List Edge
with_copies zero earlier number b = earlier
with_copies (suc more) earlier number b =
    with_copies more (earlier ++ edge_behind earlier number b ∷ []) number b

-- the edges of binds that are numbered from a first one, behind others
abbrev pub edges_behind : List Edge → ℕ → List Counted → List Edge
edges_behind earlier number [] = earlier
edges_behind earlier number (c ∷ counts) =
    edges_behind (with_copies (copies c) earlier number c.bind) (number + 1) counts

-- the edges of all binds in order
abbrev pub edges_of : List Counted → List Edge
edges_of counts = edges_behind [] 0 counts

-- ---- answers

-- the fault names the least bind that waits, or is want of memory
abbrev pub IsWaiting : List Counted → StarFault → Type 0
IsWaiting counts (StarsWait bind) = first (waiting counts) ≡ Some bind
IsWaiting counts (Arity node) = ⊥
IsWaiting counts (TooManyEdges count) = ⊥
IsWaiting counts Memory = Unit {0}

-- the fault names the least node that fails, or is want of memory
abbrev pub IsUnfilled : List StatedRule → List NodeEntry → List Counted → StarFault → Type 0
IsUnfilled rules nodes counts (StarsWait bind) = ⊥
IsUnfilled rules nodes counts (Arity node) = first (unfilled rules nodes counts) ≡ Some node
IsUnfilled rules nodes counts (TooManyEdges count) = ⊥
IsUnfilled rules nodes counts Memory = Unit {0}

-- the fault says how many edges there are, which are too many, or is want of memory
abbrev pub IsExcess : List Counted → StarFault → Type 0
IsExcess counts (StarsWait bind) = ⊥
IsExcess counts (Arity node) = ⊥
IsExcess counts (TooManyEdges count) = first (excess counts) ≡ Some count
IsExcess counts Memory = Unit {0}

-- the first of the three that fails
abbrev pub IsStarFault : List StatedRule → List NodeEntry → List Counted → StarFault → Type 0
IsStarFault rules nodes counts fault =
    IsWaiting counts fault
    ⊎ ((first (waiting counts) ≡ None) × (IsUnfilled rules nodes counts fault
    ⊎ ((first (unfilled rules nodes counts) ≡ None) × IsExcess counts fault)))

-- no bind waits, no node fails, and there aren't too many edges
pub record AreResolved (rules : List StatedRule) (nodes : List NodeEntry) (counts : List Counted) : Type 0 where
  pub known : first (waiting counts) ≡ None
  pub filled : first (unfilled rules nodes counts) ≡ None
  pub few : first (excess counts) ≡ None
