-- The numbers of edges that binds make, by rounds: in each round a star is decided where it is the last bind of its
-- deciding node that isn't known.
use Rattle.std.specs.Prelude.{ℕ, zero, suc, ℤ, pos, ◌+ℤ◌, ◌-ℤ◌, ◌==◌, Bool, true, ◌||◌, ◌&&◌, cond}
use Rattle.std.specs.Prelude.{List, [], ◌∷◌, length, map, count_by, Option, Some, None, is_none, unwrap_or}
use Rattle.dip_graph.specs.Kinds.{kind_at, ruled_kind_at}
use Rattle.dip_graph.specs.declared.design.NodeKind.{NodeKind}
use Rattle.dip_graph.specs.declared.design.NodeKind.TheVariants.{Source, Sink, Ruled}
use Rattle.dip_graph.specs.declared.design.NodeEntry.{NodeEntry}
use Rattle.dip_graph.specs.declared.design.BindEntry.{BindEntry}
use Rattle.dip_graph.specs.declared.design.Star.{Star}
use Rattle.dip_graph.specs.declared.design.Star.TheVariants.{One, FromStar, ToStar}
use Rattle.dip_rule.specs.Stated.{StatedRule, is_nexus_kind}
use Rattle.dip_stars.specs.declared.rounds.Counted.{Counted}

-- the node that decides how many edges a bind with this star makes; one edge is decided by none
abbrev pub decider_of : Star → BindEntry → Option ℕ
decider_of One b = None
decider_of FromStar b = Some b.from
decider_of ToStar b = Some b.to

-- that of a bind with its own star
abbrev pub decider : BindEntry → Option ℕ
decider b = decider_of b.star b

-- ---- before any round

-- one edge where no node decides, or a nexus; else it isn't known yet
abbrev pub number_by : List StatedRule → List NodeEntry → Option ℕ → Option ℤ
number_by rules nodes None = Some (pos 1)
number_by rules nodes (Some node) = cond (is_nexus_kind rules (ruled_kind_at nodes node)) (Some (pos 1)) None

-- a bind before any round
abbrev pub first_count : List StatedRule → List NodeEntry → BindEntry → Counted
first_count rules nodes b = record { bind = b; number = number_by rules nodes (decider b) }

-- all binds before any round
abbrev pub first_counts : List StatedRule → List NodeEntry → List BindEntry → List Counted
first_counts rules nodes binds = map (first_count rules nodes) binds

-- ---- one round, from the counts of the round before

-- a bind of the node that isn't known
abbrev pub waits_at : ℕ → Counted → Bool
waits_at node c = is_none c.number && ((c.bind.to == node) || (c.bind.from == node))

-- how many of a node's binds aren't known
abbrev pub unknown_at : ℕ → List Counted → ℕ
unknown_at node counts = count_by (waits_at node) counts

-- how many edges a bind makes, 0 where that isn't known
abbrev pub known_number : Counted → ℤ
known_number c = unwrap_or c.number (pos 0)

-- how many edges go to a node by the binds that are known
abbrev pub sum_to : ℕ → List Counted → ℤ
sum_to node [] = pos 0
sum_to node (c ∷ counts) =
    cond (c.bind.to == node) (known_number c +ℤ sum_to node counts) (sum_to node counts)

-- how many edges come from a node by the binds that are known
abbrev pub sum_from : ℕ → List Counted → ℤ
sum_from node [] = pos 0
sum_from node (c ∷ counts) =
    cond (c.bind.from == node) (known_number c +ℤ sum_from node counts) (sum_from node counts)

-- what the binds from a node have to sum up to: the ports of a source, and what comes to another node
abbrev pub due_from : ℕ → Option NodeKind → List Counted → ℤ
due_from node (Some (Source ports ids emits)) counts = pos ports
due_from node (Some (Sink beat ports supports)) counts = pos 0
due_from node (Some (Ruled kind args)) counts = sum_to node counts
due_from node None counts = pos 0

-- what the binds to a node have to sum up to: the ports of a sink, and what comes from another node
abbrev pub due_to : ℕ → Option NodeKind → List Counted → ℤ
due_to node (Some (Source ports ids emits)) counts = pos 0
due_to node (Some (Sink beat ports supports)) counts = pos (length ports)
due_to node (Some (Ruled kind args)) counts = sum_from node counts
due_to node None counts = pos 0

-- what is left for a star at a node whose other binds are known
abbrev pub left_for : List NodeEntry → List Counted → Star → BindEntry → ℤ
left_for nodes counts One b = pos 1
left_for nodes counts FromStar b = due_from b.from (kind_at nodes b.from) counts -ℤ sum_from b.from counts
left_for nodes counts ToStar b = due_to b.to (kind_at nodes b.to) counts -ℤ sum_to b.to counts

-- where it is the only bind of its deciding node that isn't known
abbrev pub is_last : List Counted → Option ℕ → Bool
is_last counts None = true
is_last counts (Some node) = unknown_at node counts == 1

-- what is left for a star, where it is decided in this round
abbrev pub decided : List NodeEntry → List Counted → BindEntry → Option ℤ
decided nodes counts b = cond (is_last counts (decider b)) (Some (left_for nodes counts b.star b)) None

-- what is known stays
abbrev pub next_number : List NodeEntry → List Counted → BindEntry → Option ℤ → Option ℤ
next_number nodes counts b (Some number) = Some number
next_number nodes counts b None = decided nodes counts b

-- a bind after a round
abbrev pub next_count : List NodeEntry → List Counted → Counted → Counted
next_count nodes counts c = record { bind = c.bind; number = next_number nodes counts c.bind c.number }

-- all binds after a round
abbrev pub next_counts : List NodeEntry → List Counted → List Counted
next_counts nodes counts = map (next_count nodes counts) counts

-- ---- all rounds

-- the binds after so many rounds
abbrev pub after_rounds : List NodeEntry → ℕ → List Counted → List Counted
after_rounds nodes zero counts = counts
after_rounds nodes (suc rounds) counts = after_rounds nodes rounds (next_counts nodes counts)

-- the binds after as many rounds as there are binds
abbrev pub counts_of : List StatedRule → List NodeEntry → List BindEntry → List Counted
counts_of rules nodes binds = after_rounds nodes (length binds) (first_counts rules nodes binds)
