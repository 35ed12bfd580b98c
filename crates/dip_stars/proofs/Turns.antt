-- One round of those that are left.
use Rattle.std.proofs.Common.{◌≡◌, ℕ, zero, suc, ◌+◌, ◌-◌, ◌<◌, List, [], ◌∷◌, ◌++◌, length, map, refl, ap, ◌∙◌, arith}
use Rattle.dip_graph.specs.declared.design.NodeEntry.{NodeEntry}
use Rattle.dip_stars.specs.declared.rounds.Counted.{Counted}
use Rattle.dip_graph.specs.declared.design.BindEntry.{BindEntry}
use Rattle.dip_graph.specs.declared.edges.Edge.{Edge}
use Rattle.dip_rule.specs.Stated.{StatedRule}
use Rattle.std.proofs.lemmas.List.{length-map}
use Rattle.dip_stars.specs.Rounds.{after_rounds, next_count, next_counts, first_count, counts_of}
use Rattle.dip_stars.specs.Edges.{edge_behind, with_copies}

round_left : (n i : ℕ) → i < n → n - i ≡ suc (n - (i + 1))
round_left n i h = omega arith

pub one_more : (nodes : List NodeEntry) (n i : ℕ) (counts : List Counted) → i < n → after_rounds nodes (n - (i + 1)) (next_counts nodes counts) ≡ after_rounds nodes (n - i) counts
one_more nodes n i counts h = rw (round_left n i h) refl

pub still : (nodes : List NodeEntry) (rounds : ℕ) (counts : List Counted) → next_counts nodes counts ≡ counts → after_rounds nodes rounds counts ≡ counts
still nodes zero counts h = refl
still nodes (suc rounds) counts h = ap (after_rounds nodes rounds) h ∙ still nodes rounds counts h

pub one_copy : (edges : List Edge) (number : ℕ) (b : BindEntry) (n i : ℕ) → i < n
    → with_copies (n - (i + 1)) (edges ++ edge_behind edges number b ∷ []) number b ≡ with_copies (n - i) edges number b
one_copy edges number b n i h = rw (round_left n i h) refl

rounds_long : (nodes : List NodeEntry) (rounds : ℕ) (counts : List Counted) → length (after_rounds nodes rounds counts) ≡ length counts
rounds_long nodes zero counts = refl
rounds_long nodes (suc rounds) counts = rounds_long nodes rounds (next_counts nodes counts) ∙ length-map counts (next_count nodes counts)

pub counts_long : (rules : List StatedRule) (nodes : List NodeEntry) (binds : List BindEntry) → length (counts_of rules nodes binds) ≡ length binds
counts_long rules nodes binds = rounds_long nodes (length binds) (map (first_count rules nodes) binds) ∙ length-map binds (first_count rules nodes)
