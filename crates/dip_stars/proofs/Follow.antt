-- The edges that binds make join the nodes of these binds.
use Rattle.std.proofs.Common.{◌≡◌, ℕ, zero, suc, ◌+◌, List, [], ◌∷◌, ◌++◌, length, map, Some, refl, sym, ap, ◌∙◌, arith}
use Rattle.std.specs.Prelude.{slice_get, All}
use Rattle.std.proofs.lemmas.List.Elements.{All-push}
use Rattle.dip_graph.specs.declared.design.NodeEntry.{NodeEntry}
use Rattle.dip_graph.specs.declared.design.BindEntry.{BindEntry}
use Rattle.dip_graph.specs.declared.edges.Edge.{Edge}
use Rattle.dip_rule.specs.Stated.{StatedRule}
use Rattle.dip_graph.specs.Edges.{FollowsBind}
use Rattle.dip_stars.specs.declared.rounds.Counted.{Counted}
use Rattle.dip_stars.specs.Rounds.{first_counts, next_count, next_counts, after_rounds, counts_of}
use Rattle.dip_stars.specs.Edges.{copies, edge_behind, with_copies, edges_behind, design_counts}
use Rattle.dip_stars.specs.Follows.{EachFollowsItsBind}

abbrev binds_in : List Counted → List BindEntry
binds_in [] = []
binds_in (c ∷ counts) = c.bind ∷ binds_in counts

first_binds : (rules : List StatedRule) (nodes : List NodeEntry) (binds : List BindEntry) → binds_in (first_counts rules nodes binds) ≡ binds
first_binds rules nodes [] = refl
first_binds rules nodes (b ∷ binds) = ap (λ bs. b ∷ bs) (first_binds rules nodes binds)

next_binds : (nodes : List NodeEntry) (all counts : List Counted) → binds_in (map (next_count nodes all) counts) ≡ binds_in counts
next_binds nodes all [] = refl
next_binds nodes all (c ∷ counts) = ap (λ bs. c.bind ∷ bs) (next_binds nodes all counts)

later_binds : (nodes : List NodeEntry) (rounds : ℕ) (counts : List Counted) → binds_in (after_rounds nodes rounds counts) ≡ binds_in counts
later_binds nodes zero counts = refl
later_binds nodes (suc rounds) counts = later_binds nodes rounds (next_counts nodes counts) ∙ next_binds nodes counts counts

same_binds : (rules : List StatedRule) (nodes : List NodeEntry) (binds : List BindEntry) → binds_in (counts_of rules nodes binds) ≡ binds
same_binds rules nodes binds = later_binds nodes (length binds) (first_counts rules nodes binds) ∙ first_binds rules nodes binds

module _ (binds : List BindEntry) where
  copies_follow : (more : ℕ) (earlier : List Edge) (number : ℕ) (b : BindEntry) → slice_get binds number ≡ Some b → All (FollowsBind binds) earlier
      → All (FollowsBind binds) (with_copies more earlier number b)
  copies_follow zero earlier number b e h = h
  copies_follow (suc more) earlier number b e h =
      copies_follow more (earlier ++ edge_behind earlier number b ∷ []) number b e
      (All-push (FollowsBind binds) earlier (edge_behind earlier number b) h (record { made_by = b; is = e; from = refl; to = refl }))

  edges_follow : (earlier : List Edge) (number : ℕ) (counts : List Counted) → ((j : ℕ) → slice_get (binds_in counts) j ≡ slice_get binds (number + j))
      → All (FollowsBind binds) earlier → All (FollowsBind binds) (edges_behind earlier number counts)
  edges_follow earlier number [] same h = h
  edges_follow earlier number (c ∷ counts) same h =
      let z : number + 0 ≡ number = omega arith in
      edges_follow (with_copies (copies c) earlier number c.bind) (number + 1) counts
      (λ j. same (suc j) ∙ ap (slice_get binds) (moved j))
      (copies_follow (copies c) earlier number c.bind (sym (same 0 ∙ ap (slice_get binds) z)) h)
    where
      moved : (j : ℕ) → number + suc j ≡ number + 1 + j
      moved j = omega arith

none_follow : (binds : List BindEntry) → All (FollowsBind binds) []
none_follow binds = λ k d l. absurd (omega (arith, l))

from_none : (j : ℕ) → j ≡ 0 + j
from_none j = omega arith

pub each_follows : EachFollowsItsBind
each_follows rules design =
    edges_follow design.binds [] 0 (design_counts rules design)
    (λ j. ap (λ bs. slice_get bs j) (same_binds rules design.nodes design.binds) ∙ ap (slice_get design.binds) (from_none j))
    (none_follow design.binds)
