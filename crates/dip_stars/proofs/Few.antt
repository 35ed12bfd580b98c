-- How many edges binds make.
use Rattle.std.proofs.Common.{◌≡◌, ℕ, zero, suc, ◌+◌, ◌≤◌, Bool, true, false, cond, List, [], ◌∷◌, ◌++◌, length, None, refl, arith}
use Rattle.std.specs.Prelude.{nat_lt}
use Rattle.std.proofs.lemmas.List.{length_push}
use Rattle.std.proofs.lemmas.Bool.Decides.{nat_tests}
use Rattle.dip_lists.specs.First.{first}
use Rattle.dip_graph.specs.declared.design.BindEntry.{BindEntry}
use Rattle.dip_graph.specs.declared.edges.Edge.{Edge}
use Rattle.dip_stars.specs.declared.rounds.Counted.{Counted}
use Rattle.dip_stars.specs.Edges.{copies, total, excess, edge_behind, with_copies, edges_behind, edges_of}

copies_long : (more : ℕ) (earlier : List Edge) (number : ℕ) (b : BindEntry) → length (with_copies more earlier number b) ≡ length earlier + more
copies_long zero earlier number b = omega arith
copies_long (suc more) earlier number b =
    let l = copies_long more (earlier ++ edge_behind earlier number b ∷ []) number b in
    omega (arith, l, length_push earlier (edge_behind earlier number b))

edges_long : (earlier : List Edge) (number : ℕ) (counts : List Counted) → length (edges_behind earlier number counts) ≡ length earlier + total counts
edges_long earlier number [] = omega arith
edges_long earlier number (c ∷ counts) =
    let l = edges_long (with_copies (copies c) earlier number c.bind) (number + 1) counts in
    omega (arith, l, copies_long (copies c) earlier number c.bind)

not_more : (n : ℕ) → first (cond (nat_lt 1024 n) (n ∷ []) []) ≡ None → n ≤ 1024
not_more n h = at (nat_lt 1024 n) refl h
  where
    at : (b : Bool) → nat_lt 1024 n ≡ b → first (cond b (n ∷ []) []) ≡ None → n ≤ 1024
    at true e h = absurd cc
    at false e h = grind (arith, nat_tests)

pub few_edges : (counts : List Counted) → first (excess counts) ≡ None → length (edges_of counts) ≤ 1024
few_edges counts h =
    let l = edges_long [] 0 counts in
    let t = not_more (total counts) h in
    omega (arith, l, t)
