-- The edges that binds make take the next ports of their nodes.
use Rattle.std.proofs.Common.{◌≡◌, ℕ, zero, suc, ◌+◌, List, [], ◌∷◌, ◌++◌, refl, sym, ap, ◌∙◌, subst}
use Rattle.std.proofs.lemmas.List.{append-nil, append_assoc}
use Rattle.dip_graph.specs.declared.design.BindEntry.{BindEntry}
use Rattle.dip_graph.specs.declared.edges.Edge.{Edge}
use Rattle.dip_stars.specs.declared.rounds.Counted.{Counted}
use Rattle.dip_stars.specs.Edges.{copies, edge_behind, with_copies, edges_behind, design_counts}
use Rattle.dip_stars.specs.Follows.{AreNumbered, EachTakesTheNextPorts}

-- the edges after some earlier ones
record After (earlier all : List Edge) : Type 0 where
  rest : List Edge
  joined : all ≡ earlier ++ rest
  numbered : AreNumbered earlier rest

numbered_joined : (earlier some others : List Edge) → AreNumbered earlier some → AreNumbered (earlier ++ some) others → AreNumbered earlier (some ++ others)
numbered_joined earlier [] others h k = subst (λ es. AreNumbered es others) (append-nil earlier) k
numbered_joined earlier (e ∷ some) others h k =
    (h.0, h.1, numbered_joined (earlier ++ e ∷ []) some others h.2 (subst (λ es. AreNumbered es others) (sym (append_assoc earlier (e ∷ []) some)) k))

after_copies : (more : ℕ) (earlier : List Edge) (number : ℕ) (b : BindEntry) → After earlier (with_copies more earlier number b)
after_copies zero earlier number b = record { rest = []; joined = sym (append-nil earlier); numbered = tt }
after_copies (suc more) earlier number b =
    let e = edge_behind earlier number b in
    let f = after_copies more (earlier ++ e ∷ []) number b in
    record { rest = e ∷ f.rest; joined = f.joined ∙ append_assoc earlier (e ∷ []) f.rest; numbered = (refl, refl, f.numbered) }

after_edges : (earlier : List Edge) (number : ℕ) (counts : List Counted) → After earlier (edges_behind earlier number counts)
after_edges earlier number [] = record { rest = []; joined = sym (append-nil earlier); numbered = tt }
after_edges earlier number (c ∷ counts) =
    let a = after_copies (copies c) earlier number c.bind in
    let f = after_edges (with_copies (copies c) earlier number c.bind) (number + 1) counts in
    record {
      rest = a.rest ++ f.rest;
      joined = f.joined ∙ ap (λ es. es ++ f.rest) a.joined ∙ append_assoc earlier a.rest f.rest;
      numbered = numbered_joined earlier a.rest f.rest a.numbered (subst (λ es. AreNumbered es f.rest) a.joined f.numbered);
    }

pub each_takes : EachTakesTheNextPorts
each_takes rules design =
    let a = after_edges [] 0 (design_counts rules design) in
    subst (λ es. AreNumbered [] es) (sym a.joined) a.numbered
