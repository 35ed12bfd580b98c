-- In the canonical order each node is ready where the ones before it are listed.
use Rattle.std.proofs.Common.{◌≡◌, ℕ, zero, suc, ◌+◌, Bool, true, false, List, [], ◌∷◌, ◌++◌, length, Option, Some, None, cond, refl, sym, subst, ◌∙◌}
use Rattle.std.proofs.lemmas.List.{append-nil, append_assoc}
use Rattle.dip_graph.specs.declared.design.BindEntry.{BindEntry}
use Rattle.dip_graph.specs.Orders.{is_ready, first_from, least_ready, listed_with, order_from, StandBehind, EachStandsBehind}

pub same_some : (x y : ℕ) → Some x ≡ Some y → x ≡ y
same_some x y e = cc

found : (passes : ℕ → Bool) (n count m : ℕ) → first_from passes n count ≡ Some m → passes m ≡ true
found passes n zero m e = absurd cc
found passes n (suc count) m e = at (passes n) refl e (found passes (n + 1) count m)
  where
    at : (b : Bool) → passes n ≡ b → cond b (Some n) (first_from passes (n + 1) count) ≡ Some m → (first_from passes (n + 1) count ≡ Some m → passes m ≡ true) → passes m ≡ true
    at true h e f = subst (λ x. passes x ≡ true) (same_some n m e) h
    at false h e f = f e

-- the nodes after some listed ones
pub record After (binds : List BindEntry) (listed all : List ℕ) : Type 0 where
  pub rest : List ℕ
  pub joined : all ≡ listed ++ rest
  pub behind : StandBehind binds listed rest

pub after_turns : (binds : List BindEntry) (nodes : ℕ) (listed : List ℕ) (turns : ℕ) → After binds listed (order_from binds nodes listed turns)
after_turns binds nodes listed zero = record { rest = []; joined = sym (append-nil listed); behind = tt }
after_turns binds nodes listed (suc turns) = at (least_ready binds nodes listed) refl (λ m. after_turns binds nodes (listed ++ m ∷ []) turns)
  where
    at : (o : Option ℕ) → least_ready binds nodes listed ≡ o → ((m : ℕ) → After binds (listed ++ m ∷ []) (order_from binds nodes (listed ++ m ∷ []) turns))
        → After binds listed (listed_with listed (λ m. order_from binds nodes (listed ++ m ∷ []) turns) o)
    at None e f = record { rest = []; joined = sym (append-nil listed); behind = tt }
    at (Some m) e f = record {
      rest = m ∷ (f m).rest;
      joined = (f m).joined ∙ append_assoc listed (m ∷ []) (f m).rest;
      behind = (found (is_ready binds listed) 0 nodes m e, (f m).behind);
    }

pub each_stands_behind : EachStandsBehind
each_stands_behind design =
    let a = after_turns design.binds (length design.nodes) [] (length design.nodes) in
    subst (λ all. StandBehind design.binds [] all) (sym a.joined) a.behind
