-- The order takes the least ready node each time, and ends when none is ready.
use Rattle.std.proofs.Common.{◌≡◌, ℕ, zero, suc, ◌+◌, ◌<◌, ◌≤◌, inl, inr, Bool, true, false, List, [], ◌∷◌, ◌++◌, length, Option, Some, None, cond, refl, sym, ◌∙◌, subst, arith}
use Rattle.std.specs.List.{list_all}
use Rattle.std.proofs.lemmas.Bool.{cases_Bool, cases_lt}
use Rattle.std.proofs.lemmas.List.{append-nil, append_assoc}
use Rattle.dip_graph.specs.declared.design.BindEntry.{BindEntry}
use Rattle.dip_graph.specs.Orders.{is_listed, is_met, is_ready, first_from, least_ready, listed_with, order_from, canonical_order, IsHeld, AreLeast, EachNextIsLeast}
use Rattle.dip_graph.proofs.Behind.{same_some}
use Rattle.dip_graph.proofs.Bound.{listed_from, to_listed}
use Rattle.dip_graph.proofs.Complete.{left_out_waits, rest_fails, unmet, waits}

-- the first that passes is the least
none_before : (passes : ℕ → Bool) (n count m k : ℕ) → first_from passes n count ≡ Some m → n ≤ k → k < m → passes k ≡ false
none_before passes n zero m k e lo hi = absurd cc
none_before passes n (suc count) m k e lo hi = at (passes n) refl e (λ g l. none_before passes (n + 1) count m k g l hi)
  where
    at : (b : Bool) → passes n ≡ b → cond b (Some n) (first_from passes (n + 1) count) ≡ Some m → (first_from passes (n + 1) count ≡ Some m → n + 1 ≤ k → passes k ≡ false) → passes k ≡ false
    at true h e f = let s : n ≡ m = same_some n m e in absurd (omega arith)
    at false h e f = elim (cases_lt n k) [
      | inl lt ↦ f e (omega arith)
      | inr ge ↦ let s : n ≡ k = omega arith in subst (λ x. passes x ≡ false) s h
    ]

held : (binds : List BindEntry) (listed : List ℕ) (n : ℕ) → is_ready binds listed n ≡ false → IsHeld binds listed n
held binds listed n h = elim (cases_Bool (is_listed listed n)) [
  | inl t ↦ inl (listed_from listed n t)
  | inr f ↦ (let u = unmet listed n binds (rest_fails listed n (list_all (is_met listed n) binds) h (λ c. no (is_listed listed n) (to_listed listed n c) f)) in
      let w = waits listed n u.0 u.2 in
      inr (u.0, u.1, w.0, w.1))
]
  where
    no : (b : Bool) → b ≡ true → b ≡ false → ⊥
    no true t f = cc
    no false t f = cc

-- the nodes after some listed ones, each the least
record After (binds : List BindEntry) (nodes : ℕ) (listed all : List ℕ) : Type 0 where
  rest : List ℕ
  joined : all ≡ listed ++ rest
  least : AreLeast binds nodes listed rest

module _ (binds : List BindEntry) (nodes : ℕ) where
  AllHeld : List ℕ → Type 0
  AllHeld listed = (m : ℕ) → m < nodes → IsHeld binds listed m

  least_turns : (listed : List ℕ) (turns : ℕ) → AllHeld (order_from binds nodes listed turns) → After binds nodes listed (order_from binds nodes listed turns)
  unfolding AllHeld
  least_turns listed zero end = record { rest = []; joined = sym (append-nil listed); least = end }
  least_turns listed (suc turns) end = at (least_ready binds nodes listed) refl end (λ m. least_turns (listed ++ m ∷ []) turns)
    where
      at : (o : Option ℕ) → least_ready binds nodes listed ≡ o → AllHeld (listed_with listed (λ m. order_from binds nodes (listed ++ m ∷ []) turns) o)
          → ((m : ℕ) → AllHeld (order_from binds nodes (listed ++ m ∷ []) turns) → After binds nodes (listed ++ m ∷ []) (order_from binds nodes (listed ++ m ∷ []) turns))
          → After binds nodes listed (listed_with listed (λ m. order_from binds nodes (listed ++ m ∷ []) turns) o)
      at None e h f = record { rest = []; joined = sym (append-nil listed); least = h }
      at (Some m) e h f = record {
        rest = m ∷ (f m h).rest;
        joined = (f m h).joined ∙ append_assoc listed (m ∷ []) (f m h).rest;
        least = (λ k l. held binds listed k (none_before (is_ready binds listed) 0 nodes m k e (omega arith) l), (f m h).least);
      }

  each_least : AllHeld (order_from binds nodes [] nodes) → AreLeast binds nodes [] (order_from binds nodes [] nodes)
  each_least end =
      let a = least_turns [] nodes end in
      subst (λ all. AreLeast binds nodes [] all) (sym a.joined) a.least

pub each_next_is_least : EachNextIsLeast
unfolding AllHeld
each_next_is_least design = each_least design.binds (length design.nodes) end
  where
    end : (m : ℕ) → m < length design.nodes → IsHeld design.binds (canonical_order design) m
    end m l = elim (cases_Bool (is_listed (canonical_order design) m)) [
      | inl t ↦ inl (listed_from (canonical_order design) m t)
      | inr f ↦ inr (left_out_waits design m l (λ c. no (is_listed (canonical_order design) m) (to_listed (canonical_order design) m c) f))
    ]
      where
        no : (b : Bool) → b ≡ true → b ≡ false → ⊥
        no true t f = cc
        no false t f = cc
