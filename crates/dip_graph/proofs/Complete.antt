-- Whatever the order leaves out waits for something that it leaves out.
use Rattle.std.proofs.Common.{◌≡◌, ℕ, zero, suc, ◌+◌, ◌<◌, ◌≤◌, ◌⊎◌, inl, inr, Bool, true, false, not, ◌&&◌, ◌||◌, ◌==◌, List, [], ◌∷◌, ◌++◌, length, Option, Some, None, cond, refl, sym, subst, arith}
use Rattle.std.specs.Prelude.{Contains}
use Rattle.std.specs.List.{list_any, list_all, AllByRecursion, IsDistinct}
use Rattle.std.proofs.Math.Dec.{eqb}
use Rattle.std.proofs.lemmas.Bool.{eqb-true, cases_lt}
use Rattle.std.proofs.lemmas.Cmp.{nat_eq_equiv}
use Rattle.std.proofs.lemmas.List.{length_push}
use Rattle.std.proofs.lemmas.List.Elements.{Contains-push, Contains-push_cases, Contains-append_left, Contains-append_right}
use Rattle.std.proofs.lemmas.Map.Keys.{IsDistinct-push, IsDistinct-cons}
use Rattle.std.proofs.lemmas.Map.Steps.{length-le_from_distinct_below}
use Rattle.dip_graph.specs.declared.design.BindEntry.{BindEntry}
use Rattle.dip_graph.specs.Orders.{is_listed, is_met, is_ready, first_from, least_ready, listed_with, order_from, canonical_order, EachLeftOutWaits}
use Rattle.dip_lists.proofs.Pairs.{nowhere}
use Rattle.dip_graph.proofs.Behind.{same_some}
use Rattle.dip_graph.proofs.Bound.{split_or, listed_from, to_listed}

yes_not_no : (b : Bool) → b ≡ true → b ≡ false → ⊥
yes_not_no true h e = (cc)
yes_not_no false h e = (cc)

pub unless : (b : Bool) → (b ≡ true → ⊥) → b ≡ false
unless true h = absurd (h refl)
unless false h = refl

-- ---- the first number that passes a test

found_at : (passes : ℕ → Bool) (n count m : ℕ) → first_from passes n count ≡ Some m → (passes m ≡ true) × (m < n + count)
found_at passes n zero m e = absurd cc
found_at passes n (suc count) m e = at (passes n) refl e (found_at passes (n + 1) count m)
  where
    at : (b : Bool) → passes n ≡ b → cond b (Some n) (first_from passes (n + 1) count) ≡ Some m
        → (first_from passes (n + 1) count ≡ Some m → (passes m ≡ true) × (m < n + 1 + count)) → (passes m ≡ true) × (m < n + suc count)
    at true h e f = let s = same_some n m e in (subst (λ x. passes x ≡ true) s h, omega arith)
    at false h e f = let later = f e in let lt = later.1 in (later.0, omega arith)

none_found : (passes : ℕ → Bool) (n count k : ℕ) → first_from passes n count ≡ None → n ≤ k → k < n + count → passes k ≡ false
none_found passes n zero k e lo hi = absurd (omega arith)
none_found passes n (suc count) k e lo hi = at (passes n) refl e (λ g l h. none_found passes (n + 1) count k g l h)
  where
    at : (b : Bool) → passes n ≡ b → cond b (Some n) (first_from passes (n + 1) count) ≡ None
        → (first_from passes (n + 1) count ≡ None → n + 1 ≤ k → k < n + 1 + count → passes k ≡ false) → passes k ≡ false
    at true h e f = absurd cc
    at false h e f = elim (cases_lt n k) [
      | inl lt ↦ f e (omega arith) (omega arith)
      | inr ge ↦ let s : n ≡ k = omega arith in subst (λ x. passes x ≡ false) s h
    ]

-- ---- how the turns end

apart : (n : ℕ) (xs : List ℕ) → (Contains xs n → ⊥) → AllByRecursion (λ y. eqb n y ≡ false) xs
apart n [] c = tt
apart n (x ∷ xs) c = (
  unless (eqb n x) (λ e. c (subst (λ m. Contains (x ∷ xs) m) (sym (eqb-true n x e)) (Contains-append_left (x ∷ []) xs x (Contains-push [] x)))),
  apart n xs (λ d. c (Contains-append_right (x ∷ []) xs n d)),
)

found_in : (q : ℕ) (xs : List ℕ) → list_any (eqb q) xs ≡ true → Contains xs q
found_in q [] h = absurd cc
found_in q (x ∷ xs) h = elim (split_or (eqb q x) (list_any (eqb q) xs) h) [
  | inl e ↦ subst (λ m. Contains (x ∷ xs) m) (sym (eqb-true q x e)) (Contains-append_left (x ∷ []) xs x (Contains-push [] x))
  | inr later ↦ Contains-append_right (x ∷ []) xs q (found_in q xs later)
]

none_distinct : IsDistinct eqb []
unfolding IsDistinct
none_distinct = tt

-- the listed ones differ and are nodes, and none is ready or there are so many
record Ended (binds : List BindEntry) (nodes : ℕ) (all : List ℕ) (long : ℕ) : Type 0 where
  distinct : IsDistinct eqb all
  below : (q : ℕ) → Contains all q → q < nodes
  ended : (least_ready binds nodes all ≡ None) ⊎ (length all ≡ long)

not_listed : (listed : List ℕ) (n : ℕ) (rest : Bool) → (not (is_listed listed n) && rest) ≡ true → Contains listed n → ⊥
not_listed listed n rest h c = at (is_listed listed n) h (to_listed listed n c)
  where
    at : (b : Bool) → (not b && rest) ≡ true → b ≡ true → ⊥
    at true h e = (cc)
    at false h e = (cc)

at_end : (binds : List BindEntry) (nodes : ℕ) (listed : List ℕ) (turns : ℕ) → IsDistinct eqb listed → ((q : ℕ) → Contains listed q → q < nodes)
    → Ended binds nodes (order_from binds nodes listed turns) (length listed + turns)
at_end binds nodes listed zero d l = record { distinct = d; below = l; ended = inr (omega arith) }
at_end binds nodes listed (suc turns) d l = at (least_ready binds nodes listed) refl (λ m. at_end binds nodes (listed ++ m ∷ []) turns)
  where
    out : (m : ℕ) → least_ready binds nodes listed ≡ Some m → Contains listed m → ⊥
    out m e = not_listed listed m (list_all (is_met listed m) binds) (found_at (is_ready binds listed) 0 nodes m e).0

    below_more : (m : ℕ) → least_ready binds nodes listed ≡ Some m → (q : ℕ) → Contains (listed ++ m ∷ []) q → q < nodes
    below_more m e q c = elim (Contains-push_cases listed m q c) [
      | inl old ↦ l q old
      | inr s ↦ let lt = (found_at (is_ready binds listed) 0 nodes m e).1 in subst (λ x. x < nodes) s (omega arith)
    ]

    at : (o : Option ℕ) → least_ready binds nodes listed ≡ o
        → ((m : ℕ) → IsDistinct eqb (listed ++ m ∷ []) → ((q : ℕ) → Contains (listed ++ m ∷ []) q → q < nodes) → Ended binds nodes (order_from binds nodes (listed ++ m ∷ []) turns) (length (listed ++ m ∷ []) + turns))
        → Ended binds nodes (listed_with listed (λ m. order_from binds nodes (listed ++ m ∷ []) turns) o) (length listed + suc turns)
    at None e f = record { distinct = d; below = l; ended = inl e }
    at (Some m) e f =
        let long : length (listed ++ m ∷ []) + turns ≡ length listed + suc turns = omega (arith, length_push listed m) in
        subst (λ k. Ended binds nodes (order_from binds nodes (listed ++ m ∷ []) turns) k) long
        (f m
        (IsDistinct-push nat_eq_equiv listed m d (unless (list_any (eqb m) listed) (λ t. out m e (found_in m listed t))))
        (below_more m e))

-- ---- what isn't ready waits

pub unmet : (listed : List ℕ) (n : ℕ) (binds : List BindEntry) → list_all (is_met listed n) binds ≡ false → (b : BindEntry) × Contains binds b × (is_met listed n b ≡ false)
unmet listed n [] h = absurd cc
unmet listed n (a ∷ binds) h = at (is_met listed n a) refl h (unmet listed n binds)
  where
    at : (r : Bool) → is_met listed n a ≡ r → (r && list_all (is_met listed n) binds) ≡ false
        → (list_all (is_met listed n) binds ≡ false → (b : BindEntry) × Contains binds b × (is_met listed n b ≡ false)) → (b : BindEntry) × Contains (a ∷ binds) b × (is_met listed n b ≡ false)
    at true e h f = let u = f h in (u.0, Contains-append_right (a ∷ []) binds u.0 u.1, u.2)
    at false e h f = (a, Contains-append_left (a ∷ []) binds a (Contains-push [] a), e)

pub waits : (listed : List ℕ) (n : ℕ) (b : BindEntry) → is_met listed n b ≡ false → (b.to ≡ n) × (Contains listed b.from → ⊥)
waits listed n b h = at (b.to == n) refl (is_listed listed b.from) refl h
  where
    at : (t : Bool) → (b.to == n) ≡ t → (f : Bool) → is_listed listed b.from ≡ f → (not t || f) ≡ false → (b.to ≡ n) × (Contains listed b.from → ⊥)
    at false e f g h = absurd cc
    at true e true g h = absurd cc
    at true e false g h = (eqb-true b.to n e, λ c. yes_not_no (is_listed listed b.from) (to_listed listed b.from c) g)

pub rest_fails : (listed : List ℕ) (n : ℕ) (rest : Bool) → (not (is_listed listed n) && rest) ≡ false → (Contains listed n → ⊥) → rest ≡ false
rest_fails listed n rest h out = at (is_listed listed n) refl h
  where
    at : (b : Bool) → is_listed listed n ≡ b → (not b && rest) ≡ false → rest ≡ false
    at true e h = absurd (out (listed_from listed n e))
    at false e h = h

pub left_out_waits : EachLeftOutWaits
left_out_waits design n within out = elim end.ended [
  | inl none ↦
      let idle = none_found (is_ready binds all) 0 nodes n none (omega arith) (omega arith) in
      let u = unmet all n binds (rest_fails all n (list_all (is_met all n) binds) idle out) in
      let w = waits all n u.0 u.2 in
      (u.0, u.1, w.0, w.1)
  | inr full ↦ absurd (omega (arith, too_many))
]
  where
    binds : List BindEntry
    binds = design.binds

    nodes : ℕ
    nodes = length design.nodes

    all : List ℕ
    all = canonical_order design

    end : Ended binds nodes all (0 + nodes)
    end = at_end binds nodes [] nodes none_distinct (λ q c. absurd (nowhere q c))

    below : (q : ℕ) → list_any (eqb q) (n ∷ all) ≡ true → q < nodes
    below q t = elim (split_or (eqb q n) (list_any (eqb q) all) t) [
      | inl e ↦ subst (λ x. x < nodes) (sym (eqb-true q n e)) within
      | inr later ↦ end.below q (found_in q all later)
    ]

    too_many : length (n ∷ all) ≤ nodes
    too_many = length-le_from_distinct_below (n ∷ all) nodes (IsDistinct-cons eqb n all (apart n all out) end.distinct) below
