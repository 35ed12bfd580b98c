-- Two lists place by place, where one of them is made of parts.
use Rattle.std.proofs.Common.{ℕ, zero, suc, ◌≡◌, ◌↔◌, All, List, [], ◌∷◌, ◌++◌, length, take, drop, map, Bool, true, false, ◌&&◌, ◌==◌, IsTrue, refl, ap, sym, ◌∙◌, arith}
use Rattle.std.specs.List.{list_all}
use Rattle.std.proofs.lemmas.Bool.Decides.{Decides-eqb}
use Rattle.dip_sets.specs.Sets.{Pattern}
use Rattle.tl_params.specs.declared.ports.Master.{Master}
use Rattle.tl_params.specs.declared.ports.DownPort.{DownPort}
use Rattle.tl_params.specs.Carried.{all_zip, is_same_set}
use Rattle.tl_rules.specs.Fits.{has_same_ids, same_ids}
use Rattle.tl_rules.proofs.Crossing.{and_left, and_right}

and_assoc : (a b c : Bool) → (a && (b && c)) ≡ ((a && b) && c)
and_assoc true b c = refl
and_assoc false b c = refl

false_and : (a b : Bool) → a ≡ false → (a && b) ≡ false
false_and a b e = rw e refl

true_and : (a b : Bool) → a ≡ true → (a && b) ≡ b
true_and a b e = rw e refl

module _ {A B : Type 0} where
  left_parts : (test : A → B → Bool) (xs ys : List A) (zs : List B) → all_zip test (xs ++ ys) zs ≡ (all_zip test xs (take (length xs) zs) && all_zip test ys (drop (length xs) zs))
  left_parts test [] ys zs = refl
  left_parts test (x ∷ xs) ys [] = refl
  left_parts test (x ∷ xs) ys (z ∷ zs) = ap (λ b. test x z && b) (left_parts test xs ys zs) ∙ and_assoc (test x z) _ _

  right_parts : (test : A → B → Bool) (zs : List A) (xs ys : List B) → all_zip test zs (xs ++ ys) ≡ (all_zip test (take (length xs) zs) xs && all_zip test (drop (length xs) zs) ys)
  right_parts test zs [] ys = refl
  right_parts test [] (x ∷ xs) ys = refl
  right_parts test (z ∷ zs) (x ∷ xs) ys = ap (λ b. test z x && b) (right_parts test zs xs ys) ∙ and_assoc (test z x) _ _

  pub left_fails : (test : A → B → Bool) (xs ys : List A) (zs : List B) (n : ℕ) → n ≡ length xs → all_zip test xs (take n zs) ≡ false → all_zip test (xs ++ ys) zs ≡ false
  left_fails test xs ys zs n long h = left_parts test xs ys zs ∙ false_and _ _ (rw long at h)

  pub left_passes : (test : A → B → Bool) (xs ys : List A) (zs : List B) (n : ℕ) → n ≡ length xs → all_zip test xs (take n zs) ≡ true → all_zip test (xs ++ ys) zs ≡ all_zip test ys (drop n zs)
  left_passes test xs ys zs n long h = left_parts test xs ys zs ∙ true_and _ _ (rw long at h) ∙ ap (λ m. all_zip test ys (drop m zs)) (sym long)

  pub right_fails : (test : A → B → Bool) (zs : List A) (xs ys : List B) → all_zip test (take (length xs) zs) xs ≡ false → all_zip test zs (xs ++ ys) ≡ false
  right_fails test zs xs ys h = right_parts test zs xs ys ∙ false_and _ _ h

  pub right_passes : (test : A → B → Bool) (zs : List A) (xs ys : List B) → all_zip test (take (length xs) zs) xs ≡ true → all_zip test zs (xs ++ ys) ≡ all_zip test (drop (length xs) zs) ys
  right_passes test zs xs ys h = right_parts test zs xs ys ∙ true_and _ _ h

-- ---- equal sets

same_set : (s t : Pattern) → IsTrue (is_same_set s t) → s ≡ t
same_set s t h =
    let base = (Decides-eqb s.base t.base).0 (and_left (s.base == t.base) (s.mask == t.mask) h) in
    let mask = (Decides-eqb s.mask t.mask).0 (and_right (s.base == t.base) (s.mask == t.mask) h) in
    ap (λ b. record { base = b; mask = s.mask }) base ∙ ap (λ m. record { base = t.base; mask = m }) mask

own_set : (s : Pattern) → is_same_set s s ≡ true
own_set s = rw ((Decides-eqb s.base s.base).1 refl, (Decides-eqb s.mask s.mask).1 refl) refl

same_sets : (ss ts : List Pattern) → IsTrue (all_zip is_same_set ss ts) → ss ≡ ts
same_sets [] [] h = refl
same_sets [] (t ∷ ts) h = absurd (cc)
same_sets (s ∷ ss) [] h = absurd (cc)
same_sets (s ∷ ss) (t ∷ ts) h =
    let first = same_set s t (and_left (is_same_set s t) (all_zip is_same_set ss ts) h) in
    let rest = same_sets ss ts (and_right (is_same_set s t) (all_zip is_same_set ss ts) h) in
    ap (λ x. x ∷ ss) first ∙ ap (λ xs. t ∷ xs) rest

pub own_sets : (ss : List Pattern) → all_zip is_same_set ss ss ≡ true
own_sets [] = refl
own_sets (s ∷ ss) = rw (own_set s) (own_sets ss)

-- what decides that sets are equal is the test of each place
pub sets_test : (r : Bool) (ss ts : List Pattern) → IsTrue r ↔ (ss ≡ ts) → r ≡ all_zip is_same_set ss ts
sets_test true ss ts h = sym (rw (h.0 refl) (own_sets ts))
sets_test false ss ts h = elim (all_zip is_same_set ss ts) as (λ b. all_zip is_same_set ss ts ≡ b → false ≡ b) [
  | true ↦ λ e. h.1 (same_sets ss ts e)
  | false ↦ λ e. refl
] refl

-- ---- equal ids

ids_along : (a b c : Master) → has_same_ids a b ≡ true → has_same_ids a c ≡ has_same_ids b c
ids_along a b c h =
    let start = (Decides-eqb a.ids.start b.ids.start).0 (and_left (a.ids.start == b.ids.start) (a.ids.end == b.ids.end) h) in
    let end = (Decides-eqb a.ids.end b.ids.end).0 (and_right (a.ids.start == b.ids.start) (a.ids.end == b.ids.end) h) in
    rw (start, end) refl

all_ids_along : (ms ns cs : List Master) → same_ids ms ns ≡ true → same_ids ms cs ≡ same_ids ns cs
all_ids_along [] [] cs h = refl
all_ids_along [] (n ∷ ns) cs h = absurd (cc)
all_ids_along (m ∷ ms) [] cs h = absurd (cc)
all_ids_along (m ∷ ms) (n ∷ ns) [] h = refl
all_ids_along (m ∷ ms) (n ∷ ns) (c ∷ cs) h =
    rw (ids_along m n c (and_left (has_same_ids m n) (same_ids ms ns) h), all_ids_along ms ns cs (and_right (has_same_ids m n) (same_ids ms ns) h)) refl

each_ids_along : (ms ns : List Master) (ports : List DownPort) → same_ids ms ns ≡ true
    → list_all (λ port. same_ids ms port.masters) ports ≡ list_all (λ port. same_ids ns port.masters) ports
each_ids_along ms ns [] h = refl
each_ids_along ms ns (p ∷ ports) h = rw (all_ids_along ms ns p.masters h, each_ids_along ms ns ports h) refl

-- all ports have some ids where the first has them, and all have the first one's
pub first_stands_for_all : (ms : List Master) (p : DownPort) (ports : List DownPort)
    → list_all (λ port. same_ids ms port.masters) (p ∷ ports) ≡ (same_ids ms p.masters && list_all (λ port. same_ids p.masters port.masters) (p ∷ ports))
first_stands_for_all ms p ports = elim (same_ids ms p.masters) as (λ b. same_ids ms p.masters ≡ b
    → list_all (λ port. same_ids ms port.masters) (p ∷ ports) ≡ (b && list_all (λ port. same_ids p.masters port.masters) (p ∷ ports))) [
      | true ↦ λ e. each_ids_along ms p.masters (p ∷ ports) e
      | false ↦ λ e. rw e refl
    ] refl

-- a test of each item of a list
pub each_passes : {A B : Type 0} (p : B → Bool) (f : A → B) (xs : List A) → IsTrue (list_all p (map f xs)) → All (λ x. IsTrue (p (f x))) xs
each_passes p f [] h i d within = absurd (omega arith)
each_passes p f (x ∷ xs) h zero d within = and_left (p (f x)) (list_all p (map f xs)) h
each_passes p f (x ∷ xs) h (suc i) d within = each_passes p f xs (and_right (p (f x)) (list_all p (map f xs)) h) i d (omega arith)
