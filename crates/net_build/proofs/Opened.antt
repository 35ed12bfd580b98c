-- What is opened and then driven is added.
use Rattle.std.proofs.Common.{◌≡◌, ◌≢◌, ℕ, ◌+◌, ◌≤◌, Bool, true, false, cond, List, [], ◌∷◌, ◌++◌, refl, sym, ap, ◌∙◌, subst, arith}
use Rattle.std.specs.Prelude.{filter, not, ◌==◌}
use Rattle.std.specs.List.{AllByRecursion}
use Rattle.std.proofs.lemmas.Bool.{eq-eqb, ne_eqb}
use Rattle.std.proofs.lemmas.List.{append-nil}
use Rattle.net_build.specs.declared.types.Made.{Made}
use Rattle.net_build.specs.Built.{Built, undriven, is_undriven, numbers_where}
use Rattle.net_build.specs.Values.{Adds, Drives, Opens}
use Rattle.net_build.proofs.Lists.{all_weaker}
use Rattle.net_build.proofs.Steps.{later_later}

-- numbers that differ
abbrev pub Apart : List ℕ → Type 0
Apart [] = Unit {0}
Apart (x ∷ xs) = AllByRecursion (λ y. x ≢ y) xs × Apart xs

where_above : (test : Made → Bool) (m n : ℕ) (xs : List Made) → m ≤ n → AllByRecursion (λ y. m ≤ y) (numbers_where test n xs)
where_above test m n [] h = search
where_above test m n (x ∷ xs) h = at (test x) (where_above test m (n + 1) xs (omega arith))
  where
    at : (b : Bool) → AllByRecursion (λ y. m ≤ y) (numbers_where test (n + 1) xs) → AllByRecursion (λ y. m ≤ y) (cond b (n ∷ numbers_where test (n + 1) xs) (numbers_where test (n + 1) xs))
    at true g = (h, g)
    at false g = g

below_differs : (n y : ℕ) → n + 1 ≤ y → n ≢ y
below_differs n y h e = omega arith

where_apart : (test : Made → Bool) (n : ℕ) (xs : List Made) → Apart (numbers_where test n xs)
where_apart test n [] = search
where_apart test n (x ∷ xs) = at (test x) (where_apart test (n + 1) xs)
  where
    at : (b : Bool) → Apart (numbers_where test (n + 1) xs) → Apart (cond b (n ∷ numbers_where test (n + 1) xs) (numbers_where test (n + 1) xs))
    at true g = (all_weaker (λ y. n + 1 ≤ y) (λ y. n ≢ y) (numbers_where test (n + 1) xs) (below_differs n) (where_above test (n + 1) (n + 1) xs (omega arith)), g)
    at false g = g

-- registers that were opened have other numbers than those that weren't driven before
pub opened_apart : (old new : Built) (rs : List ℕ) → Opens old new rs → Apart (undriven old ++ rs)
opened_apart old new rs g = subst Apart g.undriven (where_apart is_undriven 0 new.made)

-- the numbers but one
all_middle : (P : ℕ → Type 0) (xs rs : List ℕ) (r : ℕ) → AllByRecursion P (xs ++ r ∷ rs) → P r × AllByRecursion P (xs ++ rs)
all_middle P [] rs r h = h
all_middle P (x ∷ xs) rs r h = let g = all_middle P xs rs r h.1 in (g.0, (h.0, g.1))

pub apart_less : (xs rs : List ℕ) (r : ℕ) → Apart (xs ++ r ∷ rs) → Apart (xs ++ rs)
apart_less [] rs r h = h.1
apart_less (x ∷ xs) rs r h = ((all_middle (λ y. x ≢ y) xs rs r h.0).1, apart_less xs rs r h.1)

keeps_all : (r : ℕ) (xs : List ℕ) → AllByRecursion (λ y. r ≢ y) xs → filter (λ n. not (n == r)) xs ≡ xs
keeps_all r [] h = refl
keeps_all r (x ∷ xs) h = ap (λ (b : Bool). cond (not b) (x ∷ filter (λ n. not (n == r)) xs) (filter (λ n. not (n == r)) xs)) (ne_eqb x r (λ e. h.0 (sym e))) ∙ ap (λ ys. x ∷ ys) (keeps_all r xs h.1)

pub drops_one : (xs rs : List ℕ) (r : ℕ) → Apart (xs ++ r ∷ rs) → filter (λ n. not (n == r)) (xs ++ r ∷ rs) ≡ xs ++ rs
drops_one [] rs r h = ap (λ (b : Bool). cond (not b) (r ∷ filter (λ n. not (n == r)) rs) (filter (λ n. not (n == r)) rs)) (eq-eqb r r refl) ∙ keeps_all r rs h.0
drops_one (x ∷ xs) rs r h = ap (λ (b : Bool). cond (not b) (x ∷ filter (λ n. not (n == r)) (xs ++ r ∷ rs)) (filter (λ n. not (n == r)) (xs ++ r ∷ rs))) (ne_eqb x r (all_middle (λ y. x ≢ y) xs rs r h.0).0) ∙ ap (λ ys. x ∷ ys) (drops_one xs rs r h.1)

pub opened_driven : (old mid new : Built) (r : ℕ) → Opens old mid (r ∷ []) → Drives mid new r → Adds old new
opened_driven old mid new r g h = record {
  later = later_later old mid new g.later h.later;
  inputs = h.inputs ∙ g.inputs;
  outputs = h.outputs ∙ g.outputs;
  undriven = h.undriven ∙ ap (filter (λ n. not (n == r))) g.undriven ∙ drops_one (undriven old) [] r (opened_apart old mid (r ∷ []) g) ∙ append-nil (undriven old);
}
