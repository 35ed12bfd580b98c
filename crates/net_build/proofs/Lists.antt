-- Lists that grow at their end.
use Rattle.std.proofs.Common.{◌≡◌, ◌≢◌, ℕ, zero, suc, ◌⊎◌, inl, inr, List, [], ◌∷◌, ◌++◌, length, Some, refl, sym, arith}
use Rattle.std.specs.Prelude.{slice_get, All}
use Rattle.std.specs.List.{AllByRecursion}
use Rattle.net_build.specs.Sound.{Differ}

pub get_last : {A : Type 0} (xs : List A) (x : A) → slice_get (xs ++ x ∷ []) (length xs) ≡ Some x
get_last [] x = refl
get_last (y ∷ xs) x = get_last xs x

pub get_more : {A : Type 0} (xs ys : List A) (n : ℕ) (x : A) → slice_get xs n ≡ Some x → slice_get (xs ++ ys) n ≡ Some x
get_more [] ys n x e = absurd cc
get_more (y ∷ xs) ys zero x e = e
get_more (y ∷ xs) ys (suc n) x e = get_more xs ys n x e

-- what stands in a list with one more item is the last one, or stood there before
pub get_either : {A : Type 0} (xs : List A) (x : A) (n : ℕ) (y : A) → slice_get (xs ++ x ∷ []) n ≡ Some y → (slice_get xs n ≡ Some y) ⊎ ((n ≡ length xs) × (x ≡ y))
get_either [] x zero y e = inr (refl, cc)
get_either [] x (suc n) y e = absurd cc
get_either (z ∷ xs) x zero y e = inl e
get_either (z ∷ xs) x (suc n) y e = elim (get_either xs x n y e) [
  | inl f ↦ inl f
  | inr p ↦ inr (omega (arith, p.0), p.1)
]

pub all_more : {A : Type 0} (P : A → Type 0) (xs : List A) (x : A) → AllByRecursion P xs → P x → AllByRecursion P (xs ++ x ∷ [])
all_more P [] x h p = (p, search)
all_more P (y ∷ xs) x h p = (h.0, all_more P xs x h.1 p)

pub all_weaker : {A : Type 0} (P Q : A → Type 0) (xs : List A) → ((x : A) → P x → Q x) → AllByRecursion P xs → AllByRecursion Q xs
all_weaker P Q [] f h = search
all_weaker P Q (x ∷ xs) f h = (f x h.0, all_weaker P Q xs f h.1)

all_insert : {A : Type 0} (P : A → Type 0) (xs ys : List A) (x : A) → AllByRecursion P (xs ++ ys) → P x → AllByRecursion P (xs ++ x ∷ ys)
all_insert P [] ys x h p = (p, h)
all_insert P (y ∷ xs) ys x h p = (h.0, all_insert P xs ys x h.1 p)

-- one more that differs from all
pub differ_insert : (xs ys : List (List ℕ)) (x : List ℕ) → Differ (xs ++ ys) → AllByRecursion (λ y. y ≢ x) (xs ++ ys) → Differ (xs ++ x ∷ ys)
differ_insert [] ys x d h = (all_weaker (λ y. y ≢ x) (λ y. x ≢ y) ys (λ y f e. f (sym e)) h, d)
differ_insert (y ∷ xs) ys x d h = (all_insert (λ z. y ≢ z) xs ys x d.0 h.0, differ_insert xs ys x d.1 h.1)

pub all_listed : {A : Type 0} (P : A → Type 0) (xs : List A) → All P xs → AllByRecursion P xs
all_listed P [] h = search
all_listed P (x ∷ xs) h = (h 0 x (omega arith), all_listed P xs (λ k d b. h (suc k) d (omega arith)))

pub differ_last : (xs : List (List ℕ)) (x : List ℕ) → Differ xs → AllByRecursion (λ y. y ≢ x) xs → Differ (xs ++ x ∷ [])
differ_last [] x d h = (search, search)
differ_last (y ∷ xs) x d h = (all_more (λ z. y ≢ z) xs x d.0 h.0, differ_last xs x d.1 h.1)
