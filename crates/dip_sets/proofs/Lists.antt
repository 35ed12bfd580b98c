-- Some item and each two items of a list, by its head.
use Rattle.std.proofs.Common.{zero, suc, ◌⊎◌, inl, inr, List, [], ◌∷◌, Any, All, AllPairs, refl, sym, subst, arith}

module _ {X : Type 0} where
  pub any_head : (P : X → Type 0) (x : X) (xs : List X) → P x → Any P (x ∷ xs)
  any_head P x xs p = (0, x, omega arith, refl, p)

  pub any_tail : (P : X → Type 0) (x : X) (xs : List X) → Any P xs → Any P (x ∷ xs)
  any_tail P x xs (k, y, below, e, p) = (suc k, y, omega arith, e, p)

  pub any_cases : (P : X → Type 0) (x : X) (xs : List X) → Any P (x ∷ xs) → P x ⊎ Any P xs
  any_cases P x xs (zero, y, below, e, p) = inl (subst P (sym e) p)
  any_cases P x xs (suc k, y, below, e, p) = inr (k, y, omega arith, e, p)

  pub any_none : (P : X → Type 0) → Any P [] → ⊥
  any_none P (k, y, below, e, p) = omega arith

  pub pairs_cons : (R : X → X → Type 0) (x : X) (xs : List X) → All (R x) xs → AllPairs R xs → AllPairs R (x ∷ xs)
  pairs_cons R x xs first rest i zero d before below = absurd (omega arith)
  pairs_cons R x xs first rest zero (suc j) d before below = first j d (omega arith)
  pairs_cons R x xs first rest (suc i) (suc j) d before below = rest i j d (omega arith) (omega arith)

  pub pairs_none : (R : X → X → Type 0) → AllPairs R []
  pairs_none R i j d before below = absurd (omega arith)
