-- The items of a list and its pairs, by the first item and those behind it.
use Rattle.std.proofs.Common.{◌≡◌, zero, suc, ◌⊎◌, inl, inr, ⊎_elim, List, [], ◌∷◌, ◌++◌, arith}
use Rattle.std.specs.Prelude.{All, AllPairs, Contains}
use Rattle.std.proofs.lemmas.List.Elements.{All-head, All-tail, All-append, Contains-push_cases, Contains-append_cases}
use Rattle.std.proofs.lemmas.List.Kept.{AllPairs-cons}

pub nowhere : {X : Type 0} (x : X) → Contains [] x → ⊥
nowhere x h = let within = h.1 in absurd (omega arith)

pub within_cases : {X : Type 0} (x y : X) (xs : List X) → Contains (x ∷ xs) y → (x ≡ y) ⊎ Contains xs y
within_cases x y xs h =
    ⊎_elim (λ one. ⊎_elim (λ none. absurd (nowhere y none)) (λ e. inl e) (Contains-push_cases [] x y one)) (λ later. inr later)
    (Contains-append_cases (x ∷ []) xs y h)

pub behind : {X : Type 0} (R : X → X → Type 0) (x : X) (xs : List X) → AllPairs R (x ∷ xs) → All (R x) xs
behind R x xs h k d within = h zero (suc k) d (omega arith) (omega arith)

pub rest_pairs : {X : Type 0} (R : X → X → Type 0) (x : X) (xs : List X) → AllPairs R (x ∷ xs) → AllPairs R xs
rest_pairs R x xs h i j d before within = h (suc i) (suc j) d (omega arith) (omega arith)

-- the pairs of two lists, where each item of the one goes with each of the other
pub joined : {X : Type 0} (R : X → X → Type 0) (xs ys : List X) → AllPairs R xs → AllPairs R ys → All (λ x. All (R x) ys) xs → AllPairs R (xs ++ ys)
joined R [] ys p q across = q
joined R (x ∷ xs) ys p q across =
    AllPairs-cons R x (xs ++ ys) (All-append (R x) xs ys (behind R x xs p) (All-head (λ a. All (R a) ys) x xs across))
    (joined R xs ys (rest_pairs R x xs p) q (All-tail (λ a. All (R a) ys) x xs across))
