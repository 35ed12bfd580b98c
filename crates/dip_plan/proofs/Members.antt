-- Members of lists, and the places at which tests hold.
use Rattle.std.proofs.Common.{◌≡◌, ℕ, zero, suc, ◌+◌, Bool, true, false, cond, List, [], ◌∷◌, Some, refl, sym, ap, ◌∙◌, arith, inl, inr}
use Rattle.std.specs.Prelude.{slice_get, AllPairs}
use Rattle.dip_lists.specs.First.{places}
use Rattle.tl_owners.proofs.Members.{In}

-- no list has no pairs
pub pairs_none : {X : Type 0} (R : X → X → Type 0) → AllPairs R []
pairs_none R i j d l m = absurd (omega arith)

-- what passes a test among numbered items is one of them
pub record IsPlace {A : Type 0} (test : ℕ → A → Bool) (from : ℕ) (xs : List A) (y : ℕ) : Type 0 where
  pub behind : ℕ
  pub item : A
  pub number : y ≡ from + behind
  pub is : slice_get xs behind ≡ Some item
  pub passes : test y item ≡ true

pub place_is : {A : Type 0} (test : ℕ → A → Bool) (from : ℕ) (xs : List A) (y : ℕ) → In y (places test from xs) → IsPlace test from xs y
place_is test from [] y h = absurd h
place_is test from (x ∷ xs) y h = at (test from x) refl h (λ i. place_is test (from + 1) xs y i)
  where
    later : IsPlace test (from + 1) xs y → IsPlace test from (x ∷ xs) y
    later f = let n = f.number in record { behind = suc f.behind; item = f.item; number = omega arith; is = f.is; passes = f.passes }

    at : (b : Bool) → test from x ≡ b → In y (cond b (from ∷ places test (from + 1) xs) (places test (from + 1) xs))
        → (In y (places test (from + 1) xs) → IsPlace test (from + 1) xs y) → IsPlace test from (x ∷ xs) y
    at true q (inl i) f = let z : y ≡ from + 0 = omega (arith, i) in record { behind = 0; item = x; number = z; is = refl; passes = ap (λ n. test n x) i ∙ q }
    at true q (inr i) f = later (f i)
    at false q i f = later (f i)

-- where a test holds nowhere it holds of no item
pub none_pass : {A : Type 0} (test : ℕ → A → Bool) (from : ℕ) (xs : List A) (k : ℕ) (x : A) → places test from xs ≡ [] → slice_get xs k ≡ Some x → test (from + k) x ≡ false
none_pass test from [] k x h e = absurd cc
none_pass test from (y ∷ ys) k x h e = at (test from y) refl h k e (λ j l i. none_pass test (from + 1) ys j x l i)
  where
    at : (b : Bool) → test from y ≡ b → cond b (from ∷ places test (from + 1) ys) (places test (from + 1) ys) ≡ [] → (k : ℕ) → slice_get (y ∷ ys) k ≡ Some x
        → ((j : ℕ) → places test (from + 1) ys ≡ [] → slice_get ys j ≡ Some x → test (from + 1 + j) x ≡ false) → test (from + k) x ≡ false
    at true q h k e f = absurd cc
    at false q h zero e f = let s : y ≡ x = cc in let z : from + 0 ≡ from = omega arith in ap (λ n. test n x) z ∙ ap (λ i. test from i) (sym s) ∙ q
    at false q h (suc j) e f = let z : from + suc j ≡ from + 1 + j = omega arith in ap (λ n. test n x) z ∙ f j h e
