-- Ports put in place and read again.
use Rattle.std.proofs.Common.{◌≡◌, ◌≢◌, ℕ, zero, suc, ◌<◌, List, [], ◌∷◌, length, Some, refl, ap, ◌∙◌, arith, inl, inr}
use Rattle.std.specs.Prelude.{slice_get, slice_set, get_or}
use Rattle.std.proofs.lemmas.List.{same_lists}
use Rattle.std.proofs.lemmas.Option.{get_or_from_slice_get, slice_get-get_or}
use Rattle.dip_negotiate.specs.Passes.{beside, picked}
use Rattle.dip_negotiate.specs.Demands.{IsOneOf}

pub get_set : {P : Type 0} (ports : List P) (number : ℕ) (port : P) → number < length ports → slice_get (slice_set ports number port) number ≡ Some port
get_set [] number port h = absurd (omega arith)
get_set (p ∷ ports) zero port h = refl
get_set (p ∷ ports) (suc number) port h = get_set ports number port (omega arith)

pub get_set_other : {P : Type 0} (ports : List P) (number other : ℕ) (port : P) → other ≢ number → slice_get (slice_set ports number port) other ≡ slice_get ports other
get_set_other [] number other port h = refl
get_set_other (p ∷ ports) zero zero port h = absurd (h refl)
get_set_other (p ∷ ports) zero (suc other) port h = refl
get_set_other (p ∷ ports) (suc number) zero port h = refl
get_set_other (p ∷ ports) (suc number) (suc other) port h = get_set_other ports number other port (λ e. h (ap suc e))

-- lists that agree at these numbers
pub same_picked : {P : Type 0} (a b : List P) (numbers : List ℕ) → ((x : ℕ) → IsOneOf x numbers → slice_get a x ≡ slice_get b x) → picked a numbers ≡ picked b numbers
same_picked a b [] h = refl
same_picked a b (x ∷ xs) h = ap (λ o. beside o (picked a xs)) (h x (inl refl)) ∙ ap (λ ps. beside (slice_get b x) ps) (same_picked a b xs (λ y i. h y (inr i)))

pub same_ports : {P : Type 0} (a b : List P) → length a ≡ length b → ((x : ℕ) → x < length a → slice_get a x ≡ slice_get b x) → a ≡ b
same_ports a b e h = same_lists a b e (λ k d l.
    get_or_from_slice_get a k (get_or b k d) d (h k l ∙ slice_get-get_or b k d (omega arith)))
