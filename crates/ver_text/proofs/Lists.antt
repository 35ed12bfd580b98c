-- Lists joined, and places in them.
use Rattle.std.proofs.Common.{ℕ, ◌≡◌, zero, suc, List, [], ◌∷◌, ◌++◌, refl, append_assoc}
use Rattle.std.proofs.lemmas.List.{append-nil}
use Rattle.std.specs.Prelude.{slice_get, slice_index, unwrap_or}

pub ruleset joined = (append_assoc, append-nil)

pub index_get : (xs : List ℕ) (k : ℕ) → unwrap_or (slice_get xs k) 0 ≡ slice_index xs k
index_get [] k = refl
index_get (x ∷ xs) zero = refl
index_get (x ∷ xs) (suc k) = index_get xs k

-- four pieces put at the end of a list, one after another
pub four_added : (old a b c new p q r s : List ℕ) → a ≡ old ++ p → b ≡ a ++ q → c ≡ b ++ r → new ≡ c ++ s → new ≡ old ++ (p ++ (q ++ (r ++ s)))
four_added old a b c new p q r s ea eb ec en = rw (en, ec, eb, ea) (simp append_assoc)
