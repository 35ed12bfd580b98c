-- Ports put in place, and ports picked one by one.
use Rattle.std.proofs.Common.{◌≡◌, ℕ, zero, suc, ◌≤◌, ◌<◌, get_or, List, [], ◌∷◌, ◌++◌, length, Option, Some, None, refl, ap, ◌∙◌, arith}
use Rattle.std.specs.Prelude.{slice_get, slice_set}
use Rattle.std.proofs.lemmas.Option.{slice_get_past, slice_get_read}
use Rattle.std.proofs.lemmas.List.{append-nil, append_assoc}
use Rattle.dip_negotiate.specs.Passes.{beside}

pub set_past : {P : Type 0} (ports : List P) (number : ℕ) (port : P) → length ports ≤ number → slice_set ports number port ≡ ports
set_past [] number port h = refl
set_past (x ∷ ports) zero port h = absurd (omega arith)
set_past (x ∷ ports) (suc number) port h = ap (λ xs. x ∷ xs) (set_past ports number port (omega arith))

pub beside_more : {P : Type 0} (some : List P) (o : Option P) (rest : List P) → (some ++ beside o []) ++ rest ≡ some ++ beside o rest
beside_more some None rest = ap (λ xs. xs ++ rest) (append-nil some)
beside_more some (Some port) rest = append_assoc some (port ∷ []) rest

pub past_all : {P : Type 0} (some ports : List P) (number : ℕ) → length ports ≤ number → some ++ beside (slice_get ports number) [] ≡ some
past_all some ports number h = ap (λ o. some ++ beside o []) (slice_get_past ports number h) ∙ append-nil some

pub picked_here : {P : Type 0} (some ports : List P) (number : ℕ) (port : P) → number < length ports → port ≡ get_or ports number port
    → some ++ beside (slice_get ports number) [] ≡ some ++ port ∷ []
picked_here some ports number port h e = ap (λ o. some ++ beside o []) (slice_get_read ports (length ports) number port refl h e)
