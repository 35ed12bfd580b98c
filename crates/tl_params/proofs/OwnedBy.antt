-- The owner of an address by the members of the slaves' sets.
use Rattle.std.proofs.Common.{ℕ, zero, suc, ◌+◌, ◌<◌, ◌≡◌, inl, inr, List, [], ◌∷◌, Bool, true, false, cond, All, Option, Some, None, unwrap_or, refl, sym, ap, subst, arith}
use Rattle.std.specs.List.{list_any}
use Rattle.std.proofs.lemmas.Bool.{cases_Bool}
use Rattle.std.proofs.lemmas.List.Elements.{All-head, All-tail}
use Rattle.dip_sets.specs.Sets.{Pattern, IsSet, In, is_in, InSome}
use Rattle.dip_sets.proofs.Members.{is_in_from, in_from_test}
use Rattle.dip_sets.proofs.Lists.{any_head, any_tail, any_cases, any_none}
use Rattle.tl_params.specs.declared.ports.Slave.{Slave}
use Rattle.tl_params.specs.Owners.{holds, owner_from, owner}
use Rattle.tl_params.specs.OwnerLaw.{Owns, HaveSets, IsOwner, OwnersByMembers}

-- the test of some sets finds a member, and only a member
in_some : (sets : List Pattern) (x : ℕ) → All IsSet sets → list_any (λ s. is_in s x) sets ≡ true → InSome sets x
in_some [] x are test = absurd (grind arith)
in_some (s ∷ sets) x are test = elim (cases_Bool (is_in s x)) [
  | inl here ↦ any_head (λ s. In s x) s sets (in_from_test s x (All-head IsSet s sets are) here)
  | inr not_here ↦ any_tail (λ s. In s x) s sets (in_some sets x (All-tail IsSet s sets are) (rw not_here at test))
]

some_in : (sets : List Pattern) (x : ℕ) → All IsSet sets → InSome sets x → list_any (λ s. is_in s x) sets ≡ true
some_in [] x are h = absurd (any_none (λ s. In s x) h)
some_in (s ∷ sets) x are h = elim (any_cases (λ s. In s x) s sets h) [
  | inl here ↦ let t : is_in s x ≡ true = is_in_from s x (All-head IsSet s sets are) here in rw t refl
  | inr later ↦ let t : list_any (λ s. is_in s x) sets ≡ true = some_in sets x (All-tail IsSet s sets are) later in grind arith
]

-- the owner among slaves that are counted from a first place
abbrev IsFrom : ℕ → List Slave → ℕ → Option ℕ → Type 0
IsFrom start slaves x (Some place) =
    (at : ℕ) × (place ≡ start + at) × Owns slaves at x × ((earlier : ℕ) → earlier < at → Owns slaves earlier x → ⊥)
IsFrom start slaves x None = (place : ℕ) → Owns slaves place x → ⊥

-- the first of some slaves owns the address where it is the one at place 0
first_owns : (slave : Slave) (slaves : List Slave) (x : ℕ) → Owns (slave ∷ slaves) 0 x → InSome slave.addresses x
first_owns slave slaves x (s, is, owns) =
    let e : slave ≡ s = ap (λ (o : Option Slave). unwrap_or o slave) is in
    subst (λ (t : Slave). InSome t.addresses x) (sym e) owns

-- what the answer for later slaves says of all
later : (start : ℕ) (slave : Slave) (slaves : List Slave) (x : ℕ) (answer : Option ℕ) → (InSome slave.addresses x → ⊥)
    → IsFrom (start + 1) slaves x answer → IsFrom start (slave ∷ slaves) x answer
later start slave slaves x None not_here h = nowhere
  where
    nowhere : (place : ℕ) → Owns (slave ∷ slaves) place x → ⊥
    nowhere zero owns = not_here (first_owns slave slaves x owns)
    nowhere (suc place) owns = h place owns
later start slave slaves x (Some place) not_here (at, e, owns, first) =
    let none_earlier : (earlier : ℕ) → earlier < suc at → Owns (slave ∷ slaves) earlier x → ⊥ = before in
    (suc at, omega arith, owns, none_earlier)
  where
    before : (earlier : ℕ) → earlier < suc at → Owns (slave ∷ slaves) earlier x → ⊥
    before zero below owns = not_here (first_owns slave slaves x owns)
    before (suc earlier) below owns = first earlier (omega arith) owns

by_head : (start : ℕ) (slave : Slave) (slaves : List Slave) (x : ℕ) (own : Bool) → (own ≡ true → InSome slave.addresses x)
    → (own ≡ false → InSome slave.addresses x → ⊥) → IsFrom (start + 1) slaves x (owner_from (start + 1) slaves x)
    → IsFrom start (slave ∷ slaves) x (cond own (Some start) (owner_from (start + 1) slaves x))
by_head start slave slaves x true has hasnt h = (0, omega arith, (slave, refl, has refl), λ earlier below _. absurd (omega arith))
by_head start slave slaves x false has hasnt h = later start slave slaves x (owner_from (start + 1) slaves x) (hasnt refl) h

owned_from : (start : ℕ) (slaves : List Slave) (x : ℕ) → HaveSets slaves → IsFrom start slaves x (owner_from start slaves x)
owned_from start [] x are = λ place (s, is, owns). absurd (grind arith)
owned_from start (slave ∷ slaves) x are =
    let sets : All IsSet slave.addresses = All-head (λ (s : Slave). All IsSet s.addresses) slave slaves are in
    let rest : HaveSets slaves = All-tail (λ (s : Slave). All IsSet s.addresses) slave slaves are in
    let hasnt : holds slave x ≡ false → InSome slave.addresses x → ⊥ =
    λ none some. let t : list_any (λ s. is_in s x) slave.addresses ≡ true = some_in slave.addresses x sets some in absurd (cc) in
    by_head start slave slaves x (holds slave x) (in_some slave.addresses x sets) hasnt (owned_from (start + 1) slaves x rest)

from_zero : (slaves : List Slave) (x : ℕ) (answer : Option ℕ) → IsFrom 0 slaves x answer → IsOwner slaves x answer
from_zero slaves x None h = h
from_zero slaves x (Some place) (at, e, owns, first) =
    let same : at ≡ place = omega arith in
    subst (λ (p : ℕ). Owns slaves p x × ((earlier : ℕ) → earlier < p → Owns slaves earlier x → ⊥)) same (owns, first)

pub owners : OwnersByMembers
owners slaves x are = from_zero slaves x (owner slaves x) (owned_from 0 slaves x are)
