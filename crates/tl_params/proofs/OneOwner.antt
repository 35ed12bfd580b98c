-- Where sets are disjoint, two slaves with the same address are one.
use Rattle.std.proofs.Common.{◌≡◌, ℕ, zero, suc, ⊎_elim, List, [], ◌∷◌, ◌++◌, Option, Some, None, unwrap_or, refl, sym, ap, subst}
use Rattle.std.specs.Prelude.{All, AllPairs, Contains, slice_get}
use Rattle.std.specs.Option.{IsSomeAnd}
use Rattle.std.proofs.lemmas.List.Elements.{All-contains, All-weaker, Contains-append_left, Contains-append_right}
use Rattle.dip_lists.proofs.Pairs.{nowhere, within_cases, behind, rest_pairs}
use Rattle.dip_sets.specs.Sets.{Pattern, InSome, Disjoint}
use Rattle.tl_params.specs.declared.ports.Slave.{Slave}
use Rattle.tl_params.specs.declared.ports.UpPort.{UpPort}
use Rattle.tl_params.specs.OwnerLaw.{Owns, IsOwner}
use Rattle.tl_params.specs.Owners.{owner, sets_of}
use Rattle.tl_params.proofs.OwnedBy.{owners}
use Rattle.tl_params.specs.Apart.{HaveDisjointSets, HasDisjointSets, HasOneOwnerEach, OneOwnerLaw, OnlyOwnerLaw}

-- an element of a list and one of the list behind it
across : {X : Type 0} (R : X → X → Type 0) (xs ys : List X) (x y : X) → AllPairs R (xs ++ ys) → Contains xs x → Contains ys y → R x y
across R [] ys x y h in_xs in_ys = absurd (nowhere x in_xs)
across R (a ∷ xs) ys x y h in_xs in_ys =
    ⊎_elim
    (λ e. subst (λ b. R b y) e (All-contains (R a) (xs ++ ys) y (behind R a (xs ++ ys) h) (Contains-append_right xs ys y in_ys)))
    (λ later. across R xs ys x y (rest_pairs R a (xs ++ ys) h) later in_ys)
    (within_cases a x xs in_xs)

back_pairs : {X : Type 0} (R : X → X → Type 0) (xs ys : List X) → AllPairs R (xs ++ ys) → AllPairs R ys
back_pairs R [] ys h = h
back_pairs R (x ∷ xs) ys h = back_pairs R xs ys (rest_pairs R x (xs ++ ys) h)

-- the sets of a slave are among those of all
among : (slaves : List Slave) (place : ℕ) (slave : Slave) (s : Pattern) → slice_get slaves place ≡ Some slave → Contains slave.addresses s → Contains (sets_of slaves) s
among [] place slave s here h = absurd (cc)
among (a ∷ slaves) zero slave s here h =
    Contains-append_left a.addresses (sets_of slaves) s (subst (λ (o : Option Slave). IsSomeAnd o (λ b. Contains b.addresses s)) (sym here) h)
among (a ∷ slaves) (suc place) slave s here h = Contains-append_right a.addresses (sets_of slaves) s (among slaves place slave s here h)

-- a slave has no address of one behind it
not_both : (a : Slave) (slaves : List Slave) (first slave : Slave) (place x : ℕ) → AllPairs Disjoint (sets_of (a ∷ slaves)) → Some a ≡ Some first → slice_get slaves place ≡ Some slave → InSome first.addresses x → InSome slave.addresses x → ⊥
not_both a slaves first slave place x apart is here h k =
    let mine : InSome a.addresses x = subst (λ (o : Option Slave). IsSomeAnd o (λ b. InSome b.addresses x)) (sym is) h in
    across Disjoint a.addresses (sets_of slaves) mine.1 k.1 apart (mine.0, mine.2, mine.3) (among slaves place slave k.1 here (k.0, k.2, k.3)) x mine.4 k.4

one_place : (slaves : List Slave) (place other : ℕ) (a b : Slave) (x : ℕ) → AllPairs Disjoint (sets_of slaves) → slice_get slaves place ≡ Some a → slice_get slaves other ≡ Some b
    → InSome a.addresses x → InSome b.addresses x → place ≡ other
one_place [] place other a b x apart here there h k = absurd (cc)
one_place (s ∷ slaves) zero zero a b x apart here there h k = refl
one_place (s ∷ slaves) zero (suc other) a b x apart here there h k = absurd (not_both s slaves a b other x apart here there h k)
one_place (s ∷ slaves) (suc place) zero a b x apart here there h k = absurd (not_both s slaves b a place x apart there here k h)
one_place (s ∷ slaves) (suc place) (suc other) a b x apart here there h k =
    ap (λ n. suc n) (one_place slaves place other a b x (back_pairs Disjoint s.addresses (sets_of slaves) apart) here there h k)

-- two places of disjoint slaves that own an address are one
pub same_place : (slaves : List Slave) (place other x : ℕ) → HaveDisjointSets slaves → Owns slaves place x → Owns slaves other x → place ≡ other
same_place slaves place other x apart owns same = one_place slaves place other owns.0 same.0 x apart owns.1 same.1 owns.2 same.2

pub one_owner : OneOwnerLaw
one_owner up apart address place other owns same = one_place up.slaves place other owns.0 same.0 address apart owns.1 same.1 owns.2 same.2

pub one_owner_each : (ups : List UpPort) → All HasDisjointSets ups → All HasOneOwnerEach ups
one_owner_each ups apart = All-weaker HasDisjointSets HasOneOwnerEach one_owner ups apart

-- what is answered as the owner owns the address
pub answered : (slaves : List Slave) (x : ℕ) (answer : Option ℕ) (place : ℕ) → IsOwner slaves x answer → answer ≡ Some place → Owns slaves place x
answered slaves x None place is e = absurd (cc)
answered slaves x (Some own) place is e =
    let same : own ≡ place = ap (λ (o : Option ℕ). unwrap_or o own) e in
    subst (λ n. Owns slaves n x) same is.0

-- where some slave owns the address, it is answered
found : (slaves : List Slave) (x : ℕ) (answer : Option ℕ) (place : ℕ) → HaveDisjointSets slaves → IsOwner slaves x answer → Owns slaves place x → answer ≡ Some place
found slaves x None place apart is owns = absurd (is place owns)
found slaves x (Some own) place apart is owns = ap (λ n. Some n) (same_place slaves own place x apart is.0 owns)

pub only_owner : OnlyOwnerLaw
only_owner slaves x place sets apart =
    (answered slaves x (owner slaves x) place (owners slaves x sets), found slaves x (owner slaves x) place apart (owners slaves x sets))
