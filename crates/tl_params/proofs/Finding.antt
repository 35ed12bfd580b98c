-- The first of some items with a property, as a loop finds it, and the owner of an address, as it finds that one.
use Rattle.std.proofs.Common.{ℕ, ◌≡◌, ◌<◌, ◌≤◌, ◌+◌, ◌⊎◌, ⊎_elim, List, ◌∷◌, Bool, false, cond, ◌||◌, Any, Option, Some, unwrap_or, length, drop, refl, sym, ◌∙◌, ap, subst, arith}
use Rattle.std.specs.Prelude.{slice_get, slice_index_or}
use Rattle.std.specs.List.{list_any}
use Rattle.std.proofs.lemmas.List.{drop_more, drop_all}
use Rattle.std.proofs.lemmas.Option.{slice_get_read, slice_get_within, get_or_from_slice_get}
use Rattle.dip_sets.specs.Sets.{InSome}
use Rattle.dip_sets.proofs.Lists.{any_cases, any_none}
use Rattle.tl_params.specs.declared.ports.Slave.{Slave}
use Rattle.tl_params.specs.OwnerLaw.{Owns}
use Rattle.tl_params.specs.Owners.{holds, owner_from}

module _ {X : Type 0} where
  -- the item that a loop has read
  pub item_at : (items all : List X) (i : ℕ) (x : X) → items ≡ all → i < length items → x ≡ slice_index_or items i x → slice_get all i ≡ Some x
  item_at items all i x same within is = subst (λ l. slice_get l i ≡ Some x) same (slice_get_read items (length items) i x refl within is)

  -- what is left at a place is the item there and what is left behind it
  left_at : (all : List X) (i : ℕ) (x : X) → slice_get all i ≡ Some x → drop i all ≡ x ∷ drop (i + 1) all
  left_at all i x e =
      drop_more all i x (slice_get_within all i x e) ∙ ap (λ y. y ∷ drop (i + 1) all) (get_or_from_slice_get all i x x e)

  pub any_here : (P : X → Type 0) (all : List X) (i : ℕ) (x : X) → slice_get all i ≡ Some x → P x → Any P all
  any_here P all i x e p = (i, x, slice_get_within all i x e, get_or_from_slice_get all i x x e, p)

  -- an item without the property is passed over
  pub any_behind : (P : X → Type 0) (all : List X) (i : ℕ) (x : X) → slice_get all i ≡ Some x → (P x → ⊥) → Any P (drop i all) → Any P (drop (i + 1) all)
  any_behind P all i x e hasnt h =
      ⊎_elim (λ p. absurd (hasnt p)) (λ later. later)
      (any_cases P x (drop (i + 1) all) (subst (λ l. Any P l) (left_at all i x e) h))

  pub test_behind : (f : X → Bool) (all : List X) (i : ℕ) (x : X) → slice_get all i ≡ Some x → f x ≡ false → list_any f (drop i all) ≡ list_any f (drop (i + 1) all)
  test_behind f all i x e fails = ap (list_any f) (left_at all i x e) ∙ ap (λ b. b || list_any f (drop (i + 1) all)) fails

  pub any_past : (P : X → Type 0) (items all : List X) (i : ℕ) → items ≡ all → length items ≤ i → Any P (drop i all) → ⊥
  any_past P items all i same past h =
      any_none P (subst (λ l. Any P l) (drop_all i all (subst (λ l. length l ≤ i) same past)) h)

-- what the slave at a place owns
pub owns_at : (slaves : List Slave) (i : ℕ) (slave : Slave) (x : ℕ) → slice_get slaves i ≡ Some slave → Owns slaves i x → InSome slave.addresses x
owns_at slaves i slave x e (s, is, owns) =
    subst (λ (t : Slave). InSome t.addresses x) (ap (λ (o : Option Slave). unwrap_or o slave) (sym is ∙ e)) owns

before_or_at : (earlier i : ℕ) → earlier < i + 1 → (earlier < i) ⊎ (earlier ≡ i)
before_or_at earlier i h = grind arith

-- no slave before a place owns an address
abbrev pub NoneBefore : List Slave → ℕ → ℕ → Type 0
NoneBefore slaves i x = (earlier : ℕ) → earlier < i → Owns slaves earlier x → ⊥

pub none_behind : (slaves : List Slave) (i : ℕ) (slave : Slave) (x : ℕ) → slice_get slaves i ≡ Some slave → (InSome slave.addresses x → ⊥) → NoneBefore slaves i x → NoneBefore slaves (i + 1) x
none_behind slaves i slave x e hasnt before earlier within owns =
    ⊎_elim (λ l. before earlier l owns)
    (λ same. hasnt (owns_at slaves i slave x e (subst (λ n. Owns slaves n x) same owns)))
    (before_or_at earlier i within)

-- where no slave of a list is left, none owns the address
pub none_left : (slaves : List Slave) (i : ℕ) (x : ℕ) → length slaves ≤ i → NoneBefore slaves i x → (place : ℕ) → Owns slaves place x → ⊥
none_left slaves i x past before place owns = before place (omega (arith, slice_get_within slaves place owns.0 owns.1)) owns

-- a slave that doesn't hold an address is passed over
pub owner_behind : (slaves : List Slave) (i : ℕ) (slave : Slave) (x : ℕ) → slice_get slaves i ≡ Some slave → holds slave x ≡ false
    → owner_from i (drop i slaves) x ≡ owner_from (i + 1) (drop (i + 1) slaves) x
owner_behind slaves i slave x e fails =
    ap (λ l. owner_from i l x) (left_at slaves i slave e)
    ∙ ap (λ b. cond b (Some i) (owner_from (i + 1) (drop (i + 1) slaves) x)) fails
