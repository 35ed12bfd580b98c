-- The owner of an address among slaves that are joined from parts, as those of several edges are at a crossbar.
use Rattle.std.specs.Prelude.{ℕ, ◌≡◌, ◌↔◌, ◌+◌, List, All, Some, None, flat_map, length, slice_get, take}
use Rattle.tl_params.specs.declared.ports.Slave.{Slave}
use Rattle.tl_params.specs.Apart.{HaveDisjointSets}
use Rattle.tl_params.specs.OwnerLaw.{HaveSets}
use Rattle.tl_params.specs.Owners.{owner}

-- the slaves of some parts, in order
abbrev pub joined : List (List Slave) → List Slave
joined parts = flat_map (λ slaves. slaves) parts

-- a place in a part, moved by the slaves of the parts before it
abbrev pub moved_place : List (List Slave) → ℕ → ℕ → ℕ
moved_place parts part own = length (joined (take part parts)) + own

-- one part has an owner of the address, at a place that is moved to this one, and no other part has one
pub record IsOwnedInOnePart (parts : List (List Slave)) (address place : ℕ) : Type 0 where
  pub part : ℕ
  pub own : ℕ
  pub slaves : List Slave
  pub is : slice_get parts part ≡ Some slaves
  pub owns : owner slaves address ≡ Some own
  pub moved : place ≡ moved_place parts part own
  pub alone : (other : ℕ) (others : List Slave) → slice_get parts other ≡ Some others → (other ≡ part → ⊥)
      → owner others address ≡ None

-- where no address is in two sets of the joined slaves, an owner among them is one of one part, and an owner in a part
-- is one among them; there is none among them exactly where no part has one
pub record JoinedOwnersLaw : Type 0 where
  pub some : (parts : List (List Slave)) (address place : ℕ) → HaveSets (joined parts) → HaveDisjointSets (joined parts)
      → owner (joined parts) address ≡ Some place → IsOwnedInOnePart parts address place
  pub back : (parts : List (List Slave)) (address part own : ℕ) (slaves : List Slave) → HaveSets (joined parts)
      → HaveDisjointSets (joined parts) → slice_get parts part ≡ Some slaves → owner slaves address ≡ Some own
      → owner (joined parts) address ≡ Some (moved_place parts part own)
  pub none : (parts : List (List Slave)) (address : ℕ) → HaveSets (joined parts)
      → (owner (joined parts) address ≡ None) ↔ All (λ slaves. owner slaves address ≡ None) parts
