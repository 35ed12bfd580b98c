-- What the owner of an address means: the slave one of whose sets has the address.
use Rattle.std.specs.Prelude.{ℕ, ◌≡◌, ◌<◌, List, All, Option, Some, None, slice_get}
use Rattle.dip_sets.specs.Sets.{IsSet, InSome}
use Rattle.tl_params.specs.declared.ports.Slave.{Slave}
use Rattle.tl_params.specs.Owners.{owner}

-- the slave at a place has a set with the address
abbrev pub Owns : List Slave → ℕ → ℕ → Type 0
Owns slaves place address = (slave : Slave) × (slice_get slaves place ≡ Some slave) × InSome slave.addresses address

-- each set keeps what every address set keeps
abbrev pub HaveSets : List Slave → Type 0
HaveSets slaves = All (λ (slave : Slave). All IsSet slave.addresses) slaves

-- an answered place owns the address, and is the first that does; where none is answered, none does
abbrev pub IsOwner : List Slave → ℕ → Option ℕ → Type 0
IsOwner slaves address (Some place) =
    Owns slaves place address × ((earlier : ℕ) → earlier < place → Owns slaves earlier address → ⊥)
IsOwner slaves address None = (place : ℕ) → Owns slaves place address → ⊥

-- what is computed as the owner of an address is it, for every number as an address
abbrev pub OwnersByMembers : Type 0
OwnersByMembers = (slaves : List Slave) (address : ℕ) → HaveSets slaves → IsOwner slaves address (owner slaves address)
