-- Ports on which each address has at most one set, and so at most one owner.
use Rattle.std.specs.Prelude.{ℕ, ◌≡◌, ◌↔◌, List, AllPairs, Some}
use Rattle.dip_sets.specs.Sets.{Disjoint}
use Rattle.tl_params.specs.declared.ports.Slave.{Slave}
use Rattle.tl_params.specs.declared.ports.UpPort.{UpPort}
use Rattle.tl_params.specs.OwnerLaw.{Owns, HaveSets}
use Rattle.tl_params.specs.Owners.{owner, sets_of}

-- no address is in two sets of some slaves
abbrev pub HaveDisjointSets : List Slave → Type 0
HaveDisjointSets slaves = AllPairs Disjoint (sets_of slaves)

-- no address is in two sets of the port
abbrev pub HasDisjointSets : UpPort → Type 0
HasDisjointSets up = HaveDisjointSets up.slaves

-- each address has at most one owner: two places with it are the same place
abbrev pub HasOneOwnerEach : UpPort → Type 0
HasOneOwnerEach up =
    (address place other : ℕ) → Owns up.slaves place address → Owns up.slaves other address → place ≡ other

-- where no address is in two sets of a port, each address has at most one owner
abbrev pub OneOwnerLaw : Type 0
OneOwnerLaw = (up : UpPort) → HasDisjointSets up → HasOneOwnerEach up

-- where no address is in two sets, the owner of an address is exactly the slave that has it
abbrev pub OnlyOwnerLaw : Type 0
OnlyOwnerLaw =
    (slaves : List Slave) (address place : ℕ) → HaveSets slaves → HaveDisjointSets slaves
    → (owner slaves address ≡ Some place) ↔ Owns slaves place address
