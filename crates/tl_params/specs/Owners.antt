-- Who answers an address, and which ids a port's masters have.
use Rattle.std.specs.Prelude.{ℕ, ◌≡◌, ◌≤◌, ◌⊎◌, ◌+◌, All, Any, List, [], ◌∷◌, ◌++◌, Bool, cond, max, Option, Some, None}
use Rattle.std.specs.List.{list_any}
use Rattle.dip_sets.specs.Sets.{Pattern, is_in}
use Rattle.tl_params.specs.declared.ports.Master.{Master}
use Rattle.tl_params.specs.declared.ports.Slave.{Slave}

-- one of the slave's sets holds the address
abbrev pub holds : Slave → ℕ → Bool
holds slave address = list_any (λ s. is_in s address) slave.addresses

-- the place, counted from a first one, of the first slave that holds the address
abbrev pub owner_from : ℕ → List Slave → ℕ → Option ℕ
owner_from place [] address = None
owner_from place (slave ∷ slaves) address =
    cond (holds slave address) (Some place) (owner_from (place + 1) slaves address)

-- the place of the first slave that holds the address
abbrev pub owner : List Slave → ℕ → Option ℕ
owner slaves address = owner_from 0 slaves address

-- the address sets of some slaves, in order
abbrev pub sets_of : List Slave → List Pattern
sets_of [] = []
sets_of (slave ∷ slaves) = slave.addresses ++ sets_of slaves

-- the greatest end of the masters' id ranges, 0 where there is none
abbrev pub largest_end : List Master → ℕ
largest_end [] = 0
largest_end (master ∷ masters) = max master.ids.end (largest_end masters)

-- no master's ids end later, and some master's end there; 0 where there is no master
pub record IsLargestEnd (masters : List Master) (end : ℕ) : Type 0 where
  pub bound : All (λ (master : Master). master.ids.end ≤ end) masters
  pub attained : ((masters ≡ []) × (end ≡ 0)) ⊎ Any (λ (master : Master). master.ids.end ≡ end) masters
