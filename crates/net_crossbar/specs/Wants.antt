-- Which heads want to go where.
use Rattle.std.specs.Prelude.{◌<◌, ◌&&◌, ℕ, List, is_some, length, slice_index_or}
use Rattle.dip_sets.specs.declared.ids.IdRange.{IdRange}
use Rattle.dip_sets.specs.Ids.{has_id}
use Rattle.tl_params.specs.declared.ports.Slave.{Slave}
use Rattle.tl_params.specs.Owners.{owner}
use Rattle.net_build.specs.declared.types.Wire.{Wire}
use Rattle.net_build.specs.Built.{Built, IsBit, IsWire}
use Rattle.net_build.specs.Columns.{no_wire}
use Rattle.net_build.specs.Values.{Tells, high}
use Rattle.net_paths.specs.declared.ids.IdBlock.{IdBlock}
use Rattle.net_paths.specs.Paths.{IsIdBlock}
use Rattle.net_crossbar.specs.Places.{AllAt}

-- a wire is 1 where a head is there and one of some slaves owns its address
pub record AsksOwner (b : Built) (slaves : List Slave) (valid address w : Wire) : Type 0 where
  pub bit : IsBit b w
  pub tells : Tells b w (λ v. high v valid && is_some (owner slaves (v address.number)))

-- a wire is 1 where a head is there and its id is in a range
pub record AsksRange (b : Built) (block : IdBlock) (valid id w : Wire) : Type 0 where
  pub bit : IsBit b w
  pub tells : (range : IdRange) → IsIdBlock range block
      → Tells b w (λ v. high v valid && has_id range (v id.number))

-- each of some rows has a wire of the builder at a place
pub record HasField (b : Built) (place : ℕ) (row : List Wire) : Type 0 where
  pub long : place < length row
  pub wire : IsWire b (slice_index_or row place no_wire)

abbrev pub HaveField : Built → ℕ → List (List Wire) → Type 0
HaveField b place rows = AllAt (λ k row. HasField b place row) rows
