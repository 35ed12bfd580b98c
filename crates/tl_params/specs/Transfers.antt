-- Who owns the bytes of an aligned transfer.
use Rattle.std.specs.Prelude.{ℕ, ◌≡◌, ◌≤◌, ◌%◌, List, Some, slice_get}
use Rattle.std.specs.Int.{IsPowerOfTwo}
use Rattle.dip_sets.specs.Regions.{InRegion}
use Rattle.tl_params.specs.declared.ports.Slave.{Slave}
use Rattle.tl_params.specs.Aligned.{IsAligned}
use Rattle.tl_params.specs.Apart.{HaveDisjointSets}
use Rattle.tl_params.specs.Operations.{largest}
use Rattle.tl_params.specs.OwnerLaw.{HaveSets}
use Rattle.tl_params.specs.Owners.{owner}

-- where the owner of one byte of an aligned transfer has a largest transfer of at least so many bytes, and its sets are
-- aligned to that, it owns each byte of the transfer
abbrev pub TransfersLaw : Type 0
TransfersLaw =
    (slaves : List Slave) (place : ℕ) (slave : Slave) (start bytes byte other : ℕ)
    → HaveSets slaves → HaveDisjointSets slaves → slice_get slaves place ≡ Some slave → IsAligned slave
    → IsPowerOfTwo bytes → start % bytes ≡ 0 → bytes ≤ largest slave.supports
    → InRegion start bytes byte → owner slaves byte ≡ Some place
    → InRegion start bytes other → owner slaves other ≡ Some place
