-- The bytes of an aligned transfer have one owner.
use Rattle.std.proofs.Common.{ℕ, ◌≡◌, ◌<◌, ◌≤◌, ◌%◌, List, length, All, arith, subst}
use Rattle.std.specs.Int.{IsPowerOfTwo}
use Rattle.std.specs.Prelude.{slice_index_or}
use Rattle.std.proofs.lemmas.Option.{get_or_from_slice_get, slice_get_within}
use Rattle.dip_sets.specs.Regions.{InRegion}
use Rattle.dip_sets.specs.Sets.{IsSet, InSome, alignment}
use Rattle.dip_sets.proofs.Whole.{whole_blocks}
use Rattle.tl_params.specs.declared.ports.Slave.{Slave}
use Rattle.tl_params.specs.Aligned.{IsAligned}
use Rattle.tl_params.specs.Operations.{largest}
use Rattle.tl_params.specs.Transfers.{TransfersLaw}
use Rattle.tl_params.proofs.Finding.{owns_at}
use Rattle.tl_params.proofs.OneOwner.{only_owner}

-- a fact of each item is one of the item that stands at a place
at_place : {X : Type 0} (P : X → Type 0) (xs : List X) (i : ℕ) (x : X) → All P xs → i < length xs → slice_index_or xs i x ≡ x → P x
at_place P xs i x h within is = subst P is (h i x within)

-- the set that has one byte of the transfer has the others
whole_sets : (slave : Slave) (start bytes byte other : ℕ) → All IsSet slave.addresses → IsAligned slave → IsPowerOfTwo bytes → start % bytes ≡ 0 → bytes ≤ largest slave.supports
    → InRegion start bytes byte → InSome slave.addresses byte → InRegion start bytes other → InSome slave.addresses other
whole_sets slave start bytes byte other sets aligned power multiple within here (i, s, below, is, inside) there =
    let small : bytes ≤ alignment s = omega (arith, at_place (λ s. largest slave.supports ≤ alignment s) slave.addresses i s aligned below is) in
    (i, s, below, is, whole_blocks s start bytes byte other (at_place IsSet slave.addresses i s sets below is) power multiple small here inside there)

pub transfers : TransfersLaw
transfers slaves place slave start bytes byte other sets apart is aligned power multiple within here owns there =
    let own = owns_at slaves place slave byte is ((only_owner slaves byte place sets apart).0 owns) in
    let has : All IsSet slave.addresses =
    at_place (λ (s : Slave). All IsSet s.addresses) slaves place slave sets (slice_get_within slaves place slave is) (get_or_from_slice_get slaves place slave slave is) in
    (only_owner slaves other place sets apart).1
    (slave, is, whole_sets slave start bytes byte other has aligned power multiple within here own there)
