-- Whether one edge carries what another shows: the same slaves, and no more promised than is supported.
use Rattle.std.specs.Prelude.{List, [], ◌∷◌, Bool, true, false, ◌&&◌, ◌||◌, ◌==◌, nat_le, Option, Some, None}
use Rattle.dip_sets.specs.Sets.{Pattern}
use Rattle.dip_sets.specs.SizeRanges.{SizeRange, has_size, is_within, meet}
use Rattle.tl_params.specs.declared.ops.Ops.{Ops}
use Rattle.tl_params.specs.declared.ports.Slave.{Slave}

-- two lists are equally long, and a test holds at each place
abbrev pub all_zip : {A B : Type 0} → (A → B → Bool) → List A → List B → Bool
all_zip test [] [] = true
all_zip test [] (y ∷ ys) = false
all_zip test (x ∷ xs) [] = false
all_zip test (x ∷ xs) (y ∷ ys) = test x y && all_zip test xs ys

-- ---- slaves: both edges show the same ones in the same order

-- two sets have the same base and mask
abbrev pub is_same_set : Pattern → Pattern → Bool
is_same_set s t = s.base == t.base && s.mask == t.mask

-- two slaves have the same node, port and address sets
abbrev pub is_same_slave : Slave → Slave → Bool
is_same_slave s t = s.node == t.node && s.port == t.port && all_zip is_same_set s.addresses t.addresses

-- ---- supports: the in edge promises no more than the out edge

-- sizes that are cut: those up to a piece go on as they are, and larger ones as whole pieces. `pieces` are the sizes
-- that need no cutting, from 1 to that of a piece.
abbrev pub fits_pieces : SizeRange → SizeRange → SizeRange → Bool
fits_pieces pieces s t = is_within (meet s pieces) t && (nat_le s.max pieces.max || has_size t pieces.max)

-- sizes that are cut into pieces, or where there are none pass whole
abbrev pub sizes_fit : Option SizeRange → SizeRange → SizeRange → Bool
sizes_fit None s t = is_within s t
sizes_fit (Some pieces) s t = fits_pieces pieces s t

-- the sizes of each operation fit; those of atomic operations and of intents are never cut
abbrev pub ops_fit : Option SizeRange → Ops → Ops → Bool
ops_fit pieces s t =
    sizes_fit pieces s.get t.get
    && sizes_fit pieces s.put_full t.put_full
    && sizes_fit pieces s.put_partial t.put_partial
    && is_within s.arithmetic t.arithmetic
    && is_within s.logical t.logical
    && is_within s.intent t.intent

-- a slave that an edge shows is the real one, and promises no more
abbrev pub slave_fits : Option SizeRange → Slave → Slave → Bool
slave_fits pieces s t = is_same_slave s t && ops_fit pieces s.supports t.supports

-- each shown slave fits the real one at its place, and there are as many of both
abbrev pub slaves_fit : Option SizeRange → List Slave → List Slave → Bool
slaves_fit pieces shown real = all_zip (slave_fits pieces) shown real
