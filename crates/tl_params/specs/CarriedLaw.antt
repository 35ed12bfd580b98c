-- What it means that an edge carries what another one shows.
use Rattle.std.specs.Prelude.{◌≡◌, Option, None, IsTrue}
use Rattle.dip_sets.specs.SizeRanges.{SizeRange, IsWithin}
use Rattle.tl_params.specs.declared.ops.Op.{Op}
use Rattle.tl_params.specs.declared.ports.Slave.{Slave}
use Rattle.tl_params.specs.Operations.{sizes_of}
use Rattle.tl_params.specs.Carried.{slave_fits}

-- two slaves are one place with the same addresses
pub record IsSamePlace (s t : Slave) : Type 0 where
  pub node : s.node ≡ t.node
  pub port : s.port ≡ t.port
  pub addresses : s.addresses ≡ t.addresses

-- a slave that fits is the same one; where nothing is cut it has each size of each operation, and an atomic operation
-- or an intent is never cut
pub record CarriedLaw : Type 0 where
  pub same : (pieces : Option SizeRange) (s t : Slave) → IsTrue (slave_fits pieces s t) → IsSamePlace s t
  pub whole : (s t : Slave) → IsTrue (slave_fits None s t) → (op : Op)
      → IsWithin (sizes_of s.supports op) (sizes_of t.supports op)
  pub arithmetic : (pieces : Option SizeRange) (s t : Slave) → IsTrue (slave_fits pieces s t)
      → IsWithin s.supports.arithmetic t.supports.arithmetic
  pub logical : (pieces : Option SizeRange) (s t : Slave) → IsTrue (slave_fits pieces s t)
      → IsWithin s.supports.logical t.supports.logical
  pub intent : (pieces : Option SizeRange) (s t : Slave) → IsTrue (slave_fits pieces s t)
      → IsWithin s.supports.intent t.supports.intent
