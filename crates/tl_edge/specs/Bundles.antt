-- The widths of an edge's wires: the least numbers of bits that hold what crosses it.
use Rattle.std.specs.Prelude.{ℕ, zero, suc, ◌-◌, ◌/◌, ◌^◌, ◌<◌, ◌≤◌, ◌≡◌, List, [], ◌∷◌, Contains, max, bit_or}
use Rattle.dip_sets.specs.Sets.{Pattern, In, InSome}
use Rattle.dip_sets.specs.SizeRanges.{HasSize}
use Rattle.tl_params.specs.Operations.{largest, sizes_of}
use Rattle.tl_params.specs.declared.ops.Op.{Op}
use Rattle.tl_params.specs.declared.ports.Slave.{Slave}
use Rattle.tl_edge.specs.declared.bundle.Bundle.{Bundle}

-- the least number of bits, at least one, that hold a number
pub record IsLeastBits (n bits : ℕ) : Type 0 where
  pub some : 1 ≤ bits
  pub holds : n < 2 ^ bits
  pub least : (fewer : ℕ) → 1 ≤ fewer → n < 2 ^ fewer → bits ≤ fewer

-- how often a number can be halved until nothing is left, so many times at most
unfoldable pub halvings : ℕ → ℕ → ℕ
halvings zero n = 0
halvings (suc more) zero = 0
halvings (suc more) (suc n) = suc (halvings more (suc n / 2))

-- the number of a number's binary digits
abbrev pub digits_of : ℕ → ℕ
digits_of n = halvings n n

-- the same least number of bits, computed
abbrev pub bits_for : ℕ → ℕ
bits_for n = max 1 (digits_of n)

-- the base-2 logarithm of a power of two, and 0 for 0
abbrev pub log_of : ℕ → ℕ
log_of n = digits_of n - 1

-- the greatest value of a list's items, 0 where there is none
abbrev pub greatest_of : {A : Type 0} → (A → ℕ) → List A → ℕ
greatest_of value [] = 0
greatest_of value (x ∷ xs) = max (value x) (greatest_of value xs)

-- the greatest address in some sets: in each it is the one with all free bits set
abbrev pub last_address : List Pattern → ℕ
last_address sets = greatest_of (λ s. bit_or s.base s.mask) sets

-- the greatest address that a slave answers
abbrev pub greatest_address : List Slave → ℕ
greatest_address slaves = greatest_of (λ slave. last_address slave.addresses) slaves

-- the bytes of the largest transfer that a slave supports
abbrev pub largest_transfer : List Slave → ℕ
largest_transfer slaves = greatest_of (λ slave. largest slave.supports) slaves

-- what these numbers mean: no slave answers a greater address and one answers it, if any answers any; likewise for
-- transfers, whose exponent is the logarithm
pub record BitsLaw : Type 0 where
  pub bits : (n : ℕ) → IsLeastBits n (bits_for n)
  pub no_greater : (slaves : List Slave) (slave : Slave) (set : Pattern) (address : ℕ) → Contains slaves slave
      → Contains slave.addresses set → In set address → address ≤ greatest_address slaves
  pub greatest : (slaves : List Slave) → (0 < greatest_address slaves)
      → (slave : Slave) × Contains slaves slave
      × ((set : Pattern) × Contains slave.addresses set × In set (greatest_address slaves))
  pub no_larger : (slaves : List Slave) (slave : Slave) → Contains slaves slave
      → largest slave.supports ≤ largest_transfer slaves
  pub largest_one : (slaves : List Slave) → 0 < largest_transfer slaves
      → (slave : Slave) × Contains slaves slave × (largest slave.supports ≡ largest_transfer slaves)
  pub exponent : (k : ℕ) → log_of (2 ^ k) ≡ k

-- the bundle of an edge with some slaves, ids from 0 to below an end, and a bus of some bytes
abbrev pub bundle : List Slave → ℕ → ℕ → Bundle
bundle slaves ids width = record {
  address_bits = bits_for (greatest_address slaves);
  data_bytes = width;
  source_bits = bits_for (ids - 1);
  size_bits = bits_for (log_of (largest_transfer slaves));
}

-- what the wires of a bundle hold: the source's each id below the end and no bit too many, the address's each address
-- that a slave answers and no bit too many, the size's each exponent of a transfer that a slave supports
pub record BundleLaw : Type 0 where
  pub ids : (slaves : List Slave) (ids width id : ℕ) → id < ids → id < 2 ^ (bundle slaves ids width).source_bits
  pub least_ids : (slaves : List Slave) (ids width bits : ℕ) → 1 ≤ bits → ((id : ℕ) → id < ids → id < 2 ^ bits)
      → (bundle slaves ids width).source_bits ≤ bits
  pub addresses : (slaves : List Slave) (ids width : ℕ) (slave : Slave) (address : ℕ) → Contains slaves slave
      → InSome slave.addresses address → address < 2 ^ (bundle slaves ids width).address_bits
  pub least_addresses : (slaves : List Slave) (ids width bits : ℕ) → 1 ≤ bits
      → ((slave : Slave) (address : ℕ) → Contains slaves slave → InSome slave.addresses address → address < 2 ^ bits)
      → (bundle slaves ids width).address_bits ≤ bits
  pub sizes : (slaves : List Slave) (ids width : ℕ) (slave : Slave) (op : Op) (size : ℕ) → Contains slaves slave
      → HasSize (sizes_of slave.supports op) (2 ^ size) → size < 2 ^ (bundle slaves ids width).size_bits
