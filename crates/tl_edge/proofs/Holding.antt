-- What the wires of a bundle hold.
use Rattle.std.proofs.Common.{ℕ, ◌-◌, ◌^◌, ◌<◌, ◌≤◌, inl, inr, List, arith, pow_pos}
use Rattle.std.specs.Prelude.{Contains}
use Rattle.std.proofs.lemmas.Bool.{cases_lt}
use Rattle.dip_sets.specs.Sets.{InSome}
use Rattle.dip_sets.specs.SizeRanges.{HasSize}
use Rattle.tl_params.specs.declared.ops.Op.{Op}
use Rattle.tl_params.specs.declared.ports.Slave.{Slave}
use Rattle.tl_params.specs.Operations.{sizes_of}
use Rattle.tl_params.proofs.Largest.{largest_is}
use Rattle.tl_edge.specs.Bundles.{digits_of, log_of, greatest_address, largest_transfer, bundle, BundleLaw}
use Rattle.tl_edge.proofs.Widths.{bits_are_least, digits_holds, exponents-lt}
use Rattle.tl_edge.proofs.Greatest.{bits_law}

-- numbers below an end fit the bits of the greatest of them
ids_fit : (slaves : List Slave) (ids width id : ℕ) → id < ids → id < 2 ^ (bundle slaves ids width).source_bits
ids_fit slaves ids width id below = omega (arith, (bits_are_least (ids - 1)).holds)

least_ids : (slaves : List Slave) (ids width bits : ℕ) → 1 ≤ bits → ((id : ℕ) → id < ids → id < 2 ^ bits) → (bundle slaves ids width).source_bits ≤ bits
least_ids slaves ids width bits some hold = (bits_are_least (ids - 1)).least bits some last
  where
    last : ids - 1 < 2 ^ bits
    last = elim (cases_lt 0 ids) [
      | inl any ↦ hold (ids - 1) (omega (arith, any))
      | inr none ↦ omega (arith, none, pow_pos bits)
    ]

addresses_fit : (slaves : List Slave) (ids width : ℕ) (slave : Slave) (address : ℕ) → Contains slaves slave → InSome slave.addresses address → address < 2 ^ (bundle slaves ids width).address_bits
addresses_fit slaves ids width slave address listed (k, set, below, is, member) =
    omega (arith, bits_law.no_greater slaves slave set address listed (k, below, is) member, (bits_are_least (greatest_address slaves)).holds)

least_addresses : (slaves : List Slave) (ids width bits : ℕ) → 1 ≤ bits → ((slave : Slave) (address : ℕ) → Contains slaves slave → InSome slave.addresses address → address < 2 ^ bits)
    → (bundle slaves ids width).address_bits ≤ bits
least_addresses slaves ids width bits some hold = (bits_are_least (greatest_address slaves)).least bits some last
  where
    last : greatest_address slaves < 2 ^ bits
    last = elim (cases_lt 0 (greatest_address slaves)) [
      | inl any ↦
          let at = bits_law.greatest slaves any in
          hold at.0 (greatest_address slaves) at.1 (at.2.1.0, at.2.0, at.2.1.1, at.2.1.2, at.2.2)
      | inr none ↦ omega (arith, none, pow_pos bits)
    ]

-- an exponent is at most the logarithm of what isn't below the power
exponent-le_log : (size n : ℕ) → 2 ^ size ≤ n → size ≤ log_of n
exponent-le_log size n h = let less : size < digits_of n = exponents-lt size (digits_of n) (omega (arith, h, digits_holds n)) in omega (arith, less)

sizes_fit : (slaves : List Slave) (ids width : ℕ) (slave : Slave) (op : Op) (size : ℕ) → Contains slaves slave → HasSize (sizes_of slave.supports op) (2 ^ size) → size < 2 ^ (bundle slaves ids width).size_bits
sizes_fit slaves ids width slave op size listed has =
    let within : 2 ^ size ≤ largest_transfer slaves = omega (arith, has.2, (largest_is slave.supports).bound op, bits_law.no_larger slaves slave listed) in
    omega (arith, exponent-le_log size (largest_transfer slaves) within, (bits_are_least (log_of (largest_transfer slaves))).holds)

pub bundle_law : BundleLaw
bundle_law = record {
  ids = ids_fit;
  least_ids = least_ids;
  addresses = addresses_fit;
  least_addresses = least_addresses;
  sizes = sizes_fit;
}
