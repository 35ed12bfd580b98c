-- The greatest of a list, and the greatest address of a set.
use Rattle.std.proofs.Common.{ℕ, zero, suc, ◌≡◌, ◌<◌, ◌≤◌, inl, inr, min, max, List, [], ◌∷◌, length, get_or, bit_and, bit_or, ap, ◌∙◌, refl, subst, arith}
use Rattle.std.specs.Prelude.{Contains}
use Rattle.std.specs.Int.{bit_at}
use Rattle.std.proofs.lemmas.Nat.{and_le_r}
use Rattle.std.proofs.lemmas.Nat.Bits.{bit_at_and, bit_at_or, bit_at-lt, same_from_bits}
use Rattle.std.proofs.lemmas.Bool.{cases_lt}
use Rattle.dip_sets.specs.Sets.{Pattern, In}
use Rattle.tl_params.specs.Operations.{largest}
use Rattle.tl_params.specs.declared.ports.Slave.{Slave}
use Rattle.tl_edge.specs.Bundles.{greatest_of, last_address, greatest_address, largest_transfer, BitsLaw}
use Rattle.tl_edge.proofs.Widths.{bits_are_least, log_of-pow}

-- no item has a greater value
greatest_of-le : {A : Type 0} (value : A → ℕ) (xs : List A) (x : A) (k : ℕ) → k < length xs → get_or xs k x ≡ x → value x ≤ greatest_of value xs
greatest_of-le value [] x k h e = absurd (omega arith)
greatest_of-le value (y ∷ xs) x zero h e = omega (arith, ap value e)
greatest_of-le value (y ∷ xs) x (suc k) h e = omega (arith, greatest_of-le value xs x k (omega arith) e)

-- some item has it
record Found {A : Type 0} (value : A → ℕ) (xs : List A) : Type 0 where
  pub item : A
  pub listed : Contains xs item
  pub is : value item ≡ greatest_of value xs

found : {A : Type 0} (value : A → ℕ) (xs : List A) → 0 < greatest_of value xs → Found value xs
found value [] h = absurd (omega arith)
found value (x ∷ xs) h =
    elim (cases_lt (value x) (greatest_of value xs)) [
      | inl lt ↦
          let rest = found value xs (omega arith) in
          record { item = rest.item; listed = (suc rest.listed.0, omega (arith, rest.listed.1), rest.listed.2); is = omega (arith, rest.is) }
      | inr ge ↦ record { item = x; listed = (0, omega arith, refl); is = omega arith }
    ]

-- the address with all free bits set is in its set, and none in it is greater
one_bit : (m b x : ℕ) → m < 2 → b < 2 → x < 2 → (m ≡ 0 → x ≡ b) → min x (max b m) ≡ x
one_bit m b x hm hb hx h = grind arith

pub in_le : (set : Pattern) (x : ℕ) → In set x → x ≤ bit_or set.base set.mask
in_le set x h =
    let same : bit_and x (bit_or set.base set.mask) ≡ x = same_from_bits _ _ (λ i. bit_at_and x (bit_or set.base set.mask) i ∙ ap (λ (n : ℕ). min (bit_at x i) n) (bit_at_or set.base set.mask i)
    ∙ one_bit (bit_at set.mask i) (bit_at set.base i) (bit_at x i) (bit_at-lt _ i) (bit_at-lt _ i) (bit_at-lt _ i) (h i)) in
    omega (arith, same, and_le_r x (bit_or set.base set.mask))

last_in : (set : Pattern) → In set (bit_or set.base set.mask)
last_in set i h = bit_at_or set.base set.mask i ∙ omega arith

no_greater : (slaves : List Slave) (slave : Slave) (set : Pattern) (address : ℕ) → Contains slaves slave → Contains slave.addresses set → In set address → address ≤ greatest_address slaves
no_greater slaves slave set address in_slaves in_sets h =
    let one : bit_or set.base set.mask ≤ last_address slave.addresses = greatest_of-le (λ (s : Pattern). bit_or s.base s.mask) slave.addresses set in_sets.0 in_sets.1 in_sets.2 in
    let all : last_address slave.addresses ≤ greatest_address slaves = greatest_of-le (λ (s : Slave). last_address s.addresses) slaves slave in_slaves.0 in_slaves.1 in_slaves.2 in
    omega (arith, in_le set address h)

greatest : (slaves : List Slave) → 0 < greatest_address slaves → (slave : Slave) × Contains slaves slave × ((set : Pattern) × Contains slave.addresses set × In set (greatest_address slaves))
greatest slaves h =
    let one = found (λ (s : Slave). last_address s.addresses) slaves h in
    let set = found (λ (s : Pattern). bit_or s.base s.mask) one.item.addresses (omega (arith, one.is)) in
    let P : ℕ → Type 0 = λ n. In set.item n in
    (one.item, one.listed, (set.item, set.listed, subst P (set.is ∙ one.is) (last_in set.item)))

largest_one : (slaves : List Slave) → 0 < largest_transfer slaves → (slave : Slave) × Contains slaves slave × (largest slave.supports ≡ largest_transfer slaves)
largest_one slaves h = let one = found (λ (s : Slave). largest s.supports) slaves h in (one.item, one.listed, one.is)

pub bits_law : BitsLaw
bits_law = record {
  bits = bits_are_least;
  no_greater = no_greater;
  greatest = greatest;
  no_larger = λ slaves slave listed. greatest_of-le (λ (s : Slave). largest s.supports) slaves slave listed.0 listed.1 listed.2;
  largest_one = largest_one;
  exponent = log_of-pow;
}
