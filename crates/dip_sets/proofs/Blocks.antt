-- Blocks of addresses, and regions that are split into them.
use Rattle.std.proofs.Common.{ℕ, zero, suc, ◌≡◌, ◌+◌, ◌-◌, ◌*◌, ◌/◌, ◌%◌, ◌^◌, ◌<◌, ◌≤◌, ◌⊎◌, ◌↔◌, inl, inr, min, List, [], ◌∷◌, ◌++◌, get_or, Bool, true, false, cond, ◌&&◌, ◌==◌, nat_le, Any, AllPairs, refl, ap, sym, ◌∙◌, subst, arith, w64, pow-suc, pow_pos, append-nil, le_antisymm, eq-or-lt_of_le, eq-zero-or-pos, add-mul, one-mul, bit_and}
use Rattle.std.specs.Int.{bit_at, trailing_zeros, IsPowerOfTwo}
use Rattle.std.proofs.Math.Nat.{pow-le-pow_right, div-mul-le_self, lt-div-mul-add, div-eq_of_lt-le}
use Rattle.std.proofs.lemmas.Nat.{mod-pow-add, shr_split, and_mask}
use Rattle.std.proofs.lemmas.Nat.Bits.{bit_at-zero, bit_at_ones, bit_at_ones_above, bit_at_cat_low, bit_at-trailing_zeros, same_from_bits}
use Rattle.std.proofs.lemmas.Bool.{cases_lt}
use Rattle.std.proofs.lemmas.Bool.Decides.{nat_tests}
use Rattle.std.proofs.lemmas.List.Elements.{Contains-get_or}
use Rattle.dip_sets.specs.Sets.{Pattern, In, Disjoint}
use Rattle.dip_sets.specs.Regions.{InRegion, IsBlock, block_set, IsSplit, block_below, first_sets, region_sets}
use Rattle.dip_sets.proofs.Lists.{any_head, any_tail, any_cases, any_none, pairs_cons, pairs_none}
use Rattle.dip_sets.proofs.Pieces.{shifted_bits}
use Rattle.dip_sets.proofs.Powers.{power_pos}
use Rattle.dip_sets.proofs.Bits.{shifted_one}
use Rattle.std.specs.Int.Count.{trailing_of_zero}

-- ---- powers of two that divide

-- so many low bits are 0
low_bits_clear : (n t : ℕ) → ((i : ℕ) → i < t → bit_at n i ≡ 0) → n % 2 ^ t ≡ 0
low_bits_clear n zero clear = omega arith
low_bits_clear n (suc t) clear =
    let step : n % 2 ^ (1 + t) ≡ bit_at n t * 2 ^ t + n % 2 ^ t = mod-pow-add n 1 t in
    let last : bit_at n t ≡ 0 = clear t (omega arith) in
    let rest : n % 2 ^ t ≡ 0 = low_bits_clear n t (λ i below. clear i (omega arith)) in
    ap (λ j. n % 2 ^ j) (omega arith) ∙ step ∙ rw (last, rest) (omega arith)

-- a power that divides a number isn't above one of its bits
divides_below : (n j t : ℕ) → n % 2 ^ j ≡ 0 → bit_at n t ≡ 1 → j ≤ t
divides_below n j t divides one = elim (cases_lt t j) [
  | inl lt ↦
      let whole : n / 2 ^ j * 2 ^ j + 0 ≡ n = omega (arith, shr_split n j) in
      let none : bit_at n t ≡ 0 = ap (λ m. bit_at m t) (sym whole) ∙ bit_at_cat_low (n / 2 ^ j) j 0 t lt ∙ bit_at-zero t in
      absurd (omega arith)
  | inr ge ↦ ge
]

powers_le : (i j : ℕ) → i ≤ j → 2 ^ i ≤ 2 ^ j
powers_le i j h = pow-le-pow_right {n = 2} (omega arith) {i = i} {j = j} h

pub exponent_le : (j l size : ℕ) → 2 ^ j ≤ size → size < 2 * 2 ^ l → j ≤ l
exponent_le j l size fits below = elim (cases_lt l j) [
  | inl lt ↦ let more = powers_le (suc l) j (omega arith) in absurd (omega (arith, pow-suc 2 l))
  | inr ge ↦ ge
]

pub block_from : (start size t l : ℕ) → ((i : ℕ) → i < t → bit_at start i ≡ 0) → (bit_at start t ≡ 1) ⊎ (l ≤ t) → 2 ^ l ≤ size → size < 2 * 2 ^ l
    → IsBlock start size (2 ^ min t l)
block_from start size t l clear top fits next = record {
  power = (min t l, refl);
  divides = low_bits_clear start (min t l) (λ i below. clear i (omega arith));
  fits = omega (arith, powers_le (min t l) l (omega arith));
  greatest = λ other (j, e) divides other_fits.
      let small : j ≤ l = exponent_le j l size (rw (← e) other_fits) next in
      let low : j ≤ min t l = elim top [
        | inl one ↦ let below : j ≤ t = divides_below start j t (rw (← e) divides) one in omega arith
        | inr above ↦ omega arith
      ] in
      rw e (powers_le j (min t l) low);
}

-- the block that trailing zeros and the logarithm of the size give
pub block_is_shift : (start size l : ℕ) → start < 2 ^ 64 → l < 64 → 2 ^ l ≤ size → size < 2 * 2 ^ l → IsBlock start size (1 * 2 ^ min (trailing_zeros w64 start) l % 2 ^ 64)
block_is_shift start size l fits short low high =
    rw (shifted_one (min (trailing_zeros w64 start) l) (omega arith)) (elim (eq-zero-or-pos start) [
      | inl none ↦
          let all : trailing_zeros w64 start ≡ 64 = ap (trailing_zeros w64) none ∙ trailing_of_zero 64 in
          block_from start size (trailing_zeros w64 start) l (λ i below. ap (λ n. bit_at n i) none ∙ bit_at-zero i) (inr (omega arith)) low high
      | inr some ↦
          let t = bit_at-trailing_zeros w64 start some fits in
          block_from start size (trailing_zeros w64 start) l t.2 (inl t.1) low high
    ])

pub ones_apart : (n k : ℕ) → n % 2 ^ k ≡ 0 → bit_and n (2 ^ k - 1) ≡ 0
ones_apart n k divides = and_mask n k ∙ divides

-- a block is a set
pub block_invariant : (start block : ℕ) → IsPowerOfTwo block → start % block ≡ 0 → start + block ≤ 2 ^ 48
    → (bit_and start (block - 1) ≡ 0) × (start < 2 ^ 48) × (block - 1 < 2 ^ 48)
block_invariant start block power divides fits =
    let one = power_pos block power in
    (subst (λ p. start % p ≡ 0 → bit_and start (p - 1) ≡ 0) (sym power.1) (ones_apart start power.0) divides, omega arith, omega arith)

-- ---- the numbers of a block

same_quotient : (x q p : ℕ) → 0 < p → (x / p ≡ q) ↔ ((q * p ≤ x) × (x < q * p + p))
same_quotient x q p some = (
  λ e. subst (λ q. (q * p ≤ x) × (x < q * p + p)) e (div-mul-le_self x p, lt-div-mul-add some),
  λ h. div-eq_of_lt-le p h.0 (rw (add-mul q 1 p, one-mul p) h.1),
)

block_bits : (start k x : ℕ) → In (block_set start (2 ^ k)) x ↔ (x / 2 ^ k ≡ start / 2 ^ k)
block_bits start k x = (
  λ h. same_from_bits _ _ (λ i. shifted_bits x k i ∙ h (k + i) (bit_at_ones_above k (k + i) (omega arith)) ∙ sym (shifted_bits start k i)),
  λ e i clear. elim (cases_lt i k) [
    | inl lt ↦ absurd (omega (arith, bit_at_ones k i lt))
    | inr ge ↦
        let there : k + (i - k) ≡ i = omega arith in
        ap (λ j. bit_at x j) (sym there) ∙ sym (shifted_bits x k (i - k)) ∙ ap (λ n. bit_at n (i - k)) e ∙ shifted_bits start k (i - k) ∙ ap (λ j. bit_at start j) there
  ],
)

pub multiple_members : (start block x : ℕ) → IsPowerOfTwo block → start % block ≡ 0 → In (block_set start block) x ↔ ((start ≤ x) × (x < start + block))
multiple_members start block x power multiple = subst (λ p. start % p ≡ 0 → In (block_set start p) x ↔ ((start ≤ x) × (x < start + p))) (sym power.1) (λ divides.
    let whole : start / 2 ^ power.0 * 2 ^ power.0 ≡ start = omega (arith, shr_split start power.0) in
    let range = same_quotient x (start / 2 ^ power.0) (2 ^ power.0) (pow_pos power.0) in
    let bits = block_bits start power.0 x in
    (λ m. rw whole at (range.0 (bits.0 m)), λ r. bits.1 (range.1 (rw whole r)))) multiple

block_members : (start size block x : ℕ) → IsBlock start size block → In (block_set start block) x ↔ ((start ≤ x) × (x < start + block))
block_members start size block x h = multiple_members start block x h.power h.divides

-- ---- the laws of a split

block_unique : (start size a b : ℕ) → IsBlock start size a → IsBlock start size b → a ≡ b
block_unique start size a b h k = le_antisymm (k.greatest a h.power h.divides h.fits) (h.greatest b k.power k.divides k.fits)

pub split_unique : (start size : ℕ) (a b : List Pattern) → IsSplit start size a → IsSplit start size b → a ≡ b
split_unique start size [] [] h k = refl
split_unique start size [] (t ∷ b) h (block, is, e, rest) = absurd (omega (arith, is.fits, is.power.1, pow_pos is.power.0))
split_unique start size (s ∷ a) [] (block, is, e, rest) k = absurd (omega (arith, is.fits, is.power.1, pow_pos is.power.0))
split_unique start size (s ∷ a) (t ∷ b) (block, is, e, rest) (block2, is2, e2, rest2) =
    let same : block ≡ block2 = block_unique start size block block2 is is2 in
    let later : a ≡ b = split_unique (start + block) (size - block) a b rest (rw (← same) at rest2) in
    let first : s ≡ t = e ∙ ap (block_set start) same ∙ sym e2 in
    cc

pub split_members : (start size : ℕ) (sets : List Pattern) → IsSplit start size sets → (x : ℕ) → Any (λ s. In s x) sets ↔ InRegion start size x
split_members start size [] h x = (λ a. absurd (any_none (λ s. In s x) a), λ (low, high). absurd (omega arith))
split_members start size (s ∷ sets) (block, is, e, rest) x =
    let here : In s x ↔ ((start ≤ x) × (x < start + block)) = rw e (block_members start size block x is) in
    let later = split_members (start + block) (size - block) sets rest x in
    let fits = is.fits in (
      λ a. elim (any_cases (λ s. In s x) s sets a) [
        | inl h ↦ let r = here.0 h in (r.0, omega arith)
        | inr h ↦ let r = later.0 h in (omega arith, omega arith)
      ],
      λ (low, high). elim (cases_lt x (start + block)) [
        | inl lt ↦ any_head (λ s. In s x) s sets (here.1 (low, lt))
        | inr ge ↦ any_tail (λ s. In s x) s sets (later.1 (ge, omega arith))
      ],
    )

pub split_apart : (start size : ℕ) (sets : List Pattern) → IsSplit start size sets → AllPairs Disjoint sets
split_apart start size [] h = pairs_none Disjoint
split_apart start size (s ∷ sets) (block, is, e, rest) =
    pairs_cons Disjoint s sets (λ j d within x first second.
    let here : In s x ↔ ((start ≤ x) × (x < start + block)) = rw e (block_members start size block x is) in
    let found = Contains-get_or sets j d within in
    let later = (split_members (start + block) (size - block) sets rest x).0 (found.0, get_or sets j d, found.1, found.2, second) in
    let before = here.0 first in
    omega arith)
    (split_apart (start + block) (size - block) sets rest)

-- ---- the split by the greatest block in turn

-- the greatest block of those up to an exponent
record IsBlockBelow (k start size block : ℕ) : Type 0 where
  power : IsPowerOfTwo block
  divides : start % block ≡ 0
  fits : block ≤ size
  greatest : (j : ℕ) → j ≤ k → start % 2 ^ j ≡ 0 → 2 ^ j ≤ size → 2 ^ j ≤ block

next_block : (k start size before : ℕ) (here : Bool) → (start % 2 ^ suc k == 0 && nat_le (2 ^ suc k) size) ≡ here
    → IsBlockBelow k start size before → IsBlockBelow (suc k) start size (cond here (2 ^ suc k) before)
next_block k start size before true e h =
    let both = test_true (start % 2 ^ suc k) (2 ^ suc k) size e in
    record {
      power = (suc k, refl);
      divides = both.0;
      fits = both.1;
      greatest = λ j small divides fits. powers_le j (suc k) small;
    }
  where
    test_true : (a b c : ℕ) → (a == 0 && nat_le b c) ≡ true → (a ≡ 0) × (b ≤ c)
    test_true a b c e = grind (arith, nat_tests)
next_block k start size before false e h = record {
  power = h.power;
  divides = h.divides;
  fits = h.fits;
  greatest = λ j small divides fits. elim (eq-or-lt_of_le small) [
    | inl same ↦ absurd (test_false (start % 2 ^ suc k) (2 ^ suc k) size e (rw (← same) divides) (rw (← same) fits))
    | inr less ↦ h.greatest j (omega arith) divides fits
  ];
}
  where
    test_false : (a b c : ℕ) → (a == 0 && nat_le b c) ≡ false → a ≡ 0 → b ≤ c → ⊥
    test_false a b c e z le = grind (arith, nat_tests)

block_below_is : (k start size : ℕ) → 0 < size → IsBlockBelow k start size (block_below k start size)
unfolding block_below
block_below_is zero start size some = record {
  power = (0, refl);
  divides = omega arith;
  fits = omega arith;
  greatest = λ j small divides fits. powers_le j 0 small;
}
block_below_is (suc k) start size some = next_block k start size (block_below k start size) _ refl (block_below_is k start size some)

block_is : (start size : ℕ) → 0 < size → size ≤ 2 ^ 48 → IsBlock start size (block_below 48 start size)
block_is start size some most =
    let h = block_below_is 48 start size some in
    record {
      power = h.power;
      divides = h.divides;
      fits = h.fits;
      greatest = λ other (j, e) divides fits.
          let small : j ≤ 48 = exponent_le j 48 size (rw (← e) fits) (omega arith) in
          rw e (h.greatest j small (rw (← e) divides) (rw (← e) fits));
    }

first_sets_none : (start : ℕ) (more : ℕ) → first_sets more start 0 ≡ []
unfolding first_sets
first_sets_none start zero = refl
first_sets_none start (suc more) = refl

first_sets_some : (start size more : ℕ) → 0 < size
    → first_sets (suc more) start size ≡ block_set start (block_below 48 start size) ∷ first_sets more (start + block_below 48 start size) (size - block_below 48 start size)
unfolding first_sets
first_sets_some start size more some = rw (not_zero size some) refl
  where
    not_zero : (n : ℕ) → 0 < n → (n == 0) ≡ false
    not_zero n h = grind (arith, nat_tests)

first_sets_split : (more start size : ℕ) → size ≤ more → size ≤ 2 ^ 48 → IsSplit start size (first_sets more start size)
first_sets_split zero start size enough most = let none : size ≡ 0 = omega arith in rw (none, first_sets_none start 0) refl
first_sets_split (suc more) start size enough most = elim (eq-zero-or-pos size) [
  | inl none ↦ rw (none, first_sets_none start (suc more)) refl
  | inr some ↦
      let block = block_below 48 start size in
      let is : IsBlock start size block = block_is start size some most in
      let one : 1 ≤ block = power_pos block is.power in
      let fits = is.fits in
      rw (first_sets_some start size more some) (block, is, refl, first_sets_split more (start + block) (size - block) (omega arith) (omega arith))
]

pub split_is : (start size : ℕ) (sets : List Pattern) → size ≤ 2 ^ 48 → IsSplit start size sets → sets ≡ region_sets start size
split_is start size sets most h = split_unique start size sets (region_sets start size) h (first_sets_split size start size (omega arith) most)

-- ---- how the split ends

pub split_end : (start size base left : ℕ) (sets : List Pattern) → left ≡ 0 → ((rest : List Pattern) → IsSplit base left rest → IsSplit start size (sets ++ rest))
    → IsSplit start size sets
split_end start size base left sets none so_far = rw append-nil at (so_far [] none)
