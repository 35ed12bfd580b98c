-- Address sets bit by bit.
use Rattle.std.proofs.Common.{ℕ, ◌+◌, ◌-◌, ◌^◌, ◌%◌, ◌<◌, ◌≤◌, ◌≡◌, ◌⊎◌, ◌*◌, ◌↔◌, inl, inr, min, max, ap, sym, ◌∙◌, arith, rules, bit_and, bit_or, refl, w64, IsTrue, nat_eq}
use Rattle.std.specs.Prelude.{bit_xor}
use Rattle.std.specs.Int.{bit_at}
use Rattle.std.proofs.lemmas.Nat.Bits.{bit_at_and, bit_at_or, bit_at_xor, bit_at_not, bit_at-lt, bit_at_above, bit_at-zero, same_from_bits}
use Rattle.std.proofs.Math.Pow.{pow-lt}
use Rattle.std.proofs.lemmas.Bool.Decides.{Decides-eqb}
use Rattle.dip_sets.specs.Sets.{Pattern, Overlap, Covers, IsCommon, common}
use Rattle.std.proofs.lemmas.Nat.{xor_lt, or_lt}

below_or_above : (i n : ℕ) → (i < n) ⊎ (n ≤ i)
below_or_above i n = search rules

-- a test of two numbers in place of their equation
pub tested : {P : Type 0} (a b : ℕ) → (a ≡ b) ↔ P → IsTrue (nat_eq a b) ↔ P
tested a b h = (λ t. h.0 ((Decides-eqb a b).0 t), λ p. (Decides-eqb a b).1 (h.1 p))

-- numbers without a common bit
pub apart_bits : (b m i : ℕ) → bit_and b m ≡ 0 → min (bit_at b i) (bit_at m i) ≡ 0
apart_bits b m i h = sym (bit_at_and b m i) ∙ ap (λ n. bit_at n i) h ∙ bit_at-zero i

-- ---- contains

-- a bit of `x & !m`, where x has 64 bits
pub and_not_bits : (x m i : ℕ) → x < 2 ^ 64 → m < 2 ^ 64 → bit_at (bit_and x (2 ^ 64 - 1 - m)) i ≡ min (bit_at x i) (1 - bit_at m i)
and_not_bits x m i hx hm =
    elim (below_or_above i 64) [
      | inl lt ↦ bit_at_and x (2 ^ 64 - 1 - m) i ∙ ap (λ k. min (bit_at x i) k) (bit_at_not w64 m i hm lt)
      | inr ge ↦ let zero_x : bit_at x i ≡ 0 = bit_at_above x 64 i hx ge in omega (arith, bit_at_and x (2 ^ 64 - 1 - m) i)
    ]

-- the bits m of a mask, b of a base, x of a number, r of `x & m | b`
one_bit : (m b x r : ℕ) → x < 2 → b < 2 → m < 2 → (m ≡ 0 → x ≡ b) → min b m ≡ 0 → r ≡ max (min x m) b → r ≡ x
one_bit m b x r lx lb lm h a e = grind arith

outside : (m b x r : ℕ) → m ≡ 0 → r ≡ max (min x m) b → r ≡ x → x ≡ b
outside m b x r z e h = omega arith

-- a bit of a number with a base in place of its bits outside a mask
member_bit : (b m x i : ℕ) → bit_at (bit_or (bit_and x m) b) i ≡ max (min (bit_at x i) (bit_at m i)) (bit_at b i)
member_bit b m x i = rw (bit_at_or (bit_and x m) b i, bit_at_and x m i) refl

-- what the test of `contains` says
pub contains_is : (b m x : ℕ) → bit_and b m ≡ 0 → (bit_or (bit_and x m) b ≡ x) ↔ ((i : ℕ) → bit_at m i ≡ 0 → bit_at x i ≡ bit_at b i)
contains_is b m x apart = (
  λ h i zero_m. outside (bit_at m i) (bit_at b i) (bit_at x i) _ zero_m (member_bit b m x i) (ap (λ n. bit_at n i) h),
  λ h. same_from_bits _ _ (λ i. one_bit (bit_at m i) (bit_at b i) (bit_at x i) _ (bit_at-lt x i) (bit_at-lt b i) (bit_at-lt m i) (h i) (apart_bits b m i apart) (member_bit b m x i)),
)

-- ---- overlaps

overlap_bit : (b1 m1 b2 m2 i : ℕ) → bit_at (bit_and (bit_xor b1 b2) (bit_or m1 m2)) i ≡ min ((bit_at b1 i + bit_at b2 i) % 2) (max (bit_at m1 i) (bit_at m2 i))
overlap_bit b1 m1 b2 m2 i = rw (bit_at_and (bit_xor b1 b2) (bit_or m1 m2) i, bit_at_xor b1 b2 i, bit_at_or m1 m2 i) refl

-- the bits of two bases and masks, and of a number
meets : (b1 m1 b2 m2 : ℕ) → b1 < 2 → m1 < 2 → b2 < 2 → m2 < 2 → min b1 m1 ≡ 0 → min b2 m2 ≡ 0 → min ((b1 + b2) % 2) (max m1 m2) ≡ (b1 + b2) % 2
    → (m1 ≡ 0 → max b1 b2 ≡ b1) × (m2 ≡ 0 → max b1 b2 ≡ b2)
meets b1 m1 b2 m2 lb1 lm1 lb2 lm2 a1 a2 h = (λ z. grind arith, λ z. grind arith)

agree : (b1 m1 b2 m2 x : ℕ) → b1 < 2 → m1 < 2 → b2 < 2 → m2 < 2 → (m1 ≡ 0 → x ≡ b1) → (m2 ≡ 0 → x ≡ b2) → min ((b1 + b2) % 2) (max m1 m2) ≡ (b1 + b2) % 2
agree b1 m1 b2 m2 x lb1 lm1 lb2 lm2 h1 h2 = grind arith

-- where a number is in both, the bases differ in bits of the masks alone
pub overlap_from : (p q : Pattern) → Overlap p q → bit_and (bit_xor p.base q.base) (bit_or p.mask q.mask) ≡ bit_xor p.base q.base
overlap_from p q (x, in_p, in_q) = same_from_bits _ _ (λ i. overlap_bit p.base p.mask q.base q.mask i
    ∙ agree (bit_at p.base i) (bit_at p.mask i) (bit_at q.base i) (bit_at q.mask i) (bit_at x i) (bit_at-lt _ i) (bit_at-lt _ i) (bit_at-lt _ i) (bit_at-lt _ i) (in_p i) (in_q i)
    ∙ sym (bit_at_xor p.base q.base i))

-- what the test of `overlaps` says
pub overlaps_is : (p q : Pattern) → bit_and p.base p.mask ≡ 0 → bit_and q.base q.mask ≡ 0
    → (bit_and (bit_xor p.base q.base) (bit_or p.mask q.mask) ≡ bit_xor p.base q.base) ↔ Overlap p q
overlaps_is p q ap1 ap2 = (
  λ h.
      let each : (i : ℕ) → (bit_at p.mask i ≡ 0 → max (bit_at p.base i) (bit_at q.base i) ≡ bit_at p.base i) × (bit_at q.mask i ≡ 0 → max (bit_at p.base i) (bit_at q.base i) ≡ bit_at q.base i) =
      λ i. meets (bit_at p.base i) (bit_at p.mask i) (bit_at q.base i) (bit_at q.mask i) (bit_at-lt _ i) (bit_at-lt _ i) (bit_at-lt _ i) (bit_at-lt _ i) (apart_bits _ _ i ap1) (apart_bits _ _ i ap2)
      (sym (overlap_bit p.base p.mask q.base q.mask i) ∙ ap (λ n. bit_at n i) h ∙ bit_at_xor p.base q.base i)
      in (bit_or p.base q.base, λ i z. bit_at_or p.base q.base i ∙ (each i).0 z, λ i z. bit_at_or p.base q.base i ∙ (each i).1 z),
  overlap_from p q,
)

-- ---- covers: bases b1 b2, masks m1 m2 of the coverer and of the covered

covered_bit : (b1 m1 b2 m2 x r : ℕ) → b1 < 2 → m1 < 2 → b2 < 2 → m2 < 2 → x < 2 → r ≡ min (max ((b1 + b2) % 2) m2) (1 - m1) → r ≡ 0 → (m2 ≡ 0 → x ≡ b2) → m1 ≡ 0 → x ≡ b1
covered_bit b1 m1 b2 m2 x r lb1 lm1 lb2 lm2 lx e z h zero_m = grind arith

-- the base alone, and the base with its mask
uncovered_bit : (b1 m1 b2 m2 : ℕ) → b1 < 2 → m1 < 2 → b2 < 2 → m2 < 2 → min b2 m2 ≡ 0 → (m1 ≡ 0 → b2 ≡ b1) → (m1 ≡ 0 → max b2 m2 ≡ b1) → min (max ((b1 + b2) % 2) m2) (1 - m1) ≡ 0
uncovered_bit b1 m1 b2 m2 lb1 lm1 lb2 lm2 apart h1 h2 = grind arith

covers_bit : (b1 m1 b2 m2 i : ℕ) → b1 < 2 ^ 48 → m1 < 2 ^ 48 → b2 < 2 ^ 48 → m2 < 2 ^ 48
    → bit_at (bit_and (bit_or (bit_xor b1 b2) m2) (2 ^ 64 - 1 - m1)) i ≡ min (max ((bit_at b1 i + bit_at b2 i) % 2) (bit_at m2 i)) (1 - bit_at m1 i)
covers_bit b1 m1 b2 m2 i h1 k1 h2 k2 =
    let hx : bit_or (bit_xor b1 b2) m2 < 2 ^ 64 = omega (arith, or_lt 48 (bit_xor b1 b2) m2 (xor_lt 48 b1 b2 h1 h2) k2) in
    let hm : m1 < 2 ^ 64 = omega arith in
    rw (and_not_bits (bit_or (bit_xor b1 b2) m2) m1 i hx hm, bit_at_or (bit_xor b1 b2) m2 i, bit_at_xor b1 b2 i) refl

max_zero : (n : ℕ) → max n 0 ≡ n
max_zero n = omega arith

-- what the test of `covers` says
pub covers_is : (p q : Pattern) → bit_and p.base p.mask ≡ 0 → bit_and q.base q.mask ≡ 0 → p.base < 2 ^ 48 → p.mask < 2 ^ 48 → q.base < 2 ^ 48 → q.mask < 2 ^ 48
    → (bit_and (bit_or (bit_xor p.base q.base) q.mask) (2 ^ 64 - 1 - p.mask) ≡ 0) ↔ Covers p q
covers_is p q ap1 ap2 h1 k1 h2 k2 = (
  λ h x inq i. covered_bit (bit_at p.base i) (bit_at p.mask i) (bit_at q.base i) (bit_at q.mask i) (bit_at x i) _ (bit_at-lt _ i) (bit_at-lt _ i) (bit_at-lt _ i) (bit_at-lt _ i) (bit_at-lt x i)
      (covers_bit p.base p.mask q.base q.mask i h1 k1 h2 k2) (ap (λ n. bit_at n i) h ∙ bit_at-zero i) (inq i),
  λ h. same_from_bits _ _ (λ i. covers_bit p.base p.mask q.base q.mask i h1 k1 h2 k2
      ∙ uncovered_bit (bit_at p.base i) (bit_at p.mask i) (bit_at q.base i) (bit_at q.mask i) (bit_at-lt _ i) (bit_at-lt _ i) (bit_at-lt _ i) (bit_at-lt _ i) (apart_bits _ _ i ap2)
      (h q.base (λ j z. refl) i)
      (λ z. sym (bit_at_or q.base q.mask i) ∙ h (bit_or q.base q.mask) (λ j zj. bit_at_or q.base q.mask j ∙ ap (λ m. max (bit_at q.base j) m) zj ∙ max_zero (bit_at q.base j)) i z)
      ∙ sym (bit_at-zero i)),
)

-- ---- intersect

meet_bit : (b1 m1 b2 m2 x : ℕ) → b1 < 2 → m1 < 2 → b2 < 2 → m2 < 2 → x < 2 → min b1 m1 ≡ 0 → min b2 m2 ≡ 0
    → min ((b1 + b2) % 2) (max m1 m2) ≡ (b1 + b2) % 2 → (min m1 m2 ≡ 0 → x ≡ max b1 b2) ↔ ((m1 ≡ 0 → x ≡ b1) × (m2 ≡ 0 → x ≡ b2))
meet_bit b1 m1 b2 m2 x lb1 lm1 lb2 lm2 lx a1 a2 h = (λ e. (λ z. grind arith, λ z. grind arith), λ e z. grind (arith, e.0, e.1))

-- where two sets overlap, what they have in common
pub common_is : (p q : Pattern) → bit_and p.base p.mask ≡ 0 → bit_and q.base q.mask ≡ 0 → Overlap p q → IsCommon p q (common p q)
common_is p q ap1 ap2 (w, inp, inq) x =
    let each : (i : ℕ) → (min (bit_at p.mask i) (bit_at q.mask i) ≡ 0 → bit_at x i ≡ max (bit_at p.base i) (bit_at q.base i)) ↔ ((bit_at p.mask i ≡ 0 → bit_at x i ≡ bit_at p.base i) × (bit_at q.mask i ≡ 0 → bit_at x i ≡ bit_at q.base i)) =
    λ i. meet_bit (bit_at p.base i) (bit_at p.mask i) (bit_at q.base i) (bit_at q.mask i) (bit_at x i) (bit_at-lt _ i) (bit_at-lt _ i) (bit_at-lt _ i) (bit_at-lt _ i) (bit_at-lt x i) (apart_bits _ _ i ap1) (apart_bits _ _ i ap2)
    (agree (bit_at p.base i) (bit_at p.mask i) (bit_at q.base i) (bit_at q.mask i) (bit_at w i) (bit_at-lt _ i) (bit_at-lt _ i) (bit_at-lt _ i) (bit_at-lt _ i) (inp i) (inq i))
    in (
      λ h. let back : (i : ℕ) → min (bit_at p.mask i) (bit_at q.mask i) ≡ 0 → bit_at x i ≡ max (bit_at p.base i) (bit_at q.base i) = λ i z. h i (bit_at_and p.mask q.mask i ∙ z) ∙ bit_at_or p.base q.base i in
          (λ i. ((each i).0 (back i)).0, λ i. ((each i).0 (back i)).1),
      λ h i z. (each i).1 (h.0 i, h.1 i) (sym (bit_at_and p.mask q.mask i) ∙ z) ∙ sym (bit_at_or p.base q.base i),
    )

apart_bit : (b1 m1 b2 m2 : ℕ) → min b1 m1 ≡ 0 → min b2 m2 ≡ 0 → min (max b1 b2) (min m1 m2) ≡ 0
apart_bit b1 m1 b2 m2 a1 a2 = grind arith

pub common_apart : (b1 m1 b2 m2 : ℕ) → bit_and b1 m1 ≡ 0 → bit_and b2 m2 ≡ 0 → bit_and (bit_or b1 b2) (bit_and m1 m2) ≡ 0
common_apart b1 m1 b2 m2 ap1 ap2 =
    same_from_bits _ _ (λ i. bit_at_and (bit_or b1 b2) (bit_and m1 m2) i ∙ rw (bit_at_or b1 b2 i, bit_at_and m1 m2 i) (apart_bit (bit_at b1 i) (bit_at m1 i) (bit_at b2 i) (bit_at m2 i) (apart_bits _ _ i ap1) (apart_bits _ _ i ap2)) ∙ sym (bit_at-zero i))

-- ---- alignment

pub shifted_one : (k : ℕ) → k < 64 → 1 * 2 ^ k % 2 ^ 64 ≡ 2 ^ k
shifted_one k h = let p : 2 ^ k < 2 ^ 64 = pow-lt h in grind arith
