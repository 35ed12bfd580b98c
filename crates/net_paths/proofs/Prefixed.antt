-- Ids by their prefixes.
use Rattle.std.proofs.Common.{◌≡◌, ◌≢◌, ℕ, zero, suc, ◌+◌, ◌-◌, ◌*◌, ◌/◌, ◌%◌, ◌^◌, ◌<◌, ◌≤◌, Bool, true, false, ◌&&◌, refl, sym, ap, ◌∙◌, subst, arith, inl, inr, if◌then◌else◌}
use Rattle.std.specs.Prelude.{◌==◌, nat_le, nat_lt}
use Rattle.std.proofs.Math.Nat.{add-mul, div-eq_of_lt, div-lt_iff_lt-mul, div-mul-le_self, lt-div-mul-add, mod-eq-sub-div-mul, mod-eq_of_lt}
use Rattle.std.proofs.Math.Pow.{pow-lt}
use Rattle.std.proofs.lemmas.Nat.{pow-add}
use Rattle.std.proofs.lemmas.Bool.{cases_eq, cases_lt}
use Rattle.std.proofs.lemmas.Bool.Decides.{nat_tests}
use Rattle.dip_sets.specs.declared.ids.IdRange.{IdRange}
use Rattle.dip_sets.specs.Ids.{has_id}
use Rattle.net_build.specs.declared.types.Wire.{Wire}
use Rattle.net_build.specs.Built.{Built, IsWire}
use Rattle.net_build.specs.Values.{Adds, Means, Solves, Tells}
use Rattle.net_queue.specs.Rows.{KeepsValue}
use Rattle.net_paths.specs.declared.ids.IdBlock.{IdBlock}
use Rattle.net_paths.specs.Paths.{IsIdBlock, MovesBack, MovesId}

bit_of : (b : Bool) → ((if b then 1 else 0) == 1) ≡ b
bit_of true = refl
bit_of false = refl

pub held_tells : (b : Built) (w : Wire) (held : Bool) → held ≡ true → Means b w (λ v. 1) → Tells b w (λ v. held)
held_tells b w held e m = record { at = λ v s. ap (λ k. k == 1) (m.at v s) ∙ sym e }

pub unheld_tells : (b : Built) (w : Wire) (held : Bool) → held ≡ false → Means b w (λ v. 0) → Tells b w (λ v. held)
unheld_tells b w held e m = record { at = λ v s. ap (λ k. k == 1) (m.at v s) ∙ sym e }

below : (b : Built) (x : Wire) (v : ℕ → ℕ) → Solves b v → IsWire b x → v x.number < 2 ^ x.width
below b x v s h = subst (λ (w : ℕ). v x.number < 2 ^ w) h.has.1 (s.fits x.number h.has.0)

pub positive : (n : ℕ) → 0 < 2 ^ n
positive zero = omega arith
positive (suc n) = let e : 1 < 2 ^ suc n = pow-lt {i = 0} (omega arith) in omega (arith, e)

pub wider : (x n m : ℕ) → x < 2 ^ n → n ≤ m → x < 2 ^ m
wider x n m h l = elim (cases_eq n m) [
  | inl e ↦ subst (λ (k : ℕ). x < 2 ^ k) e h
  | inr q ↦ let k : 2 ^ n < 2 ^ m = pow-lt (omega (arith, l, q)) in omega (arith, h, k)
]

-- the bits from a place on are few
high_few : (n width bits : ℕ) → bits < width → n < 2 ^ width → n / 2 ^ bits < 2 ^ (width - bits)
high_few n width bits l h =
    let e : 2 ^ width ≡ 2 ^ (width - bits) * 2 ^ bits = split (width - bits) bits width (omega arith) in
    (div-lt_iff_lt-mul (positive bits)).1 (subst (λ (m : ℕ). n < m) e h)
  where
    split : (k j i : ℕ) → k + j ≡ i → 2 ^ i ≡ 2 ^ k * 2 ^ j
    split k j i q = ap (λ (m : ℕ). 2 ^ m) (sym q) ∙ pow-add 2 k j

pub prefix_tells : (b0 b1 new : Built) (id high number w : Wire) (bits prefix : ℕ) → Adds b0 b1 → Adds b1 new → IsWire b0 id → bits < id.width
    → Means b0 number (λ v. prefix) → Means b1 high (λ v. v id.number / 2 ^ bits % 2 ^ (id.width - 1 - bits + 1))
    → Means new w (λ v. if v high.number == v number.number then 1 else 0) → Tells new w (λ v. v id.number / 2 ^ bits == prefix)
prefix_tells b0 b1 new id high number w bits prefix g h i l n m t = record {
  at = λ v s.
      let s1 = h.later.back v s in
      let s0 = g.later.back v s1 in
      let e : id.width - 1 - bits + 1 ≡ id.width - bits = omega arith in
      let few : v id.number / 2 ^ bits < 2 ^ (id.width - bits) = high_few (v id.number) id.width bits l (below b0 id v s0 i) in
      ap (λ k. k == 1) (t.at v s) ∙ bit_of (v high.number == v number.number)
      ∙ ap (λ k. k == v number.number) (m.at v s1 ∙ ap (λ k. v id.number / 2 ^ bits % 2 ^ k) e ∙ mod-eq_of_lt few)
      ∙ ap (λ k. v id.number / 2 ^ bits == k) (n.at v s0);
}

-- ---- an id is in a block exactly where its prefix is the block's

mul_le : (a b m : ℕ) → a ≤ b → a * m ≤ b * m
mul_le a b m h =
    let e : a + (b - a) ≡ b = omega arith in
    let f : b * m ≡ a * m + (b - a) * m = ap (λ n. n * m) (sym e) ∙ add-mul a (b - a) m in
    omega (arith, f)

one_more : (a m : ℕ) → (a + 1) * m ≡ a * m + m
one_more a m = let e : 1 * m ≡ m = omega arith in add-mul a 1 m ∙ ap (λ n. a * m + n) e

prefix_same : (m p x : ℕ) → 0 < m → (nat_le (p * m) x && nat_lt x (p * m + m)) ≡ (x / m == p)
prefix_same m p x h =
    let low : x / m * m ≤ x = div-mul-le_self x m in
    let high : x < x / m * m + m = lt-div-mul-add h in
    elim (cases_eq (x / m) p) [
      | inl e ↦
          let low2 : p * m ≤ x = subst (λ (q : ℕ). q * m ≤ x) e low in
          let high2 : x < p * m + m = subst (λ (q : ℕ). x < q * m + m) e high in
          grind (arith, nat_tests)
      | inr n ↦ elim (cases_lt (x / m) p) [
        | inl l ↦
            let k : (x / m + 1) * m ≤ p * m = mul_le (x / m + 1) p m (omega (arith, l)) in
            let d : (x / m + 1) * m ≡ x / m * m + m = one_more (x / m) m in
            let o : x < p * m = omega (arith, high, k, d) in
            grind (arith, nat_tests)
        | inr l ↦
            let k : (p + 1) * m ≤ x / m * m = mul_le (p + 1) (x / m) m (omega (arith, l, n)) in
            let d : (p + 1) * m ≡ p * m + m = one_more p m in
            let o : p * m + m ≤ x = omega (arith, low, k, d) in
            grind (arith, nat_tests)
      ]
    ]

pub in_block : (range : IdRange) (block : IdBlock) (x : ℕ) → IsIdBlock range block → has_id range x ≡ (x / 2 ^ block.bits == block.prefix)
in_block range block x h =
    ap (λ (n : ℕ). nat_le n x && nat_lt x range.end) h.start
    ∙ ap (λ (n : ℕ). nat_le (block.prefix * 2 ^ block.bits) x && nat_lt x n) (h.end ∙ ap (λ (n : ℕ). n + 2 ^ block.bits) h.start)
    ∙ prefix_same (2 ^ block.bits) block.prefix x (positive block.bits)

-- an id of no more bits has the prefix 0
pub block_all : (b : Built) (id w : Wire) (block : IdBlock) (prefix : ℕ) → IsWire b id → id.width ≤ block.bits → prefix ≡ block.prefix → Tells b w (λ v. prefix == 0) → (range : IdRange) → IsIdBlock range block → Tells b w (λ v. has_id range (v id.number))
block_all b id w block prefix i l p t range h = record {
  at = λ v s.
      let few : v id.number < 2 ^ block.bits = wider (v id.number) id.width block.bits (below b id v s i) l in
      t.at v s ∙ ap (λ n. n == 0) p ∙ turned block.prefix ∙ sym (in_block range block (v id.number) h ∙ ap (λ n. n == block.prefix) (div-eq_of_lt few));
}
  where
    turned : (n : ℕ) → (n == 0) ≡ (0 == n)
    turned n = grind (arith, nat_tests)

-- a prefix of more bits than there are is none's
pub block_none : (b : Built) (id w : Wire) (block : IdBlock) (prefix : ℕ) → IsWire b id → block.bits < id.width → prefix ≡ block.prefix → (r : Bool) → r ≡ nat_lt prefix (2 ^ (id.width - block.bits)) → r ≡ false → Tells b w (λ v. false) → (range : IdRange) → IsIdBlock range block → Tells b w (λ v. has_id range (v id.number))
block_none b id w block prefix i l p r q f t range h = record {
  at = λ v s.
      let few : v id.number / 2 ^ block.bits < 2 ^ (id.width - block.bits) = high_few (v id.number) id.width block.bits l (below b id v s i) in
      let far : nat_lt block.prefix (2 ^ (id.width - block.bits)) ≡ false = subst (λ (n : ℕ). nat_lt n (2 ^ (id.width - block.bits)) ≡ false) p (sym q ∙ f) in
      t.at v s ∙ sym (in_block range block (v id.number) h ∙ apart (v id.number / 2 ^ block.bits) block.prefix (2 ^ (id.width - block.bits)) few far);
}
  where
    apart : (x p m : ℕ) → x < m → nat_lt p m ≡ false → (x == p) ≡ false
    apart x p m l f = grind (arith, nat_tests)

pub block_some : (b : Built) (id w : Wire) (block : IdBlock) (prefix : ℕ) → prefix ≡ block.prefix → Tells b w (λ v. v id.number / 2 ^ block.bits == prefix) → (range : IdRange) → IsIdBlock range block → Tells b w (λ v. has_id range (v id.number))
block_some b id w block prefix p t range h = record { at = λ v s. t.at v s ∙ ap (λ n. v id.number / 2 ^ block.bits == n) p ∙ sym (in_block range block (v id.number) h) }

-- ---- moved

none : (n : ℕ) → 0 * n ≡ 0
none n = omega arith

pub moves_same : (b : Built) (id : Wire) (block : IdBlock) → block.prefix ≡ 0 → (range : IdRange) → IsIdBlock range block → MovesId b range block id id
moves_same b id block z range h = record { at = λ v s l. let e : range.start ≡ 0 = h.start ∙ ap (λ n. n * 2 ^ block.bits) z ∙ none (2 ^ block.bits) in omega (arith, e) }

pub moves_alone : (b : Built) (id w : Wire) (block : IdBlock) (prefix : ℕ) → block.bits ≡ 0 → prefix ≡ block.prefix → Means b w (λ v. prefix) → (range : IdRange) → IsIdBlock range block → MovesId b range block id w
moves_alone b id w block prefix z p m range h = record {
  at = λ v s l.
      let f : v id.number < 1 = subst (λ (n : ℕ). v id.number < 2 ^ n) z l in
      let e : range.start ≡ block.prefix = h.start ∙ ap (λ n. block.prefix * 2 ^ n) z ∙ one block.prefix in
      m.at v s ∙ p ∙ (omega (arith, f, e));
}
  where
    one : (n : ℕ) → n * 1 ≡ n
    one n = omega arith

pub back_same : (b : Built) (id : Wire) (block : IdBlock) → block.prefix ≡ 0 → (range : IdRange) → IsIdBlock range block → MovesBack b range id id
back_same b id block z range h = record { at = λ v s l. let e : range.start ≡ 0 = h.start ∙ ap (λ n. n * 2 ^ block.bits) z ∙ none (2 ^ block.bits) in omega (arith, e) }

div-one : (n : ℕ) → n / 1 ≡ n
div-one n = omega arith

-- what is left of an id in a block are its low bits
low_left : (m p x : ℕ) → x / m ≡ p → x % m ≡ x - p * m
low_left m p x e = mod-eq-sub-div-mul x m ∙ ap (λ n. x - n * m) e

test_same : (n m : ℕ) → (n == m) ≡ true → n ≡ m
test_same n m e = grind (arith, nat_tests)

prefix_of : (range : IdRange) (block : IdBlock) (x : ℕ) → IsIdBlock range block → has_id range x ≡ true → x / 2 ^ block.bits ≡ block.prefix
prefix_of range block x h t = test_same _ _ (sym (in_block range block x h) ∙ t)

pub back_low : (old new : Built) (id w : Wire) (block : IdBlock) → Adds old new → 0 < block.bits → Means new w (λ v. v id.number / 2 ^ 0 % 2 ^ (block.bits - 1 - 0 + 1)) → (range : IdRange) → IsIdBlock range block → MovesBack new range id w
back_low old new id w block g o m range h = record {
  at = λ v s l.
      let e : block.bits - 1 - 0 + 1 ≡ block.bits = omega arith in
      let d : v id.number / 1 ≡ v id.number = div-one (v id.number) in
      m.at v s ∙ ap (λ n. v id.number / 2 ^ 0 % 2 ^ n) e ∙ ap (λ n. n % 2 ^ block.bits) d
      ∙ low_left (2 ^ block.bits) block.prefix (v id.number) (prefix_of range block (v id.number) h l)
      ∙ ap (λ n. v id.number - n) (sym h.start);
}

pub back_none : (b : Built) (id w : Wire) (block : IdBlock) → block.bits ≡ 0 → Means b w (λ v. 0) → (range : IdRange) → IsIdBlock range block → MovesBack b range id w
back_none b id w block z m range h = record {
  at = λ v s l.
      let e : v id.number / 1 ≡ block.prefix = subst (λ n. v id.number / 2 ^ n ≡ block.prefix) z (prefix_of range block (v id.number) h l) in
      let d : v id.number / 1 ≡ v id.number = div-one (v id.number) in
      let q : range.start ≡ block.prefix = h.start ∙ ap (λ n. block.prefix * 2 ^ n) z ∙ one block.prefix in
      m.at v s ∙ (omega (arith, e, d, q));
}
  where
    one : (n : ℕ) → n * 1 ≡ n
    one n = omega arith

-- an id of no more bits than a block that begins behind 0 isn't in it
pub back_never : (b : Built) (id : Wire) (block : IdBlock) → IsWire b id → id.width ≤ block.bits → (range : IdRange) → IsIdBlock range block → MovesBack b range id id
back_never b id block i l range h = record {
  at = λ v s t.
      let few : v id.number < 2 ^ block.bits = wider (v id.number) id.width block.bits (below b id v s i) l in
      let z : block.prefix ≡ 0 = sym (prefix_of range block (v id.number) h t) ∙ div-eq_of_lt few in
      let e : range.start ≡ 0 = h.start ∙ ap (λ n. n * 2 ^ block.bits) z ∙ none (2 ^ block.bits) in
      omega (arith, e);
}

pub moves_prefix : (b0 b1 new : Built) (id high low w : Wire) (block : IdBlock) (prefix : ℕ) → Adds b0 b1 → Adds b1 new → prefix ≡ block.prefix → low.width ≡ block.bits
    → Means b0 high (λ v. prefix) → KeepsValue b1 id low → Means new w (λ v. v high.number * 2 ^ low.width + v low.number) → (range : IdRange) → IsIdBlock range block → MovesId new range block id w
moves_prefix b0 b1 new id high low w block prefix g h p e n k m range q = record {
  at = λ v s l.
      let s1 = h.later.back v s in
      let low_is : v low.number ≡ v id.number = k.at v s1 (subst (λ (i : ℕ). v id.number < 2 ^ i) (sym e) l) in
      let high_is : v high.number * 2 ^ low.width ≡ range.start = ap (λ i. v high.number * 2 ^ i) e ∙ ap (λ i. i * 2 ^ block.bits) (n.at v (g.later.back v s1) ∙ p) ∙ sym q.start in
      m.at v s ∙ (omega (arith, low_is, high_is));
}

-- whether a number has so few bits
pub shifted : (x m : ℕ) → 0 < m → (x / m == 0) ≡ nat_lt x m
shifted x m h = elim (cases_lt x m) [
  | inl l ↦ let e : x / m ≡ 0 = div-eq_of_lt l in grind (arith, nat_tests)
  | inr l ↦
      let n : (x / m ≡ 0 → ⊥) = λ e.
      let high : x < x / m * m + m = lt-div-mul-add h in
      let z : x / m * m ≡ 0 = ap (λ k. k * m) e ∙ none m in
      omega (arith, high, z, l)
      in
      grind (arith, nat_tests)
]

pub less_of : (x m : ℕ) → nat_lt x m ≡ true → x < m
less_of x m e = grind (arith, nat_tests)

pub positive_of : (n : ℕ) → n ≢ 0 → 0 < n
positive_of zero h = absurd (h refl)
positive_of (suc n) h = omega arith
