-- Ranges of transfer sizes.
use Rattle.std.proofs.Common.{ℕ, ◌≡◌, ◌≢◌, ◌≤◌, ◌⊎◌, ◌↔◌, inl, inr, min, max, Bool, true, false, ◌&&◌, ◌||◌, ◌==◌, nat_le, IsTrue, refl, arith, le_refl}
use Rattle.std.specs.Int.{IsPowerOfTwo}
use Rattle.std.proofs.lemmas.Bool.Decides.{Decides-eqb}
use Rattle.std.proofs.lemmas.Bool.{leb-true, le-leb, cases_lt}
use Rattle.dip_sets.specs.SizeRanges.{SizeRange, is_size_pair, is_size_range, IsSizePair, HasSize, has_size, IsWithin, is_within, IsCover}
use Rattle.dip_sets.proofs.Powers.{is_power_of_two_is, power_pos}

both : (a b : Bool) {A B : Type 0} → IsTrue a ↔ A → IsTrue b ↔ B → IsTrue (a && b) ↔ (A × B)
both true true f g = (λ t. (f.0 t, g.0 t), λ (x, y). refl)
both true false f g = (λ t. (f.0 refl, g.0 t), λ (x, y). g.1 y)
both false b f g = (λ t. (f.0 t, absurd (cc)), λ (x, y). f.1 x)

at_most : (a b : ℕ) → IsTrue (nat_le a b) ↔ (a ≤ b)
at_most a b = (leb-true a b, le-leb a b)

-- the test for a size
pub has_size_is : (s : SizeRange) (n : ℕ) → IsTrue (has_size s n) ↔ HasSize s n
has_size_is s n =
    let h = both _ _ (both _ _ (is_power_of_two_is n) (at_most s.min n)) (at_most n s.max) in
    (λ t. let f = h.0 t in (f.0.0, f.0.1, f.1), λ (p, l, u). h.1 ((p, l), u))

pub size_from_test : (s : SizeRange) (n : ℕ) (r : Bool) → r ≡ has_size s n → IsTrue r ↔ HasSize s n
size_from_test s n r e = rw e (has_size_is s n)

-- the test for a pair
pub size_pair_is : (a b : ℕ) → IsTrue (is_size_pair a b) ↔ IsSizePair a b
size_pair_is a b =
    let h = both _ _ (both _ _ (both _ _ (is_power_of_two_is a) (is_power_of_two_is b)) (at_most a b)) (at_most b 256) in
    (λ t. let f = h.0 t in (f.0.0.0, f.0.0.1, power_pos a f.0.0.0, f.0.1, f.1), λ (p, q, one, l, u). h.1 (((p, q), l), u))

pub pair_from_test : (a b : ℕ) (r : Bool) → r ≡ is_size_pair a b → IsTrue r ↔ IsSizePair a b
pair_from_test a b r e = rw e (size_pair_is a b)

none_or_pair : (z p : Bool) → IsTrue (z || p) → IsTrue z ⊎ IsTrue p
none_or_pair true p h = inl refl
none_or_pair false p h = inr h

-- a range is none, or has a least and a greatest size
pub range_cases : (s : SizeRange) → IsTrue (is_size_range s) → ((s.min ≡ 0) × (s.max ≡ 0)) ⊎ IsSizePair s.min s.max
range_cases s h = elim (none_or_pair (s.min == 0 && s.max == 0) (is_size_pair s.min s.max) h) [
  | inl none ↦ inl ((both _ _ (Decides-eqb s.min 0) (Decides-eqb s.max 0)).0 none)
  | inr pair ↦ inr ((size_pair_is s.min s.max).0 pair)
]

-- ---- within

no_size : (s : SizeRange) (n : ℕ) → s.max ≡ 0 → HasSize s n → ⊥
no_size s n z (p, l, u) = omega (arith, power_pos n p)

bounds_within : (s t : SizeRange) → t.min ≤ s.min → s.max ≤ t.max → IsWithin s t
bounds_within s t lower upper n (p, l, u) = (p, omega arith, omega arith)

within_bounds : (s t : SizeRange) → IsSizePair s.min s.max → IsWithin s t → (t.min ≤ s.min) × (s.max ≤ t.max)
within_bounds s t (p, q, one, l, u) h = ((h s.min (p, le_refl s.min, l)).1, (h s.max (q, l, le_refl s.max)).2)

within_test : (s t : SizeRange) → IsTrue (is_within s t) ↔ ((s.max ≡ 0) ⊎ ((t.min ≤ s.min) × (s.max ≤ t.max)))
within_test s t = (
  λ h. elim (none_or_pair (s.max == 0) (nat_le t.min s.min && nat_le s.max t.max) h) [
    | inl z ↦ inl ((Decides-eqb s.max 0).0 z)
    | inr b ↦ inr ((both _ _ (at_most t.min s.min) (at_most s.max t.max)).0 b)
  ],
  λ h. elim h [
    | inl z ↦ one_holds _ _ (inl ((Decides-eqb s.max 0).1 z))
    | inr b ↦ one_holds _ _ (inr ((both _ _ (at_most t.min s.min) (at_most s.max t.max)).1 b))
  ],
)
  where
    one_holds : (a b : Bool) → IsTrue a ⊎ IsTrue b → IsTrue (a || b)
    one_holds true b h = refl
    one_holds false b (inl h) = absurd (cc)
    one_holds false b (inr h) = h

-- the test of `within`
pub within_is : (s t : SizeRange) → IsTrue (is_size_range s) → IsTrue (is_within s t) ↔ IsWithin s t
within_is s t range = (
  λ h. elim ((within_test s t).0 h) [
    | inl z ↦ λ n has. absurd (no_size s n z has)
    | inr b ↦ bounds_within s t b.0 b.1
  ],
  λ h. (within_test s t).1 (elim (range_cases s range) [
    | inl none ↦ inl none.1
    | inr pair ↦ inr (within_bounds s t pair h)
  ]),
)

pub within_from_test : (s t : SizeRange) (r : Bool) → IsTrue (is_size_range s) → r ≡ is_within s t → IsTrue r ↔ IsWithin s t
within_from_test s t r range e = rw e (within_is s t range)

-- ---- cover

a_pair : (s : SizeRange) → IsTrue (is_size_range s) → s.max ≢ 0 → IsSizePair s.min s.max
a_pair s range some = elim (range_cases s range) [ inl none ↦ absurd (some none.1) | inr pair ↦ pair ]

pub least_power : (a b : ℕ) → IsPowerOfTwo a → IsPowerOfTwo b → IsPowerOfTwo (min a b)
least_power a b p q = elim (cases_lt a b) [
  | inl lt ↦ let e : min a b ≡ a = omega arith in rw e p
  | inr ge ↦ let e : min a b ≡ b = omega arith in rw e q
]

greatest_power : (a b : ℕ) → IsPowerOfTwo a → IsPowerOfTwo b → IsPowerOfTwo (max a b)
greatest_power a b p q = elim (cases_lt a b) [
  | inl lt ↦ let e : max a b ≡ b = omega arith in rw e q
  | inr ge ↦ let e : max a b ≡ a = omega arith in rw e p
]

cover_pair : (a b c d : ℕ) → IsSizePair a b → IsSizePair c d → IsSizePair (min a c) (max b d)
cover_pair a b c d (p, q, one, l, u) (p2, q2, one2, l2, u2) =
    (least_power a c p p2, greatest_power b d q q2, omega arith, omega arith, omega arith)

some_range : (z p : Bool) → IsTrue p → IsTrue (z || p)
some_range true p h = refl
some_range false p h = h

pub cover_range : (s t : SizeRange) → IsTrue (is_size_range s) → IsTrue (is_size_range t) → s.max ≢ 0 → t.max ≢ 0
    → IsTrue (is_size_range (record { min = min s.min t.min; max = max s.max t.max }))
cover_range s t rs rt some_s some_t =
    some_range _ _ ((size_pair_is (min s.min t.min) (max s.max t.max)).1 (cover_pair _ _ _ _ (a_pair s rs some_s) (a_pair t rt some_t)))

pub cover_second : (s t : SizeRange) → s.max ≡ 0 → IsCover s t t
cover_second s t z = record {
  first = λ n has. absurd (no_size s n z has);
  second = λ n has. has;
  least = λ other range h k. k;
}

pub cover_first : (s t : SizeRange) → t.max ≡ 0 → IsCover s t s
cover_first s t z = record {
  first = λ n has. has;
  second = λ n has. absurd (no_size t n z has);
  least = λ other range h k. h;
}

pub cover_both : (s t : SizeRange) → IsTrue (is_size_range s) → IsTrue (is_size_range t) → s.max ≢ 0 → t.max ≢ 0
    → IsCover s t (record { min = min s.min t.min; max = max s.max t.max })
cover_both s t rs rt some_s some_t = record {
  first = bounds_within s _ (omega arith) (omega arith);
  second = bounds_within t _ (omega arith) (omega arith);
  least = λ other range h k.
      let a = within_bounds s other (a_pair s rs some_s) h in
      let b = within_bounds t other (a_pair t rt some_t) k in
      bounds_within _ other (omega arith) (omega arith);
}
