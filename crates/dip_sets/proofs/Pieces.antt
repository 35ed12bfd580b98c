-- The pieces of one set without another.
use Rattle.std.proofs.Common.{ℕ, zero, suc, ◌≡◌, ◌≢◌, ◌+◌, ◌-◌, ◌*◌, ◌/◌, ◌%◌, ◌^◌, ◌<◌, ◌≤◌, ◌⊎◌, ◌↔◌, inl, inr, min, max, List, [], ◌∷◌, ◌++◌, map, length, get_or, Any, AllPairs, bit_and, bit_or, bit_xor, refl, ap, sym, ◌∙◌, arith, add-zero, append_assoc, pow_pos, le_refl, eq-or-lt_of_le, mod-eq_of_lt, append-nil}
use Rattle.std.specs.Int.{bit_at}
use Rattle.std.proofs.lemmas.Nat.{shr-shr, or_lt, and_le_l, and_le_r, shr_split}
use Rattle.std.proofs.lemmas.Nat.Bits.{bit_at_and, bit_at_or, bit_at_xor, bit_at-lt, bit_at_above, bit_at-zero, bit_at-pow_same, bit_at-pow_other, bit_at_cat_low, bit_at_cat_high, same_from_bits, shr_and_one}
use Rattle.std.proofs.lemmas.Bool.{cases_lt}
use Rattle.std.proofs.lemmas.List.Elements.{Contains-get_or}
use Rattle.std.specs.List.{AllZip}
use Rattle.dip_sets.specs.Sets.{Pattern, IsSet, In, Overlap, Disjoint}
use Rattle.dip_sets.specs.Differences.{cut_bits, cut_from, piece, InPiece, places_of, pieces, ArePieces, IsPiece, InDifference}
use Rattle.dip_sets.proofs.Bits.{and_not_bits, apart_bits, shifted_one}
use Rattle.dip_sets.proofs.Lists.{any_head, any_tail, any_cases, any_none, pairs_cons, pairs_none}

-- ---- the cut bits

pub shifted_bits : (n k i : ℕ) → bit_at (n / 2 ^ k) i ≡ bit_at n (k + i)
shifted_bits n k i = ap (λ m. m % 2) (shr-shr n k i)

-- the bits of a number from a place up
high_bits : (n k i : ℕ) → k ≤ i → bit_at (n / 2 ^ k * 2 ^ k) i ≡ bit_at n i
high_bits n k i h =
    ap (λ m. bit_at m i) (sym (add-zero (n / 2 ^ k * 2 ^ k))) ∙ bit_at_cat_high (n / 2 ^ k) k 0 i (pow_pos k) h
    ∙ shifted_bits n k (i - k) ∙ ap (λ j. bit_at n j) (omega arith)

low_bits : (n k i : ℕ) → i < k → bit_at (n / 2 ^ k * 2 ^ k) i ≡ 0
low_bits n k i h = ap (λ m. bit_at m i) (sym (add-zero (n / 2 ^ k * 2 ^ k))) ∙ bit_at_cat_low (n / 2 ^ k) k 0 i h ∙ bit_at-zero i

pub cut_bit : (s t : Pattern) (i : ℕ) → IsSet s → IsSet t → bit_at (cut_bits s t) i ≡ min (bit_at s.mask i) (1 - bit_at t.mask i)
cut_bit s t i is_s is_t = and_not_bits s.mask t.mask i (wide s.mask is_s.mask_fits) (wide t.mask is_t.mask_fits)
  where
    wide : (n : ℕ) → n < 2 ^ 48 → n < 2 ^ 64
    wide n h = omega arith

pub cut_fits : (s t : Pattern) → IsSet s → cut_bits s t < 2 ^ 48
cut_fits s t is_s = omega (arith, and_le_l s.mask (2 ^ 64 - 1 - t.mask), is_s.mask_fits)

high_le : (n k : ℕ) → n / 2 ^ k * 2 ^ k ≤ n
high_le n k = omega (arith, shr_split n k)

pub high_fits : (s t : Pattern) (k : ℕ) → IsSet s → cut_from s t k < 2 ^ 48
high_fits s t k is_s = omega (arith, high_le (cut_bits s t) k, cut_fits s t is_s)

-- ---- a piece, bit by bit

piece_mask : (s t : Pattern) (k i : ℕ) → IsSet s → bit_at (piece s t k).mask i ≡ min (bit_at s.mask i) (1 - bit_at (cut_from s t k) i)
piece_mask s t k i is_s = and_not_bits s.mask (cut_from s t k) i (wide s.mask is_s.mask_fits) (wide (cut_from s t k) (high_fits s t k is_s))
  where
    wide : (n : ℕ) → n < 2 ^ 48 → n < 2 ^ 64
    wide n h = omega arith

piece_base : (s t : Pattern) (k i : ℕ) → bit_at (piece s t k).base i ≡ max (bit_at s.base i) (min ((bit_at t.base i + bit_at (2 ^ k) i) % 2) (bit_at (cut_from s t k) i))
piece_base s t k i =
    rw (bit_at_or s.base (bit_and (bit_xor t.base (2 ^ k)) (cut_from s t k)) i, bit_at_and (bit_xor t.base (2 ^ k)) (cut_from s t k) i, bit_at_xor t.base (2 ^ k) i) refl

-- the bits of the set's base and mask, of the other's base, of the cut from the place up, and of a number
fixed_bit : (sb sm y f x : ℕ) → sb < 2 → sm < 2 → y < 2 → x < 2 → min sb sm ≡ 0 → f ≡ 1 → sm ≡ 1 → (min sm (1 - f) ≡ 0 → x ≡ max sb (min y f)) ↔ (x ≡ y)
fixed_bit sb sm y f x lsb lsm ly lx apart one free = (λ h. grind arith, λ h z. grind arith)

kept_bit : (sb sm y f x : ℕ) → sb < 2 → sm < 2 → x < 2 → f ≡ 0 → (min sm (1 - f) ≡ 0 → x ≡ max sb (min y f)) ↔ (sm ≡ 0 → x ≡ sb)
kept_bit sb sm y f x lsb lsm lx none = (λ h z. grind arith, λ h z. grind arith)

zero_or_one : (n : ℕ) → n < 2 → (n ≡ 0) ⊎ (n ≡ 1)
zero_or_one n h = grind arith

flipped : (n p : ℕ) → n < 2 → p ≡ 1 → (n + p) % 2 ≡ 1 - n
flipped n p h e = grind arith

plain : (n p : ℕ) → n < 2 → p ≡ 0 → (n + p) % 2 ≡ n
plain n p h e = grind arith

module _ (s t : Pattern) (k x : ℕ) (is_s : IsSet s) (is_t : IsSet t) where
  At : ℕ → Type 0
  At i = bit_at (piece s t k).mask i ≡ 0 → bit_at x i ≡ bit_at (piece s t k).base i

  kept_at : (i : ℕ) → bit_at (cut_from s t k) i ≡ 0 → At i ↔ (bit_at s.mask i ≡ 0 → bit_at x i ≡ bit_at s.base i)
  unfolding At
  kept_at i none =
      rw (piece_mask s t k i is_s, piece_base s t k i)
      (kept_bit (bit_at s.base i) (bit_at s.mask i) ((bit_at t.base i + bit_at (2 ^ k) i) % 2) (bit_at (cut_from s t k) i) (bit_at x i) (bit_at-lt _ i) (bit_at-lt _ i) (bit_at-lt x i) none)

  is_free : (i : ℕ) → bit_at (cut_bits s t) i ≡ 1 → bit_at s.mask i ≡ 1
  is_free i one = omega (arith, cut_bit s t i is_s is_t, bit_at-lt s.mask i)

  not_cut : (i : ℕ) → bit_at s.mask i ≡ 0 → bit_at (cut_bits s t) i ≡ 0
  not_cut i z = omega (arith, cut_bit s t i is_s is_t)

  fixed_at : (i : ℕ) → bit_at (cut_from s t k) i ≡ 1 → bit_at (cut_bits s t) i ≡ 1 → At i ↔ (bit_at x i ≡ (bit_at t.base i + bit_at (2 ^ k) i) % 2)
  unfolding At
  fixed_at i from one =
      rw (piece_mask s t k i is_s, piece_base s t k i)
      (fixed_bit (bit_at s.base i) (bit_at s.mask i) ((bit_at t.base i + bit_at (2 ^ k) i) % 2) (bit_at (cut_from s t k) i) (bit_at x i) (bit_at-lt _ i) (bit_at-lt _ i) (below_two _) (bit_at-lt x i)
      (apart_bits s.base s.mask i is_s.apart) from (is_free i one))
    where
      below_two : (n : ℕ) → n % 2 < 2
      below_two n = omega arith

  from_none : (i : ℕ) → bit_at (cut_bits s t) i ≡ 0 → bit_at (cut_from s t k) i ≡ 0
  from_none i none = elim (cases_lt i k) [
    | inl lt ↦ low_bits (cut_bits s t) k i lt
    | inr ge ↦ high_bits (cut_bits s t) k i ge ∙ none
  ]

  from_one : (i : ℕ) → bit_at (cut_from s t k) i ≡ 1 → (k ≤ i) × (bit_at (cut_bits s t) i ≡ 1)
  from_one i one = elim (cases_lt i k) [
    | inl lt ↦ absurd (omega (arith, low_bits (cut_bits s t) k i lt))
    | inr ge ↦ (ge, sym (high_bits (cut_bits s t) k i ge) ∙ one)
  ]

  pub piece_is : bit_at (cut_bits s t) k ≡ 1 → In (piece s t k) x ↔ InPiece s t k x
  unfolding At
  piece_is here = (
    λ h. record {
      in_set = λ i z. (kept_at i (from_none i (not_cut i z))).0 (h i) z;
      differs = (fixed_at k (high_bits (cut_bits s t) k k (le_refl k) ∙ here) here).0 (h k) ∙ flipped (bit_at t.base k) (bit_at (2 ^ k) k) (bit_at-lt _ k) (bit_at-pow_same k);
      agrees = λ i above one. (fixed_at i (high_bits (cut_bits s t) k i (omega arith) ∙ one) one).0 (h i) ∙ plain (bit_at t.base i) (bit_at (2 ^ k) i) (bit_at-lt _ i) (bit_at-pow_other k i (omega arith));
    },
    λ h i. elim (zero_or_one (bit_at (cut_from s t k) i) (bit_at-lt _ i)) [
      | inl none ↦ (kept_at i none).1 (h.in_set i)
      | inr one ↦
          let from = from_one i one in
          (fixed_at i one from.1).1 (elim (eq-or-lt_of_le from.0) [
            | inl same ↦ rw (← same) (h.differs ∙ sym (flipped (bit_at t.base k) (bit_at (2 ^ k) k) (bit_at-lt _ k) (bit_at-pow_same k)))
            | inr above ↦ h.agrees i above from.1 ∙ sym (plain (bit_at t.base i) (bit_at (2 ^ k) i) (bit_at-lt _ i) (bit_at-pow_other k i (omega arith)))
          ])
    ],
  )

-- ---- a piece is a set

piece_apart_bit : (sb sm y f : ℕ) → sb < 2 → sm < 2 → f < 2 → min sb sm ≡ 0 → min (max sb (min y f)) (min sm (1 - f)) ≡ 0
piece_apart_bit sb sm y f lsb lsm lf apart = grind arith

pub piece_set : (s t : Pattern) (k : ℕ) → IsSet s → IsSet t → k < 48 → IsSet (piece s t k)
piece_set s t k is_s is_t within = record {
  apart = same_from_bits _ _ (λ i. bit_at_and (piece s t k).base (piece s t k).mask i
      ∙ rw (piece_mask s t k i is_s, piece_base s t k i)
      (piece_apart_bit (bit_at s.base i) (bit_at s.mask i) ((bit_at t.base i + bit_at (2 ^ k) i) % 2) (bit_at (cut_from s t k) i) (bit_at-lt _ i) (bit_at-lt _ i) (bit_at-lt _ i) (apart_bits s.base s.mask i is_s.apart))
      ∙ sym (bit_at-zero i));
  base_fits = or_lt 48 s.base _ is_s.base_fits (omega (arith, and_le_r (bit_xor t.base (2 ^ k)) (cut_from s t k), high_fits s t k is_s));
  mask_fits = omega (arith, and_le_l s.mask (2 ^ 64 - 1 - cut_from s t k), is_s.mask_fits);
}

-- as it is computed in 64 bits
pub piece_invariant : (s t : Pattern) (k bits : ℕ) → IsSet s → IsSet t → k < 48 → bits ≡ cut_bits s t
    → (bit_and (bit_or s.base (bit_and (bit_xor t.base (1 * 2 ^ k % 2 ^ 64)) (bits / 2 ^ k * 2 ^ k % 2 ^ 64))) (bit_and s.mask (2 ^ 64 - 1 - bits / 2 ^ k * 2 ^ k % 2 ^ 64)) ≡ 0)
    × (bit_or s.base (bit_and (bit_xor t.base (1 * 2 ^ k % 2 ^ 64)) (bits / 2 ^ k * 2 ^ k % 2 ^ 64)) < 2 ^ 48)
    × (bit_and s.mask (2 ^ 64 - 1 - bits / 2 ^ k * 2 ^ k % 2 ^ 64) < 2 ^ 48)
piece_invariant s t k bits is_s is_t within e =
    let set = piece_set s t k is_s is_t within in
    let narrow : cut_from s t k % 2 ^ 64 ≡ cut_from s t k = mod-eq_of_lt (omega (arith, high_fits s t k is_s)) in
    rw (e, shifted_one k (omega arith), narrow) (set.apart, set.base_fits, set.mask_fits)

-- ---- the list of pieces

one_or_other : (a b : ℕ) → a < 2 → b < 2 → (a ≡ b) ⊎ (a ≡ 1 - b)
one_or_other a b la lb = grind arith

not_both : (a b : ℕ) → b < 2 → a ≡ b → a ≡ 1 - b → ⊥
not_both a b lb e f = omega arith

places_with : (k n : ℕ) → bit_at n k ≡ 1 → places_of (suc k) n ≡ k ∷ places_of k n
unfolding places_of
places_with k n one = rw one refl

places_without : (k n : ℕ) → bit_at n k ≡ 0 → places_of (suc k) n ≡ places_of k n
unfolding places_of
places_without k n none = rw none refl

places_none : (n : ℕ) → places_of 0 n ≡ []
unfolding places_of
places_none n = refl

module _ (s t : Pattern) (is_s : IsSet s) (is_t : IsSet t) where
  -- the pieces at places below one
  below : ℕ → List Pattern
  below k = map (piece s t) (places_of k (cut_bits s t))

  below_with : (k : ℕ) → bit_at (cut_bits s t) k ≡ 1 → below (suc k) ≡ piece s t k ∷ below k
  unfolding below
  below_with k one = ap (map (piece s t)) (places_with k (cut_bits s t) one)

  below_without : (k : ℕ) → bit_at (cut_bits s t) k ≡ 0 → below (suc k) ≡ below k
  unfolding below
  below_without k none = ap (map (piece s t)) (places_without k (cut_bits s t) none)

  below_none : below 0 ≡ []
  unfolding below
  below_none = ap (map (piece s t)) (places_none (cut_bits s t))

  -- a number agrees with the other set from a place up
  Agrees : ℕ → ℕ → Type 0
  Agrees x k = (i : ℕ) → k ≤ i → bit_at (cut_bits s t) i ≡ 1 → bit_at x i ≡ bit_at t.base i

  agrees_more : (x k : ℕ) → Agrees x (suc k) → (bit_at (cut_bits s t) k ≡ 1 → bit_at x k ≡ bit_at t.base k) → Agrees x k
  unfolding Agrees
  agrees_more x k h here i above one = elim (eq-or-lt_of_le above) [
    | inl same ↦ rw (← same) (here (rw same one))
    | inr more ↦ h i (omega arith) one
  ]

  -- a number of the set that agrees with the other everywhere is in the other, where the two overlap
  in_other : (x : ℕ) → Overlap s t → In s x → Agrees x 0 → In t x
  unfolding Agrees
  in_other x (w, in_s, in_t) h agrees i z = elim (zero_or_one (bit_at s.mask i) (bit_at-lt s.mask i)) [
    | inl fixed ↦ h i fixed ∙ sym (in_s i fixed) ∙ in_t i z
    | inr free ↦ agrees i (omega arith) (omega (arith, cut_bit s t i is_s is_t))
  ]

  some_piece : (x k : ℕ) → Overlap s t → In s x → (In t x → ⊥) → Agrees x k → Any (λ p. In p x) (below k)
  unfolding Agrees
  some_piece x zero meet h out agrees = absurd (out (in_other x meet h agrees))
  some_piece x (suc k) meet h out agrees = elim (zero_or_one (bit_at (cut_bits s t) k) (bit_at-lt _ k)) [
    | inl none ↦ rw (below_without k none) (some_piece x k meet h out (agrees_more x k agrees (λ one. absurd (omega arith))))
    | inr one ↦ rw (below_with k one) (elim (one_or_other (bit_at x k) (bit_at t.base k) (bit_at-lt x k) (bit_at-lt _ k)) [
      | inl same ↦ any_tail _ _ _ (some_piece x k meet h out (agrees_more x k agrees (λ _. same)))
      | inr differs ↦ any_head _ _ _ ((piece_is s t k x is_s is_t one).1 (record { in_set = h; differs = differs; agrees = λ i above o. agrees i (omega arith) o }))
    ])
  ]

  piece_of : (x k : ℕ) → Any (λ p. In p x) (below k) → (j : ℕ) × (j < k) × (bit_at (cut_bits s t) j ≡ 1) × InPiece s t j x
  piece_of x zero h = absurd (any_none (λ p. In p x) (rw below_none at h))
  piece_of x (suc k) h = elim (zero_or_one (bit_at (cut_bits s t) k) (bit_at-lt _ k)) [
    | inl none ↦ let r = piece_of x k (rw (below_without k none) at h) in (r.0, omega (arith, r.1), r.2, r.3)
    | inr one ↦ elim (any_cases (λ p. In p x) (piece s t k) (below k) (rw (below_with k one) at h)) [
      | inl here ↦ (k, omega arith, one, (piece_is s t k x is_s is_t one).0 here)
      | inr later ↦ let r = piece_of x k later in (r.0, omega (arith, r.1), r.2, r.3)
    ]
  ]

  -- no number of a piece is in a later one
  apart_from : (k j : ℕ) (d : Pattern) → bit_at (cut_bits s t) k ≡ 1 → j < length (below k) → Disjoint (piece s t k) (get_or (below k) j d)
  apart_from k j d one within x here there =
      let found = Contains-get_or (below k) j d within in
      let r = piece_of x k (found.0, get_or (below k) j d, found.1, found.2, there) in
      let first = (piece_is s t k x is_s is_t one).0 here in
      not_both (bit_at x k) (bit_at t.base k) (bit_at-lt _ k) (r.3.agrees k r.1 one) first.differs

  apart : (k : ℕ) → AllPairs Disjoint (below k)
  apart zero = rw below_none (pairs_none Disjoint)
  apart (suc k) = elim (zero_or_one (bit_at (cut_bits s t) k) (bit_at-lt _ k)) [
    | inl none ↦ rw (below_without k none) (apart k)
    | inr one ↦ rw (below_with k one) (pairs_cons Disjoint _ _ (λ j d within. apart_from k j d one within) (apart k))
  ]

  agrees_above : (x : ℕ) → Agrees x 48
  unfolding Agrees
  agrees_above x i above one = absurd (omega (arith, bit_at_above (cut_bits s t) 48 i (cut_fits s t is_s) above))

  together : (x : ℕ) → Overlap s t → Any (λ p. In p x) (below 48) ↔ InDifference s t x
  together x meet = (
    λ h.
        let r = piece_of x 48 h in
        let fixed : bit_at t.mask r.0 ≡ 0 = omega (arith, cut_bit s t r.0 is_s is_t, r.2) in
        (r.3.in_set, λ other. not_both (bit_at x r.0) (bit_at t.base r.0) (bit_at-lt _ r.0) (other r.0 fixed) r.3.differs),
    λ h. some_piece x 48 meet h.0 h.1 (agrees_above x),
  )

  pub pieces_apart : AllPairs Disjoint (pieces s t)
  unfolding below
  pieces_apart = apart 48

  each_piece : (k : ℕ) → AllZip (IsPiece s t) (places_of k (cut_bits s t)) (below k)
  unfolding below
  each_piece zero = rw (places_none (cut_bits s t)) tt
  each_piece (suc k) = elim (zero_or_one (bit_at (cut_bits s t) k) (bit_at-lt _ k)) [
    | inl none ↦ rw (places_without k (cut_bits s t) none) (each_piece k)
    | inr one ↦ rw (places_with k (cut_bits s t) one) (λ x. piece_is s t k x is_s is_t one, each_piece k)
  ]

  pub pieces_each : ArePieces s t (pieces s t)
  unfolding below
  pieces_each = each_piece 48

  pub pieces_together : Overlap s t → (x : ℕ) → Any (λ p. In p x) (pieces s t) ↔ InDifference s t x
  unfolding below
  pieces_together meet x = together x meet

-- ---- the set itself, where the two don't overlap

pub alone_together : (s t : Pattern) → Disjoint s t → (x : ℕ) → Any (λ p. In p x) (s ∷ []) ↔ InDifference s t x
alone_together s t apart x = (
  λ h. elim (any_cases (λ p. In p x) s [] h) [ inl here ↦ (here, apart x here) | inr none ↦ absurd (any_none (λ p. In p x) none) ],
  λ h. any_head (λ p. In p x) s [] h.0,
)

-- ---- how the list grows

pub pieces_push : (s t : Pattern) (p k n : ℕ) (before after whole : List Pattern) → p ≡ suc k → bit_and (n / 2 ^ k) 1 ≡ 1
    → before ++ map (piece s t) (places_of p n) ≡ whole → after ≡ before ++ piece s t k ∷ []
    → after ++ map (piece s t) (places_of k n) ≡ whole
pieces_push s t p k n before after whole next one h e =
    let list : places_of p n ≡ k ∷ places_of k n = ap (λ j. places_of j n) next ∙ places_with k n (sym (shr_and_one n k) ∙ one) in
    rw (e, append_assoc) (ap (λ l. before ++ map (piece s t) l) (sym list) ∙ h)

pub pieces_stay : (s t : Pattern) (p k n : ℕ) (before whole : List Pattern) → p ≡ suc k → bit_and (n / 2 ^ k) 1 ≢ 1
    → before ++ map (piece s t) (places_of p n) ≡ whole → before ++ map (piece s t) (places_of k n) ≡ whole
pieces_stay s t p k n before whole next other h =
    let none : bit_at n k ≡ 0 = omega (arith, shr_and_one n k, bit_at-lt n k) in
    let list : places_of p n ≡ places_of k n = ap (λ j. places_of j n) next ∙ places_without k n none in
    ap (λ l. before ++ map (piece s t) l) (sym list) ∙ h

pub pieces_all : (s t : Pattern) (p n : ℕ) (sets whole : List Pattern) → p ≡ 0 → sets ++ map (piece s t) (places_of p n) ≡ whole → sets ≡ whole
pieces_all s t p n sets whole end h =
    let list : places_of p n ≡ [] = ap (λ j. places_of j n) end ∙ places_none n in
    sym (append-nil sets) ∙ ap (λ l. sets ++ map (piece s t) l) (sym list) ∙ h
