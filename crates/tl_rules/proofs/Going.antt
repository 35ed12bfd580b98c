-- Sizes that go on in pieces.
use Rattle.std.proofs.Common.{ℕ, ◌≡◌, ◌<◌, ◌≤◌, ◌↔◌, ◌⊎◌, inl, inr, min, max, Bool, true, false, ◌&&◌, ◌||◌, ◌==◌, cond, nat_le, nat_lt, IsTrue, refl, arith, le_refl, le-leb}
use Rattle.std.specs.Int.{IsPowerOfTwo}
use Rattle.std.proofs.lemmas.Bool.{leb-true, leb-false, ltb-true, ltb-false, cases_lt}
use Rattle.std.proofs.lemmas.Bool.Decides.{Decides-eqb}
use Rattle.dip_sets.specs.SizeRanges.{SizeRange, size_range, is_size_range, IsSizePair, HasSize, has_size, is_within, meet, no_sizes}
use Rattle.dip_sets.proofs.Powers.{power_pos}
use Rattle.dip_sets.proofs.Ranges.{size_pair_is, range_cases, has_size_is, within_is, least_power}
use Rattle.tl_params.specs.declared.arguments.Fragments.{Fragments}
use Rattle.tl_params.specs.Arguments.{AreFragments}
use Rattle.tl_rules.specs.Fragments.{cut, widened}
use Rattle.tl_params.specs.Carried.{fits_pieces}
use Rattle.tl_rules.specs.Pieces.{GoOn, Arrives, PiecesLaw}
use Rattle.tl_rules.proofs.Crossing.{and_left, and_right}

-- the sizes of at most a piece
pub small_sizes : (s : SizeRange) (piece bytes : ℕ) → HasSize (meet s (size_range 1 piece)) bytes ↔ (HasSize s bytes × (bytes ≤ piece))
small_sizes s piece bytes = elim (nat_le (max s.min 1) (min s.max piece)) as (λ b. nat_le (max s.min 1) (min s.max piece) ≡ b
    → HasSize (cond b (size_range (max s.min 1) (min s.max piece)) no_sizes) bytes ↔ (HasSize s bytes × (bytes ≤ piece))) [
      | true ↦ λ e. (
        λ (power, lower, upper). ((power, omega arith, omega arith), omega arith),
        λ ((power, lower, upper), small). (power, omega (arith, power_pos bytes power), omega arith),
      )
      | false ↦ λ e. (
        λ (power, lower, upper). absurd (omega (arith, power_pos bytes power)),
        λ ((power, lower, upper), small). absurd (omega (arith, power_pos bytes power, leb-false (max s.min 1) (min s.max piece) e)),
      )
    ] refl

or_right : (a b : Bool) → IsTrue b → IsTrue (a || b)
or_right true b h = refl
or_right false b h = h

pair_range : (least greatest : ℕ) → IsSizePair least greatest → IsTrue (is_size_range (size_range least greatest))
pair_range least greatest pair = or_right _ _ ((size_pair_is least greatest).1 pair)

small_pair : (s : SizeRange) (piece : ℕ) → IsPowerOfTwo piece → max s.min 1 ≤ min s.max piece → ((s.min ≡ 0) × (s.max ≡ 0)) ⊎ IsSizePair s.min s.max → IsSizePair (max s.min 1) (min s.max piece)
small_pair s piece power order (inl none) = absurd (omega arith)
small_pair s piece power order (inr (p, q, one, l, u)) =
    let least : max s.min 1 ≡ s.min = omega arith in
    rw least (p, least_power s.max piece q power, one, omega arith, omega arith)

small_range : (s : SizeRange) (piece : ℕ) → IsTrue (is_size_range s) → IsPowerOfTwo piece → IsTrue (is_size_range (meet s (size_range 1 piece)))
small_range s piece range power = elim (nat_le (max s.min 1) (min s.max piece)) as (λ b. nat_le (max s.min 1) (min s.max piece) ≡ b
    → IsTrue (is_size_range (cond b (size_range (max s.min 1) (min s.max piece)) no_sizes))) [
      | true ↦ λ e. pair_range _ _ (small_pair s piece power (leb-true (max s.min 1) (min s.max piece) e) (range_cases s range))
      | false ↦ λ e. refl
    ] refl

-- ---- what goes on

last_size : (s : SizeRange) (bytes : ℕ) → IsTrue (is_size_range s) → bytes < s.max → HasSize s s.max
last_size s bytes range above = elim (range_cases s range) [
  | inl none ↦ absurd (omega (arith, none.1))
  | inr pair ↦ (pair.1, pair.3, le_refl s.max)
]

or_cases : (a b : Bool) → IsTrue (a || b) → IsTrue a ⊎ IsTrue b
or_cases true b h = inl refl
or_cases false b h = inr h

pub or_true : (a b : Bool) → IsTrue a ⊎ IsTrue b → IsTrue (a || b)
or_true true b h = refl
or_true false b (inl h) = absurd (cc)
or_true false b (inr h) = h

pub and_true : (a b : Bool) → IsTrue a → IsTrue b → IsTrue (a && b)
and_true true b h k = k
and_true false b h k = h

fits_to : (piece : ℕ) (s t : SizeRange) → IsPowerOfTwo piece → IsTrue (is_size_range s) → IsTrue (fits_pieces (size_range 1 piece) s t) → GoOn piece s t
fits_to piece s t power range h bytes has =
    let small = (within_is (meet s (size_range 1 piece)) t (small_range s piece range power)).0 (and_left (is_within (meet s (size_range 1 piece)) t) (nat_le s.max piece || has_size t piece) h) in
    let large = or_cases (nat_le s.max piece) (has_size t piece) (and_right (is_within (meet s (size_range 1 piece)) t) (nat_le s.max piece || has_size t piece) h) in (
      λ below. small bytes ((small_sizes s piece bytes).1 (has, below)),
      λ above. elim large [
        | inl none ↦ absurd (omega (arith, has.2, leb-true s.max piece none))
        | inr holds ↦ (has_size_is t piece).0 holds
      ],
    )

fits_from : (piece : ℕ) (s t : SizeRange) → IsPowerOfTwo piece → IsTrue (is_size_range s) → GoOn piece s t → IsTrue (fits_pieces (size_range 1 piece) s t)
fits_from piece s t power range go =
    and_true _ _
    ((within_is (meet s (size_range 1 piece)) t (small_range s piece range power)).1
    (λ bytes has. let own = (small_sizes s piece bytes).0 has in (go bytes own.0).0 own.1))
    (or_true (nat_le s.max piece) (has_size t piece) (elim (cases_lt piece s.max) [
      | inl above ↦ inr ((has_size_is t piece).1 ((go s.max (last_size s piece range above)).1 above))
      | inr within ↦ inl (le-leb s.max piece within)
    ]))

-- ---- what arrives

first_size : (s : SizeRange) (piece : ℕ) → IsTrue (is_size_range s) → piece < s.min → HasSize s s.min
first_size s piece range above = elim (range_cases s range) [
  | inl none ↦ absurd (omega (arith, none.0))
  | inr pair ↦ (pair.0, le_refl s.min, pair.3)
]

same_power : (a b : ℕ) → a ≡ b → IsPowerOfTwo b → IsPowerOfTwo a
same_power a b e p = rw e p

arrives_uncut : (piece : ℕ) (s : SizeRange) (bytes : ℕ) → s.max ≡ 0 → HasSize s bytes ↔ Arrives piece s bytes
arrives_uncut piece s bytes none = (
  λ (power, lower, upper). absurd (omega (arith, power_pos bytes power)),
  λ h. elim h [
    | inl small ↦ small.0
    | inr (e, larger, has, above) ↦ absurd (omega (arith, has.2, power_pos larger has.0))
  ],
)

arrives_as_pieces : (piece : ℕ) (s : SizeRange) (bytes : ℕ) → IsPowerOfTwo piece → IsTrue (is_size_range s) → piece < s.min
    → HasSize (size_range piece piece) bytes ↔ Arrives piece s bytes
arrives_as_pieces piece s bytes power range above = (
  λ (own, lower, upper). inr (omega arith, s.min, first_size s piece range above, above),
  λ h. elim h [
    | inl small ↦ absurd (omega (arith, small.0.1, small.1))
    | inr (e, larger, has, more) ↦ (same_power bytes piece e power, omega arith, omega arith)
  ],
)

arrives_both : (piece : ℕ) (s : SizeRange) (bytes : ℕ) → IsPowerOfTwo piece → s.min ≤ piece → HasSize (size_range s.min (min s.max piece)) bytes ↔ Arrives piece s bytes
arrives_both piece s bytes power below = (
  λ (own, lower, upper). inl ((own, lower, omega arith), omega arith),
  λ h. elim h [
    | inl ((own, lower, upper), small) ↦ (own, lower, omega arith)
    | inr (e, larger, has, more) ↦ (same_power bytes piece e power, omega arith, omega (arith, has.2))
  ],
)

arrives_cut : (piece : ℕ) (s : SizeRange) → IsPowerOfTwo piece → IsTrue (is_size_range s) → (bytes : ℕ) → HasSize (cut piece s) bytes ↔ Arrives piece s bytes
arrives_cut piece s power range bytes = elim (s.max == 0) as (λ b. (s.max == 0) ≡ b
    → HasSize (cond b s (cond (nat_lt piece s.min) (size_range piece piece) (size_range s.min (min s.max piece)))) bytes ↔ Arrives piece s bytes) [
      | true ↦ λ e. arrives_uncut piece s bytes ((Decides-eqb s.max 0).0 e)
      | false ↦ λ e. elim (nat_lt piece s.min) as (λ b. nat_lt piece s.min ≡ b
          → HasSize (cond b (size_range piece piece) (size_range s.min (min s.max piece))) bytes ↔ Arrives piece s bytes) [
            | true ↦ λ e. arrives_as_pieces piece s bytes power range (ltb-true piece s.min e)
            | false ↦ λ e. arrives_both piece s bytes power (ltb-false piece s.min e)
          ] refl
    ] refl

-- ---- what is shown

shown_goes_on : (f : Fragments) (s : SizeRange) → GoOn f.piece (widened f s) s
shown_goes_on f s bytes = elim (has_size s f.piece) as (λ b. has_size s f.piece ≡ b
    → HasSize (cond b (size_range s.min (max s.max f.largest)) (meet s (size_range 1 f.piece))) bytes → (bytes ≤ f.piece → HasSize s bytes) × (f.piece < bytes → HasSize s f.piece)) [
      | true ↦ λ e (power, lower, upper).
          let piece = (has_size_is s f.piece).0 e in
          (λ below. (power, lower, omega (arith, piece.2)), λ above. piece)
      | false ↦ λ e has.
          let own = (small_sizes s f.piece bytes).0 has in
          (λ below. own.0, λ above. absurd (omega (arith, own.1)))
    ] refl

largest_shown : (f : Fragments) (s : SizeRange) → AreFragments f → HasSize s f.piece → HasSize (widened f s) f.largest
largest_shown f s h (power, lower, upper) =
    let pair = (size_pair_is f.piece f.largest).0 h in
    let order : f.piece ≤ f.largest = pair.3 in
    let holds : has_size s f.piece ≡ true = (has_size_is s f.piece).1 (power, lower, upper) in
    let wide : HasSize (size_range s.min (max s.max f.largest)) f.largest = (pair.1, omega arith, omega arith) in
    rw holds wide

pub pieces_law : PiecesLaw
pieces_law = record {
  goes_on = λ f s t h range. let power = ((size_pair_is f.piece f.largest).0 h).0 in (fits_to f.piece s t power range, fits_from f.piece s t power range);
  arrive = λ f s h range. arrives_cut f.piece s ((size_pair_is f.piece f.largest).0 h).0 range;
  shown = shown_goes_on;
  largest = largest_shown;
}
