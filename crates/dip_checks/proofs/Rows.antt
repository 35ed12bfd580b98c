-- Sets in a row have no common address, and the order of sets doesn't matter for that.
use Rattle.std.proofs.Common.{ℕ, zero, suc, ◌≡◌, ◌+◌, ◌-◌, ◌<◌, ◌≤◌, drop, List, [], ◌∷◌, ◌++◌, inl, inr, get_or, subst, Bool, true, false, ◌||◌, length, min, max, bit_and, bit_or, refl, sym, ◌∙◌, ap, arith}
use Rattle.std.specs.Prelude.{All, AllPairs}
use Rattle.std.specs.Int.{bit_at}
use Rattle.std.specs.List.{AllAdjacentBelow, AllByRecursion, IsDistinct, list_any}
use Rattle.std.specs.List.Sorted.{IsPermutation}
use Rattle.std.proofs.lemmas.Nat.{and_le_r, or_disjoint, or_comm, xor_comm}
use Rattle.std.proofs.lemmas.Nat.Bits.{bit_at_and, bit_at_or, bit_at-lt, same_from_bits}
use Rattle.std.proofs.lemmas.Bool.{eqb-true}
use Rattle.std.proofs.lemmas.List.Elements.{All-nil, All-cons, All-weaker}
use Rattle.std.proofs.lemmas.List.Kept.{AllPairs-cons}
use Rattle.std.proofs.lemmas.List.{drop_more, length-drop}
use Rattle.std.proofs.lemmas.List.Sorted.{IsPermutation-sym}
use Rattle.std.proofs.lemmas.Map.Keys.{IsDistinct-from_apart, IsDistinct-IsPermutation}
use Rattle.dip_sets.specs.Sets.{Pattern, IsSet, In, Overlap, overlap}
use Rattle.dip_sets.proofs.Bits.{apart_bits, overlaps_is}
use Rattle.dip_lists.proofs.Tests.{neither}
use Rattle.dip_checks.specs.Checks.{has_overlap, neighbours_overlap}
use Rattle.dip_checks.specs.Rows.{EndsBefore, StandAmong}
use Rattle.tl_params.specs.Owners.{sets_of}
use Rattle.tl_params.specs.declared.ports.Slave.{Slave}

-- ---- the least and the greatest address of a set

base_bit : (b m x : ℕ) → b < 2 → m < 2 → x < 2 → min b m ≡ 0 → (m ≡ 0 → x ≡ b) → min b x ≡ b
base_bit b m x lb lm lx apart h = grind arith

end_bit : (b m x : ℕ) → b < 2 → m < 2 → x < 2 → (m ≡ 0 → x ≡ b) → min x (max b m) ≡ x
end_bit b m x lb lm lx h = grind arith

from_base : (s : Pattern) (x : ℕ) → IsSet s → In s x → s.base ≤ x
from_base s x set h =
    let e : bit_and s.base x ≡ s.base = same_from_bits _ _ (λ i. bit_at_and s.base x i
    ∙ base_bit (bit_at s.base i) (bit_at s.mask i) (bit_at x i) (bit_at-lt _ i) (bit_at-lt _ i) (bit_at-lt _ i) (apart_bits s.base s.mask i set.apart) (h i)) in
    omega (arith, and_le_r s.base x, e)

to_end : (s : Pattern) (x : ℕ) → IsSet s → In s x → x ≤ s.base + s.mask
to_end s x set h =
    let e : bit_and x (bit_or s.base s.mask) ≡ x = same_from_bits _ _ (λ i. bit_at_and x (bit_or s.base s.mask) i
    ∙ ap (λ n. min (bit_at x i) n) (bit_at_or s.base s.mask i)
    ∙ end_bit (bit_at s.base i) (bit_at s.mask i) (bit_at x i) (bit_at-lt _ i) (bit_at-lt _ i) (bit_at-lt _ i) (h i)) in
    omega (arith, and_le_r x (bit_or s.base s.mask), e, or_disjoint s.base s.mask set.apart)

never_both : (s t : Pattern) → EndsBefore s t → Overlap s t → ⊥
never_both s t h (x, in_s, in_t) =
    let before = h.before in
    let low = to_end s x h.set in_s in
    let high = from_base t x h.other in_t in
    absurd (omega arith)

unless : (b : Bool) → (b ≡ true → ⊥) → b ≡ false
unless true h = absurd (h refl)
unless false h = refl

ends_apart : (s t : Pattern) → EndsBefore s t → overlap s t ≡ false
ends_apart s t h = unless (overlap s t) (λ e. never_both s t h ((overlaps_is s t h.set.apart h.other.apart).0 (eqb-true _ _ e)))

-- ---- a row

further : (s t u : Pattern) → EndsBefore s t → EndsBefore t u → EndsBefore s u
further s t u h k =
    let one = h.before in
    let two = k.before in
    record { set = h.set; other = k.other; before = omega arith }

tail_row : (s : Pattern) (sets : List Pattern) → AllAdjacentBelow EndsBefore (s ∷ sets) (length (s ∷ sets)) → AllAdjacentBelow EndsBefore sets (length sets)
tail_row s sets h k d within =
    let e : suc k + 1 ≡ suc (k + 1) = omega arith in
    subst (λ n. EndsBefore (get_or sets k d) (get_or (s ∷ sets) n d)) e (h (suc k) d (omega arith))

before_all : (s : Pattern) (sets : List Pattern) → AllAdjacentBelow EndsBefore (s ∷ sets) (length (s ∷ sets)) → All (EndsBefore s) sets
before_all s [] h = All-nil (EndsBefore s)
before_all s (t ∷ sets) h =
    let next : EndsBefore s t = h zero s (omega arith) in
    All-cons (EndsBefore s) t sets next (All-weaker (EndsBefore t) (EndsBefore s) (λ u later. further s t u next later) sets (before_all t sets (tail_row s (t ∷ sets) h)))

row_pairs : (sets : List Pattern) → AllAdjacentBelow EndsBefore sets (length sets) → AllPairs EndsBefore sets
row_pairs [] h = λ i j d before within. absurd (omega arith)
row_pairs (s ∷ sets) h = AllPairs-cons EndsBefore s sets (before_all s sets h) (row_pairs sets (tail_row s sets h))

-- ---- the test by pairs, in any order

none_of : (s : Pattern) (sets : List Pattern) → AllByRecursion (λ t. overlap s t ≡ false) sets → list_any (overlap s) sets ≡ false
none_of s [] h = refl
none_of s (t ∷ sets) h = ap (λ b. b || list_any (overlap s) sets) h.0 ∙ none_of s sets h.1

each_of : (s : Pattern) (sets : List Pattern) → list_any (overlap s) sets ≡ false → AllByRecursion (λ t. overlap s t ≡ false) sets
each_of s [] h = tt
each_of s (t ∷ sets) h = let both = neither (overlap s t) (list_any (overlap s) sets) h in (both.0, each_of s sets both.1)

passes : (sets : List Pattern) → IsDistinct overlap sets → has_overlap sets ≡ false
unfolding IsDistinct
passes [] h = refl
passes (s ∷ sets) h = ap (λ b. b || has_overlap sets) (none_of s sets h.0) ∙ passes sets h.1

passed : (sets : List Pattern) → has_overlap sets ≡ false → IsDistinct overlap sets
unfolding IsDistinct
passed [] h = tt
passed (s ∷ sets) h = let both = neither (list_any (overlap s) sets) (has_overlap sets) h in (each_of s sets both.0, passed sets both.1)

flips : (s t : Pattern) → overlap s t ≡ overlap t s
flips s t = rw (xor_comm s.base t.base, or_comm s.mask t.mask) refl

moved : (sets sorted : List Pattern) → IsPermutation sets sorted → has_overlap sets ≡ false → has_overlap sorted ≡ false
moved sets sorted p h = passes sorted (IsDistinct-IsPermutation overlap flips sets sorted p (passed sets h))

alike : (a b : Bool) → (a ≡ false → b ≡ false) → (b ≡ false → a ≡ false) → a ≡ b
alike true true h k = refl
alike true false h k = k refl
alike false b h k = sym (h refl)

same_overlap : (sets sorted : List Pattern) → IsPermutation sets sorted → has_overlap sorted ≡ has_overlap sets
same_overlap sets sorted p = alike (has_overlap sorted) (has_overlap sets) (moved sorted sets (IsPermutation-sym sets sorted p)) (moved sets sorted p)

-- sets that stand in a row in some order
row_has_none : (sets sorted : List Pattern) → IsPermutation sets sorted → AllAdjacentBelow EndsBefore sorted (length sorted) → has_overlap sets ≡ false
row_has_none sets sorted p row =
    let apart = row_pairs sorted row in
    sym (same_overlap sets sorted p) ∙ passes sorted (IsDistinct-from_apart overlap sorted (λ i j d before within. ends_apart _ _ (apart i j d before within)))

-- ---- what is answered of sets that were put into another order

pub row_answers : (sets items sorted now : List Pattern) → items ≡ sets → IsPermutation items sorted → now ≡ sorted → AllAdjacentBelow EndsBefore now (length now) → false ≡ has_overlap sets
row_answers sets items sorted now is p same row =
    let there : AllAdjacentBelow EndsBefore sorted (length sorted) = subst (λ (ss : List Pattern). AllAdjacentBelow EndsBefore ss (length ss)) same row in
    sym (ap has_overlap (sym is) ∙ row_has_none items sorted p there)

pub pairs_answer : (sets items sorted now : List Pattern) (answer : Bool) → items ≡ sets → IsPermutation items sorted → now ≡ sorted → answer ≡ has_overlap now → answer ≡ has_overlap sets
pairs_answer sets items sorted now answer is p same e = e ∙ ap has_overlap same ∙ same_overlap items sorted p ∙ ap has_overlap is

-- a set and the next one are two of the sets
any_here : (s t : Pattern) (sets : List Pattern) → overlap s t ≡ true → (list_any (overlap s) (t ∷ sets) || has_overlap (t ∷ sets)) ≡ true
any_here s t sets h = ap (λ b. (b || list_any (overlap s) sets) || has_overlap (t ∷ sets)) h

or_right : (a : Bool) → (a || true) ≡ true
or_right true = refl
or_right false = refl

pub neighbours : (sets : List Pattern) → neighbours_overlap sets ≡ true → has_overlap sets ≡ true
neighbours [] h = absurd cc
neighbours (s ∷ []) h = absurd cc
neighbours (s ∷ t ∷ sets) h = by (overlap s t) refl h (λ k. neighbours (t ∷ sets) k)
  where
    by : (b : Bool) → overlap s t ≡ b → (overlap s t || neighbours_overlap (t ∷ sets)) ≡ true → (neighbours_overlap (t ∷ sets) ≡ true → has_overlap (t ∷ sets) ≡ true)
        → has_overlap (s ∷ t ∷ sets) ≡ true
    by true q e f = any_here s t sets q
    by false q e f =
        ap (λ b. list_any (overlap s) (t ∷ sets) || b) (f (sym (ap (λ b. b || neighbours_overlap (t ∷ sets)) q) ∙ e)) ∙ or_right (list_any (overlap s) (t ∷ sets))

pub neighbours_answer : (sets items sorted now : List Pattern) → items ≡ sets → IsPermutation items sorted → now ≡ sorted → neighbours_overlap now ≡ true → true ≡ has_overlap sets
neighbours_answer sets items sorted now is p same h =
    pairs_answer sets items sorted now true is p same (sym (neighbours now h))

-- ---- sets among others

joined_among : {A : Type 0} (front xs ys : List A) → StandAmong xs ys → StandAmong (front ++ xs) (front ++ ys)
joined_among [] xs ys h = h
joined_among (a ∷ front) xs ys h = inl (refl, joined_among front xs ys h)

behind_among : {A : Type 0} (front xs ys : List A) → StandAmong xs ys → StandAmong xs (front ++ ys)
behind_among [] xs ys h = h
behind_among (a ∷ front) [] ys h = tt
behind_among (a ∷ front) (x ∷ xs) ys h = inr (behind_among front (x ∷ xs) ys h)

pub sets_among : (slaves others : List Slave) → StandAmong slaves others → StandAmong (sets_of slaves) (sets_of others)
sets_among [] others h = tt
sets_among (s ∷ slaves) [] h = absurd h
sets_among (s ∷ slaves) (o ∷ others) (inl e) =
    subst (λ (x : Slave). StandAmong (sets_of (s ∷ slaves)) (x.addresses ++ sets_of others)) e.0 (joined_among s.addresses (sets_of slaves) (sets_of others) (sets_among slaves others e.1))
sets_among (s ∷ slaves) (o ∷ others) (inr h) = behind_among o.addresses (sets_of (s ∷ slaves)) (sets_of others) (sets_among (s ∷ slaves) others h)

none_among : (s : Pattern) (xs ys : List Pattern) → StandAmong xs ys → list_any (overlap s) ys ≡ false → list_any (overlap s) xs ≡ false
none_among s [] ys h e = refl
none_among s (x ∷ xs) [] h e = absurd h
none_among s (x ∷ xs) (y ∷ ys) (inl q) e =
    let both = neither (overlap s y) (list_any (overlap s) ys) e in
    ap (λ b. b || list_any (overlap s) xs) (ap (overlap s) q.0 ∙ both.0) ∙ none_among s xs ys q.1 both.1
none_among s (x ∷ xs) (y ∷ ys) (inr h) e = none_among s (x ∷ xs) ys h (neither (overlap s y) (list_any (overlap s) ys) e).1

pub apart_among : (xs ys : List Pattern) → StandAmong xs ys → has_overlap ys ≡ false → has_overlap xs ≡ false
apart_among [] ys h e = refl
apart_among (x ∷ xs) [] h e = absurd h
apart_among (x ∷ xs) (y ∷ ys) (inl q) e =
    let both = neither (list_any (overlap y) ys) (has_overlap ys) e in
    ap (λ b. b || has_overlap xs) (ap (λ s. list_any (overlap s) xs) q.0 ∙ none_among y xs ys q.1 both.0) ∙ apart_among xs ys q.1 both.1
apart_among (x ∷ xs) (y ∷ ys) (inr h) e = apart_among (x ∷ xs) ys h (neither (list_any (overlap y) ys) (has_overlap ys) e).1

-- ---- a walk over neighbours

pub neighbours_more : (sets : List Pattern) (p : ℕ) (s t : Pattern) → 1 ≤ p → p < length sets → s ≡ get_or sets (p - 1) s → t ≡ get_or sets p t
    → neighbours_overlap (drop (p - 1) sets) ≡ (overlap s t || neighbours_overlap (drop p sets))
neighbours_more sets p s t one l es et =
    let a : drop (p - 1) sets ≡ get_or sets (p - 1) s ∷ drop (p - 1 + 1) sets = drop_more sets (p - 1) s (omega arith) in
    let n : p - 1 + 1 ≡ p = omega arith in
    let b : drop p sets ≡ get_or sets p t ∷ drop (p + 1) sets = drop_more sets p t l in
    let c : drop (p - 1) sets ≡ s ∷ t ∷ drop (p + 1) sets = a ∙ ap (λ m. get_or sets (p - 1) s ∷ drop m sets) n ∙ ap (λ x. x ∷ drop p sets) (sym es)
    ∙ ap (λ xs. s ∷ xs) (b ∙ ap (λ x. x ∷ drop (p + 1) sets) (sym et)) in
    ap neighbours_overlap c ∙ ap (λ xs. overlap s t || neighbours_overlap xs) (sym (b ∙ ap (λ x. x ∷ drop (p + 1) sets) (sym et)))

short_none : (sets : List Pattern) → length sets ≤ 1 → neighbours_overlap sets ≡ false
short_none [] l = refl
short_none (s ∷ []) l = refl
short_none (s ∷ t ∷ sets) l = absurd (omega arith)

pub neighbours_end : (sets : List Pattern) (p : ℕ) → 1 ≤ p → length sets ≤ p → neighbours_overlap (drop (p - 1) sets) ≡ false
neighbours_end sets p one l = short_none (drop (p - 1) sets) (let e = length-drop (p - 1) sets in omega (arith, e))

pub neighbours_on : (sets : List Pattern) (p : ℕ) (s t : Pattern) (r : Bool) → 1 ≤ p → p < length sets → s ≡ get_or sets (p - 1) s → t ≡ get_or sets p t → r ≡ overlap s t → r ≡ false
    → neighbours_overlap (drop (p - 1) sets) ≡ neighbours_overlap sets → neighbours_overlap (drop (p + 1 - 1) sets) ≡ neighbours_overlap sets
neighbours_on sets p s t r one l es et e f h =
    let n : p + 1 - 1 ≡ p = omega arith in
    ap (λ m. neighbours_overlap (drop m sets)) n ∙ ap (λ b. b || neighbours_overlap (drop p sets)) (sym f ∙ e) ∙ sym (neighbours_more sets p s t one l es et) ∙ h
