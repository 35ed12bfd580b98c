-- The tests of sets from their numbers, and back.
use Rattle.std.proofs.Common.{ℕ, ◌≡◌, ◌^◌, ◌<◌, IsTrue, true, false, bit_or, bit_and, subst, arith}
use Rattle.std.proofs.lemmas.Bool.Decides.{Decides-eqb}
use Rattle.std.proofs.lemmas.Nat.{or_lt, and_le_r}
use Rattle.dip_sets.specs.Sets.{Pattern, IsSet, In, is_in, overlap, Disjoint}
use Rattle.dip_sets.specs.MembersLaw.{MembersLaw}
use Rattle.dip_sets.proofs.Bits.{contains_is, tested, overlap_from}

-- a number that is in a set passes its test, and back
pub is_in_from : (s : Pattern) (x : ℕ) → IsSet s → In s x → IsTrue (is_in s x)
is_in_from s x set h = (tested _ _ (contains_is s.base s.mask x set.apart)).1 h

pub in_from_test : (s : Pattern) (x : ℕ) → IsSet s → IsTrue (is_in s x) → In s x
in_from_test s x set t = (tested _ _ (contains_is s.base s.mask x set.apart)).0 t

-- a number in both is found by the test, for all bases and masks
pub overlap_test : (p q : Pattern) (x : ℕ) → In p x → In q x → IsTrue (overlap p q)
overlap_test p q x in_p in_q = (Decides-eqb _ _).1 (overlap_from p q (x, in_p, in_q))

-- where the test finds none, no number is in both
pub disjoint_from_test : (p q : Pattern) → overlap p q ≡ false → Disjoint p q
disjoint_from_test p q apart x in_p in_q = let t : overlap p q ≡ true = overlap_test p q x in_p in_q in (cc)

-- a member has no bit but those of the base and the mask
member_lt : (s : Pattern) (x : ℕ) → IsSet s → In s x → x < 2 ^ 48
member_lt s x set h =
    let e : bit_or (bit_and x s.mask) s.base ≡ x = (contains_is s.base s.mask x set.apart).1 h in
    subst (λ n. n < 2 ^ 48) e (or_lt 48 (bit_and x s.mask) s.base (omega (arith, and_le_r x s.mask, set.mask_fits)) set.base_fits)

pub members : MembersLaw
members = record { test = λ s x apart. tested _ _ (contains_is s.base s.mask x apart); below = member_lt }
