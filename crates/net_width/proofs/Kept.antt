-- Tables of kept addresses.
use Rattle.std.proofs.Common.{◌≡◌, ℕ, zero, suc, ◌+◌, ◌%◌, ◌<◌, ◌≤◌, Bool, true, false, List, [], ◌∷◌, map, get_or, set, Option, Some, None, is_some, replicate, refl, ap, ◌∙◌, arith, if◌then◌else◌}
use Rattle.std.specs.Prelude.{nat_le, slice_set}
use Rattle.std.proofs.lemmas.Bool.Decides.{nat_tests}
use Rattle.std.proofs.lemmas.List.{map-set}
use Rattle.flow_core.specs.Turning.{address_of}
use Rattle.net_build.specs.Bits.{zeros}
use Rattle.net_table.specs.Tables.{entries_written}
use Rattle.net_width.specs.Widened.{kept_of}

le_yes : (a b : ℕ) → a ≤ b → nat_le a b ≡ true
le_yes a b l = grind (arith, nat_tests)

pub none_kept : (count : ℕ) → map kept_of (zeros count) ≡ replicate count None
none_kept zero = refl
none_kept (suc count) = ap (λ (xs : List (Option ℕ)). None ∷ xs) (none_kept count)

entry_keeps : (n : ℕ) → n < 8 → kept_of (8 + n) ≡ Some n
entry_keeps n l =
    let e : (8 + n) % 8 ≡ n = omega arith in
    ap (λ (b : Bool). if b then Some ((8 + n) % 8) else None) (le_yes 8 (8 + n) (omega arith)) ∙ ap Some e

pub written_kept : (b : Bool) (i n : ℕ) (xs : List ℕ) → map kept_of (entries_written b i (8 + n % 8) xs) ≡ (if b then slice_set (map kept_of xs) i (Some (n % 8)) else map kept_of xs)
written_kept true i n xs = map-set kept_of xs i (8 + n % 8) ∙ ap (set (map kept_of xs) i) (entry_keeps (n % 8) (omega arith))
written_kept false i n xs = refl

-- ---- an entry

some_of : (c : Bool) (n : ℕ) → is_some (if c then Some n else None) ≡ c
some_of true n = refl
some_of false n = refl

pub known_is : (xs : List ℕ) (i : ℕ) → is_some (address_of (map kept_of xs) i) ≡ nat_le 8 (get_or xs i 0)
known_is [] i = refl
known_is (x ∷ xs) zero = some_of (nat_le 8 x) (x % 8)
known_is (x ∷ xs) (suc i) = known_is xs i

value_of : (c : Bool) (n a : ℕ) → (if c then Some n else None) ≡ Some a → n ≡ a
value_of true n a e = cc
value_of false n a e = absurd (let z : None ≡ Some a = e in cc)

pub address_is : (xs : List ℕ) (i a : ℕ) → address_of (map kept_of xs) i ≡ Some a → get_or xs i 0 % 8 ≡ a
address_is [] i a e = absurd (let z : None ≡ Some a = e in cc)
address_is (x ∷ xs) zero a e = value_of (nat_le 8 x) (x % 8) a e
address_is (x ∷ xs) (suc i) a e = address_is xs i a e
