-- Who owns an address.
use Rattle.std.proofs.Common.{◌≡◌, ℕ, zero, suc, ◌+◌, ◌^◌, ◌<◌, ◌≤◌, Bool, true, false, cond, ◌||◌, List, [], ◌∷◌, length, get_or, drop, Option, Some, is_some, refl, sym, ap, ◌∙◌, subst, arith, if◌then◌else◌}
use Rattle.std.specs.Prelude.{◌==◌, bit_or, max}
use Rattle.std.specs.Int.{bit_at}
use Rattle.std.specs.List.{list_any}
use Rattle.std.proofs.lemmas.Nat.Bits.{bit_at_or, bit_at-lt, same_from_bits}
use Rattle.std.proofs.lemmas.Nat.{le_or_r, or_lt}
use Rattle.std.proofs.lemmas.Bool.{eq-eqb}
use Rattle.std.proofs.lemmas.Bool.Decides.{nat_tests}
use Rattle.std.proofs.lemmas.List.{drop_all, drop_more}
use Rattle.dip_sets.specs.Sets.{In, IsSet, Pattern, is_in}
use Rattle.dip_sets.proofs.Members.{in_from_test, is_in_from}
use Rattle.tl_params.specs.declared.ports.Slave.{Slave}
use Rattle.tl_params.specs.Owners.{holds, owner, owner_from}
use Rattle.net_build.specs.declared.types.Wire.{Wire}
use Rattle.net_build.specs.Bits.{Always}
use Rattle.net_build.specs.Built.{Built, IsWire}
use Rattle.net_build.specs.Values.{Adds, Means, Solves, Tells, high}
use Rattle.net_queue.specs.Rows.{KeepsValue}
use Rattle.net_paths.proofs.Prefixed.{wider}

bit_of : (b : Bool) → ((if b then 1 else 0) == 1) ≡ b
bit_of true = refl
bit_of false = refl

-- ---- one set

one_or : (x b m : ℕ) → x < 2 → b < 2 → m < 2 → max x m ≡ max b m → m ≡ 0 → x ≡ b
one_or x b m h k l e f = grind arith

or_one : (x b m : ℕ) → x < 2 → b < 2 → m < 2 → (m ≡ 0 → x ≡ b) → max x m ≡ max b m
or_one x b zero h k l f = ap (λ n. max n 0) (f refl)
or_one x b (suc zero) h k l f = omega arith
or_one x b (suc (suc m)) h k l f = absurd (omega arith)

from_or : (s : Pattern) (x : ℕ) → bit_or x s.mask ≡ bit_or s.base s.mask → In s x
from_or s x e = λ i z. one_or (bit_at x i) (bit_at s.base i) (bit_at s.mask i) (bit_at-lt x i) (bit_at-lt s.base i) (bit_at-lt s.mask i) (sym (bit_at_or x s.mask i) ∙ ap (λ n. bit_at n i) e ∙ bit_at_or s.base s.mask i) z

to_or : (s : Pattern) (x : ℕ) → In s x → bit_or x s.mask ≡ bit_or s.base s.mask
to_or s x h = same_from_bits _ _ (λ i. bit_at_or x s.mask i ∙ or_one (bit_at x i) (bit_at s.base i) (bit_at s.mask i) (bit_at-lt x i) (bit_at-lt s.base i) (bit_at-lt s.mask i) (h i) ∙ sym (bit_at_or s.base s.mask i))

both_true : (a b : Bool) → (a ≡ true → b ≡ true) → (b ≡ true → a ≡ true) → a ≡ b
both_true true b f g = sym (f refl)
both_true false true f g = g refl
both_true false false f g = refl

test_same : (n m : ℕ) → (n == m) ≡ true → n ≡ m
test_same n m e = grind (arith, nat_tests)

pub in_by_or : (s : Pattern) (x : ℕ) → IsSet s → (bit_or x s.mask == bit_or s.base s.mask) ≡ is_in s x
in_by_or s x h = both_true _ _
    (λ e. is_in_from s x h (from_or s x (test_same (bit_or x s.mask) (bit_or s.base s.mask) e)))
    (λ e. eq-eqb (bit_or x s.mask) (bit_or s.base s.mask) (to_or s x (in_from_test s x h e)))

pub all_fits : (s : Pattern) → IsSet s → bit_or s.base s.mask < 2 ^ 48
all_fits s h = or_lt 48 s.base s.mask h.base_fits h.mask_fits

mask_le : (a b : ℕ) → b ≤ bit_or a b
mask_le a b = le_or_r a b

pub mask_fits : (s : Pattern) (all width : ℕ) → all ≡ bit_or s.base s.mask → all < 2 ^ width → s.mask < 2 ^ width
mask_fits s all width e l = let k : s.mask ≤ bit_or s.base s.mask = mask_le s.base s.mask in omega (arith, l, e, k)

below : (b : Built) (x : Wire) (v : ℕ → ℕ) → Solves b v → IsWire b x → v x.number < 2 ^ x.width
below b x v s h = subst (λ (w : ℕ). v x.number < 2 ^ w) h.has.1 (s.fits x.number h.has.0)

pub set_tells : (old b0 b1 b2 b3 new : Built) (s : Pattern) (address wide free masked greatest w : Wire) (all width : ℕ) → Adds old b0 → Adds b0 b1 → Adds b1 b2 → Adds b2 b3 → Adds b3 new → IsSet s → IsWire old address → address.width ≤ width → wide.width ≡ width
    → all ≡ bit_or s.base s.mask → KeepsValue b0 address wide → Means b1 free (λ v. s.mask) → Means b2 masked (λ v. bit_or (v wide.number) (v free.number)) → Means b3 greatest (λ v. all)
    → Means new w (λ v. if v masked.number == v greatest.number then 1 else 0) → Tells new w (λ v. is_in s (v address.number))
set_tells old b0 b1 b2 b3 new s address wide free masked greatest w all width a0 a1 a2 a3 a4 set i l e q k f m g t = record {
  at = λ v z.
      let z3 = a4.later.back v z in
      let z2 = a3.later.back v z3 in
      let z1 = a2.later.back v z2 in
      let z0 = a1.later.back v z1 in
      let small : v address.number < 2 ^ wide.width = wider (v address.number) address.width wide.width (below old address v (a0.later.back v z0) i) (omega (arith, l, e)) in
      ap (λ n. n == 1) (t.at v z) ∙ bit_of (v masked.number == v greatest.number)
      ∙ ap (λ n. n == v greatest.number) (m.at v z2 ∙ ap (bit_or (v wide.number)) (f.at v z1) ∙ ap (λ n. bit_or n s.mask) (k.at v z0 small))
      ∙ ap (λ n. bit_or (v address.number) s.mask == n) (g.at v z3 ∙ q)
      ∙ in_by_or s (v address.number) set;
}

pub all_small : (s : Pattern) (b m : ℕ) → b ≡ s.base → m ≡ s.mask → IsSet s → bit_or b m < 2 ^ 48
all_small s b m e f h = subst (λ (n : ℕ). bit_or n m < 2 ^ 48) (sym e) (subst (λ (n : ℕ). bit_or s.base n < 2 ^ 48) (sym f) (all_fits s h))

pub mask_under : (b m width : ℕ) → bit_or b m < 2 ^ width → m < 2 ^ width
mask_under b m width l = let k : m ≤ bit_or b m = le_or_r b m in omega (arith, l, k)

pub set_built : (old b0 b1 b2 b3 new : Built) (s : Pattern) (address wide free masked greatest w : Wire) (b m width : ℕ) → Adds old b0 → Adds b0 b1 → Adds b1 b2 → Adds b2 b3 → Adds b3 new → IsSet s → b ≡ s.base → m ≡ s.mask → IsWire old address → address.width ≤ width → wide.width ≡ width
    → KeepsValue b0 address wide → Means b1 free (λ v. m) → Means b2 masked (λ v. bit_or (v wide.number) (v free.number)) → Means b3 greatest (λ v. bit_or b m)
    → Means new w (λ v. if v masked.number == v greatest.number then 1 else 0) → Tells new w (λ v. is_in s (v address.number))
set_built old b0 b1 b2 b3 new s address wide free masked greatest w b m width a0 a1 a2 a3 a4 set eb em i l e k f n g t =
    set_tells old b0 b1 b2 b3 new s address wide free masked greatest w (bit_or b m) width a0 a1 a2 a3 a4 set i l e (ap (λ (x : ℕ). bit_or x m) eb ∙ ap (bit_or s.base) em) k
    (record { at = λ v q. f.at v q ∙ em }) n g t

-- ---- some sets, and some slaves

or_assoc : (a b c : Bool) → ((a || b) || c) ≡ (a || (b || c))
or_assoc true b c = refl
or_assoc false b c = refl

or_false : (b : Bool) → (b || false) ≡ b
or_false true = refl
or_false false = refl

module _ {A : Type 0} (f : A → ℕ → Bool) where
  abbrev pub some_of : List A → ℕ → Bool
  some_of xs x = list_any (λ (a : A). f a x) xs

  pub some_none : (b : Built) (owned address : Wire) (xs : List A) → Tells b owned (λ v. false) → Always b (λ v. (high v owned || some_of (drop 0 xs) (v address.number)) ≡ some_of xs (v address.number))
  some_none b owned address xs t = record { at = λ v s. ap (λ c. c || some_of xs (v address.number)) (t.at v s) }

  pub some_more : (old mid new : Built) (owned held next address : Wire) (xs : List A) (k : ℕ) (a : A) → k < length xs → a ≡ get_or xs k a → Adds old mid → Adds mid new
      → Always old (λ v. (high v owned || some_of (drop k xs) (v address.number)) ≡ some_of xs (v address.number))
      → Tells mid held (λ v. f a (v address.number)) → Tells new next (λ v. high v owned || high v held)
      → Always new (λ v. (high v next || some_of (drop (k + 1) xs) (v address.number)) ≡ some_of xs (v address.number))
  some_more old mid new owned held next address xs k item b e g h a t u = record {
    at = λ v s.
        let s1 = h.later.back v s in
        let x = v address.number in
        ap (λ c. c || some_of (drop (k + 1) xs) x) (u.at v s ∙ ap (λ c. high v owned || c) (t.at v s1))
        ∙ or_assoc (high v owned) (f item x) (some_of (drop (k + 1) xs) x)
        ∙ ap (λ (y : A). high v owned || some_of (y ∷ drop (k + 1) xs) x) e
        ∙ sym (ap (λ zs. high v owned || some_of zs x) (drop_more xs k item b))
        ∙ a.at v (g.later.back v s1);
  }

  pub some_all : (b : Built) (owned address : Wire) (xs : List A) (k : ℕ) → length xs ≤ k → Always b (λ v. (high v owned || some_of (drop k xs) (v address.number)) ≡ some_of xs (v address.number)) → Tells b owned (λ v. some_of xs (v address.number))
  some_all b owned address xs k h a = record { at = λ v s. sym (or_false (high v owned)) ∙ ap (λ zs. high v owned || some_of zs (v address.number)) (sym (drop_all k xs h)) ∙ a.at v s }

abbrev first_or : Bool → ℕ → Option ℕ → Option ℕ
first_or c place o = cond c (Some place) o

-- a slave owns it where one holds it
owner_some : (place : ℕ) (slaves : List Slave) (x : ℕ) → list_any (λ (s : Slave). holds s x) slaves ≡ is_some (owner_from place slaves x)
owner_some place [] x = refl
owner_some place (s ∷ slaves) x = at (holds s x) (owner_some (place + 1) slaves x)
  where
    at : (c : Bool) → list_any (λ (s : Slave). holds s x) slaves ≡ is_some (owner_from (place + 1) slaves x) → (c || list_any (λ (s : Slave). holds s x) slaves) ≡ is_some (first_or c place (owner_from (place + 1) slaves x))
    at true e = refl
    at false e = e

pub owner_tells : (b : Built) (w address : Wire) (slaves : List Slave) → Tells b w (λ v. list_any (λ (s : Slave). holds s (v address.number)) slaves) → Tells b w (λ v. is_some (owner slaves (v address.number)))
owner_tells b w address slaves t = record { at = λ v s. t.at v s ∙ owner_some 0 slaves (v address.number) }
