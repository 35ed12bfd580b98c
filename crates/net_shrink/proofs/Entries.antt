-- What the tables of slots hold, as the list of old ids that the network keeps.
use Rattle.std.proofs.Common.{◌≡◌, ◌≢◌, ℕ, zero, suc, ◌+◌, ◌-◌, ◌<◌, Bool, true, false, not, cond, List, [], ◌∷◌, length, get_or, set, Option, Some, None, is_some, refl, sym, ap, ◌∙◌, arith, if◌then◌else◌}
use Rattle.std.specs.Prelude.{◌==◌, slice_get, slice_set, nat_lt, replicate, find}
use Rattle.std.specs.List.{range_with_len}
use Rattle.std.specs.Option.{unwrap_or}
use Rattle.std.proofs.lemmas.List.{length-set}
use Rattle.std.proofs.lemmas.Bool.Decides.{nat_tests}
use Rattle.flow_core.specs.Shrinking.{Asking, asking_after, is_free, left_after}
use Rattle.flow_core.specs.Turns.{lowest_free}
use Rattle.net_build.specs.Bits.{zeros}
use Rattle.net_slots.specs.Slots.{first_free}
use Rattle.net_table.specs.Tables.{entries_written}

-- for each new id the old one, where it is taken
abbrev pub olds_of : List ℕ → List ℕ → List (Option ℕ)
olds_of [] os = []
olds_of (t ∷ ts) [] = []
olds_of (t ∷ ts) (o ∷ os) = (if t == 1 then Some o else None) ∷ olds_of ts os

-- ---- the lowest free id

free_head : (b : Bool) (o : ℕ) (xs : List (Option ℕ)) → is_free ((if b then Some o else None) ∷ xs) 0 ≡ not b
free_head true o xs = refl
free_head false o xs = refl

longs : (ts os : List ℕ) → length os ≡ length ts → length (olds_of ts os) ≡ length ts
longs [] os e = refl
longs (t ∷ ts) [] e = absurd (omega (arith, e))
longs (t ∷ ts) (o ∷ os) e = ap suc (longs ts os (omega (arith, e)))

free_at : (ts os : List ℕ) (k : ℕ) → length os ≡ length ts → k < length ts → is_free (olds_of ts os) k ≡ not (get_or ts k 1 == 1)
free_at [] os k e l = absurd (omega arith)
free_at (t ∷ ts) [] k e l = absurd (omega (arith, e))
free_at (t ∷ ts) (o ∷ os) zero e l = free_head (t == 1) o (olds_of ts os)
free_at (t ∷ ts) (o ∷ os) (suc k) e l = free_at ts os k (omega (arith, e)) (omega (arith, l))

found_first : (b c : Bool) (n : ℕ) (o p : Option ℕ) → b ≡ not c → o ≡ p → cond b (Some n) o ≡ (if c then p else Some n)
found_first b true n o p e f = ap (λ x. cond x (Some n) o) e ∙ f
found_first b false n o p e f = ap (λ x. cond x (Some n) o) e

find_first : (p : ℕ → Bool) (ts : List ℕ) (from : ℕ) → ((k : ℕ) → k < length ts → p (from + k) ≡ not (get_or ts k 1 == 1)) → find p (range_with_len from (length ts)) ≡ first_free from ts
find_first p [] from h = refl
find_first p (t ∷ ts) from h =
    let e : from + 0 ≡ from = omega arith in
    found_first (p from) (t == 1) from (find p (range_with_len (from + 1) (length ts))) (first_free (from + 1) ts)
    (ap p (sym e) ∙ h 0 (omega arith))
    (find_first p ts (from + 1) (λ k l. let q : from + 1 + k ≡ from + suc k = omega arith in ap p q ∙ h (suc k) (omega (arith, l))))

pub lowest_is : (ts os : List ℕ) → length os ≡ length ts → lowest_free (olds_of ts os) ≡ unwrap_or (first_free 0 ts) 0
lowest_is ts os e =
    ap (λ n. unwrap_or (find (is_free (olds_of ts os)) (range_with_len 0 n)) 0) (longs ts os e)
    ∙ ap (λ o. unwrap_or o 0) (find_first (is_free (olds_of ts os)) ts 0 (λ k l. let q : 0 + k ≡ k = omega arith in ap (is_free (olds_of ts os)) q ∙ free_at ts os k e l))

-- where the first free one stands
pub record StandsFree (ts : List ℕ) (from k : ℕ) : Type 0 where
  pub place : ℕ
  pub is : k ≡ from + place
  pub within : place < length ts
  pub free : (get_or ts place 1 == 1) ≡ false

pub first_stands : (ts : List ℕ) (from k : ℕ) → first_free from ts ≡ Some k → StandsFree ts from k
first_stands [] from k h = absurd (let x : None ≡ Some k = h in cc)
first_stands (t ∷ ts) from k h = at (t == 1) refl (λ g. first_stands ts (from + 1) k g) h
  where
    at : (b : Bool) → (t == 1) ≡ b → (first_free (from + 1) ts ≡ Some k → StandsFree ts (from + 1) k) → (if b then first_free (from + 1) ts else Some from) ≡ Some k → StandsFree (t ∷ ts) from k
    at true q f h =
        let r = f h in
        record { place = suc r.place; is = r.is ∙ omega arith; within = omega (arith, r.within); free = r.free }
    at false q f h = let e : from ≡ k = cc in record { place = 0; is = sym e ∙ omega arith; within = omega arith; free = q }

none_stands : (t : ℕ) (ts : List ℕ) (from : ℕ) → first_free from (t ∷ ts) ≡ None → (t == 1) ≡ true
none_stands t ts from h = at (t == 1) h
  where
    at : (b : Bool) → (if b then first_free (from + 1) ts else Some from) ≡ None → b ≡ true
    at true h = refl
    at false h = absurd cc

none_free : (ts os : List ℕ) → length os ≡ length ts → first_free 0 ts ≡ None → is_free (olds_of ts os) 0 ≡ false
none_free [] os e h = refl
none_free (t ∷ ts) [] e h = absurd (omega (arith, e))
none_free (t ∷ ts) (o ∷ os) e h = free_head (t == 1) o (olds_of ts os) ∙ ap not (none_stands t ts 0 h)

pub lowest_free_is : (ts os : List ℕ) → length os ≡ length ts → is_free (olds_of ts os) (unwrap_or (first_free 0 ts) 0) ≡ is_some (first_free 0 ts)
lowest_free_is ts os e = at (first_free 0 ts) refl
  where
    at : (o : Option ℕ) → first_free 0 ts ≡ o → is_free (olds_of ts os) (unwrap_or o 0) ≡ is_some o
    at None h = none_free ts os e h
    at (Some k) h =
        let r = first_stands ts 0 k h in
        let q : k ≡ r.place = r.is ∙ omega arith in
        ap (is_free (olds_of ts os)) q ∙ free_at ts os r.place e r.within ∙ ap not r.free

-- ---- taken and freed

pub set_taken : (ts os : List ℕ) (k x : ℕ) → length os ≡ length ts → slice_set (olds_of ts os) k (Some x) ≡ olds_of (set ts k 1) (set os k x)
set_taken [] os k x e = refl
set_taken (t ∷ ts) [] k x e = absurd (omega (arith, e))
set_taken (t ∷ ts) (o ∷ os) zero x e = refl
set_taken (t ∷ ts) (o ∷ os) (suc k) x e = ap (λ (s : List (Option ℕ)). (if t == 1 then Some o else None) ∷ s) (set_taken ts os k x (omega (arith, e)))

pub set_free : (ts os : List ℕ) (k : ℕ) → length os ≡ length ts → slice_set (olds_of ts os) k None ≡ olds_of (set ts k 0) os
set_free [] os k e = refl
set_free (t ∷ ts) [] k e = absurd (omega (arith, e))
set_free (t ∷ ts) (o ∷ os) zero e = refl
set_free (t ∷ ts) (o ∷ os) (suc k) e = ap (λ (s : List (Option ℕ)). (if t == 1 then Some o else None) ∷ s) (set_free ts os k (omega (arith, e)))

pub written_free : (b : Bool) (ts os : List ℕ) (k : ℕ) → length os ≡ length ts → cond b (slice_set (olds_of ts os) k None) (olds_of ts os) ≡ olds_of (entries_written b k 0 ts) os
written_free true ts os k e = set_free ts os k e
written_free false ts os k e = refl

pub written_long : (b : Bool) (k x y : ℕ) (ts os : List ℕ) → length os ≡ length ts → length (entries_written b k x os) ≡ length (entries_written b k y ts)
written_long true k x y ts os e = length-set os k x ∙ e ∙ sym (length-set ts k y)
written_long false k x y ts os e = e

-- the old id that a new one stands for
pub record StandsTaken (ts os : List ℕ) (k old : ℕ) : Type 0 where
  pub taken : (get_or ts k 1 == 1) ≡ true
  pub old_is : get_or os k 0 ≡ old

pub old_stands : (ts os : List ℕ) (k old : ℕ) → slice_get (olds_of ts os) k ≡ Some (Some old) → StandsTaken ts os k old
old_stands [] os k old h = absurd (let x : None ≡ Some (Some old) = h in cc)
old_stands (t ∷ ts) [] k old h = absurd (let x : None ≡ Some (Some old) = h in cc)
old_stands (t ∷ ts) (o ∷ os) zero old h = at (t == 1) refl h
  where
    at : (b : Bool) → (t == 1) ≡ b → Some (if b then Some o else None) ≡ Some (Some old) → StandsTaken (t ∷ ts) (o ∷ os) 0 old
    at true q h = record { taken = q; old_is = cc }
    at false q h = absurd cc
old_stands (t ∷ ts) (o ∷ os) (suc k) old h = let r = old_stands ts os k old h in record { taken = r.taken; old_is = r.old_is }

other_place : {A : Type 0} (xs : List A) (k i : ℕ) (x : A) → k ≢ i → slice_get (slice_set xs k x) i ≡ slice_get xs i
other_place [] k i x h = refl
other_place (y ∷ xs) zero zero x h = absurd (h refl)
other_place (y ∷ xs) zero (suc i) x h = refl
other_place (y ∷ xs) (suc k) zero x h = refl
other_place (y ∷ xs) (suc k) (suc i) x h = other_place xs k i x (λ e. h (ap suc e))

-- a slot that is taken stays so where the first free one is
pub kept : (ts os : List ℕ) (i k x old : ℕ) → length os ≡ length ts → first_free 0 ts ≡ Some k → slice_get (olds_of ts os) i ≡ Some (Some old) → slice_get (olds_of (set ts k 1) (set os k x)) i ≡ Some (Some old)
kept ts os i k x old e f h =
    let r = first_stands ts 0 k f in
    let s = old_stands ts os i old h in
    let q : k ≡ r.place = r.is ∙ omega arith in
    ap (λ (xs : List (Option ℕ)). slice_get xs i) (sym (set_taken ts os k x e))
    ∙ other_place (olds_of ts os) k i (Some x) (λ z. let y : (get_or ts i 1 == 1) ≡ false = ap (λ n. get_or ts n 1 == 1) (sym z ∙ q) ∙ r.free in absurd (let w : true ≡ false = sym s.taken ∙ y in cc))
    ∙ h

-- ---- what is in progress

less_test : (n : ℕ) → nat_lt 1 n ≡ not (n - 1 == 0)
less_test n = grind (arith, nat_tests)

pub asking_left : (id beats : ℕ) → asking_after id beats ≡ (if beats - 1 == 0 then None else Some (record { id = id; left = beats - 1 }))
asking_left id beats = ap (λ (b : Bool). cond b (Some (record { id = id; left = beats - 1 })) None) (less_test beats) ∙ turned (beats - 1 == 0) (Some (record { id = id; left = beats - 1 }))
  where
    turned : (b : Bool) (o : Option Asking) → cond (not b) o None ≡ (if b then None else o)
    turned true o = refl
    turned false o = refl

pub answering_left : (n beats : ℕ) → left_after n beats ≡ (if n == 0 then beats - 1 else n - 1)
answering_left n beats = at (n == 0)
  where
    at : (b : Bool) → cond b beats n - 1 ≡ (if b then beats - 1 else n - 1)
    at true = refl
    at false = refl

pub same_test : (n : ℕ) → (n == n) ≡ true
same_test n = grind (arith, nat_tests)

pub all_free : (n : ℕ) → olds_of (zeros n) (zeros n) ≡ replicate n None
all_free zero = refl
all_free (suc n) = ap (λ (xs : List (Option ℕ)). None ∷ xs) (all_free n)
