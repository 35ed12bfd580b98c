-- The places of row_picked items.
use Rattle.std.proofs.Common.{◌≡◌, ℕ, zero, suc, ◌+◌, ◌<◌, ◌⊎◌, inl, inr, Bool, true, false, cond, List, [], ◌∷◌, ◌++◌, length, map, take, Option, Some, None, is_some, refl, sym, ap, ◌∙◌, arith}
use Rattle.std.specs.Prelude.{slice_get, slice_index_or, count_by, option_map, All}
use Rattle.std.specs.List.{cons_option, filter_map}
use Rattle.std.proofs.lemmas.List.Sums.{sum_by-append}
use Rattle.net_build.specs.Built.{numbers_where}
use Rattle.std.proofs.lemmas.Option.{slice_get-map, slice_get-get_or}

skip : {Y : Type 0} (o : Option Y) (b : Bool) (rest : List Y) (c : ℕ) → is_some o ≡ b → slice_get (cons_option o rest) (cond b 1 0 + c) ≡ slice_get rest c
skip None true rest c e = absurd cc
skip None false rest c e = ap (slice_get rest) (let z : 0 + c ≡ c = omega arith in z)
skip (Some y) true rest c e = ap (slice_get (y ∷ rest)) (let z : 1 + c ≡ suc c = omega arith in z)
skip (Some y) false rest c e = absurd cc

pub count_cons : {X : Type 0} (p : X → Bool) (x : X) (xs : List X) → count_by p (x ∷ xs) ≡ cond (p x) 1 0 + count_by p xs
count_cons p x xs = sum_by-append (λ x. cond (p x) 1 0) (x ∷ []) xs ∙ ap (λ n. n + count_by p xs) (let z : 0 + cond (p x) 1 0 ≡ cond (p x) 1 0 = omega arith in z)

-- what is row_picked from a wire stands behind what is row_picked from the earlier ones
pub placed : {X Y : Type 0} (h : X → Option Y) (p : X → Bool) → ((x : X) → is_some (h x) ≡ p x) → (xs : List X) (w : ℕ) (x : X) (y : Y) → slice_get xs w ≡ Some x → h x ≡ Some y → slice_get (filter_map h xs) (count_by p (take w xs)) ≡ Some y
placed h p s [] w x y e f = absurd cc
placed h p s (z ∷ xs) zero x y e f = ap (λ o. slice_get (cons_option o (filter_map h xs)) 0) (ap h (let q : z ≡ x = cc in q) ∙ f)
placed h p s (z ∷ xs) (suc w) x y e f = ap (slice_get (filter_map h (z ∷ xs))) (count_cons p z (take w xs)) ∙ skip (h z) (p z) (filter_map h xs) (count_by p (take w xs)) (s z) ∙ placed h p s xs w x y e f

-- where a row_picked item comes from
pub record PickedFrom {X Y : Type 0} (h : X → Option Y) (p : X → Bool) (xs : List X) (k : ℕ) (y : Y) : Type 0 where
  pub place : ℕ
  pub item : X
  pub is : slice_get xs place ≡ Some item
  pub gives : h item ≡ Some y
  pub at : k ≡ count_by p (take place xs)

option_cases : {Y : Type 0} (o : Option Y) → (o ≡ None) ⊎ ((y : Y) × (o ≡ Some y))
option_cases None = inl refl
option_cases (Some y) = inr (y, refl)

first_of : {Y : Type 0} (o : Option Y) (y z : Y) (rest : List Y) → o ≡ Some z → slice_get (cons_option o rest) 0 ≡ Some y → z ≡ y
first_of None y z rest e f = absurd cc
first_of (Some x) y z rest e f = cc

rest_of : {Y : Type 0} (o : Option Y) (y z : Y) (rest : List Y) (k : ℕ) → o ≡ Some z → slice_get (cons_option o rest) (suc k) ≡ Some y → slice_get rest k ≡ Some y
rest_of None y z rest k e f = absurd cc
rest_of (Some x) y z rest k e f = f

none_of : {Y : Type 0} (o : Option Y) (y : Y) (rest : List Y) (k : ℕ) → o ≡ None → slice_get (cons_option o rest) k ≡ Some y → slice_get rest k ≡ Some y
none_of None y rest k e f = f
none_of (Some x) y rest k e f = absurd cc

count_of : (b : Bool) (n : ℕ) → (b ≡ true → cond b 1 0 + n ≡ suc n) × (b ≡ false → cond b 1 0 + n ≡ n)
count_of true n = (λ _. omega arith, λ e. absurd cc)
count_of false n = (λ e. absurd cc, λ _. omega arith)

picked_some : {X Y : Type 0} (h : X → Option Y) (p : X → Bool) → ((x : X) → is_some (h x) ≡ p x) → (x : X) (xs : List X) (k : ℕ) (y z : Y) → h x ≡ Some z → slice_get (filter_map h (x ∷ xs)) k ≡ Some y → ((j : ℕ) → slice_get (filter_map h xs) j ≡ Some y → PickedFrom h p xs j y) → PickedFrom h p (x ∷ xs) k y
picked_some h p s x xs zero y z e f go = record { place = zero; item = x; is = refl; gives = e ∙ ap (λ y. Some y) (first_of (h x) y z (filter_map h xs) e f); at = refl }
picked_some h p s x xs (suc k) y z e f go =
    let q = go k (rest_of (h x) y z (filter_map h xs) k e f) in
    let t : p x ≡ true = sym (s x) ∙ ap is_some e in
    record { place = suc q.place; item = q.item; is = q.is; gives = q.gives; at = ap suc q.at ∙ sym (count_cons p x (take q.place xs) ∙ (count_of (p x) (count_by p (take q.place xs))).0 t) }

pub row_picked : {X Y : Type 0} (h : X → Option Y) (p : X → Bool) → ((x : X) → is_some (h x) ≡ p x) → (xs : List X) (k : ℕ) (y : Y) → slice_get (filter_map h xs) k ≡ Some y → PickedFrom h p xs k y
row_picked h p s [] k y e = absurd cc
row_picked h p s (x ∷ xs) k y e = elim (option_cases (h x)) [
  | inl n ↦
      let q = row_picked h p s xs k y (none_of (h x) y (filter_map h xs) k n e) in
      let f : p x ≡ false = sym (s x) ∙ ap is_some n in
      record { place = suc q.place; item = q.item; is = q.is; gives = q.gives; at = q.at ∙ sym (count_cons p x (take q.place xs) ∙ (count_of (p x) (count_by p (take q.place xs))).1 f) }
  | inr z ↦ picked_some h p s x xs k y z.0 z.1 e (λ j f. row_picked h p s xs j y f)
]

long_of : {Y : Type 0} (o : Option Y) (b : Bool) (rest : List Y) (n : ℕ) → is_some o ≡ b → length rest ≡ n → length (cons_option o rest) ≡ cond b 1 0 + n
long_of None true rest n e f = absurd cc
long_of None false rest n e f = omega arith
long_of (Some y) true rest n e f = omega arith
long_of (Some y) false rest n e f = absurd cc

pub many_picked : {X Y : Type 0} (h : X → Option Y) (p : X → Bool) → ((x : X) → is_some (h x) ≡ p x) → (xs : List X) → length (filter_map h xs) ≡ count_by p xs
many_picked h p s [] = refl
many_picked h p s (x ∷ xs) = long_of (h x) (p x) (filter_map h xs) (count_by p xs) (s x) (many_picked h p s xs) ∙ sym (count_cons p x xs)

-- what holds of each wire that gives something holds of all that is row_picked
pub all_picked : {X Y : Type 0} (h : X → Option Y) (p : X → Bool) (P : Y → Type 0) → ((x : X) → is_some (h x) ≡ p x) → (xs : List X) → ((w : ℕ) (x : X) (y : Y) → slice_get xs w ≡ Some x → h x ≡ Some y → P y) → All P (filter_map h xs)
all_picked h p P s xs go k d b =
    let q = row_picked h p s xs k (slice_index_or (filter_map h xs) k d) (slice_get-get_or (filter_map h xs) k d b) in
    go q.place q.item (slice_index_or (filter_map h xs) k d) q.is q.gives

-- more of the earlier ones pass the test where one between does
pub count_before : {X : Type 0} (p : X → Bool) (xs : List X) (a b : ℕ) (x : X) → slice_get xs a ≡ Some x → p x ≡ true → a < b → count_by p (take a xs) < count_by p (take b xs)
count_before p [] a b x e t h = absurd cc
count_before p (z ∷ xs) a zero x e t h = absurd (omega arith)
count_before p (z ∷ xs) zero (suc b) x e t h =
    let q : p z ≡ true = ap p (let f : z ≡ x = cc in f) ∙ t in
    let n = count_cons p z (take b xs) ∙ (count_of (p z) (count_by p (take b xs))).0 q in
    let m : count_by p (take (suc b) (z ∷ xs)) ≡ suc (count_by p (take b xs)) = n in
    let k : count_by p (take zero (z ∷ xs)) ≡ 0 = refl in
    omega (arith, m, k)
count_before p (z ∷ xs) (suc a) (suc b) x e t h =
    let r = count_before p xs a b x e t (omega arith) in
    let m : count_by p (take (suc a) (z ∷ xs)) ≡ cond (p z) 1 0 + count_by p (take a xs) = count_cons p z (take a xs) in
    let n : count_by p (take (suc b) (z ∷ xs)) ≡ cond (p z) 1 0 + count_by p (take b xs) = count_cons p z (take b xs) in
    omega (arith, r, m, n)

pub get_mapped : {X Y : Type 0} (f : X → Y) (xs : List X) (k : ℕ) (x : X) → slice_get xs k ≡ Some x → slice_get (map f xs) k ≡ Some (f x)
get_mapped f xs k x e = slice_get-map f xs k ∙ ap (option_map f) e

pub get_behind : {A : Type 0} (xs ys : List A) (n k : ℕ) (y : A) → length xs ≡ n → slice_get ys k ≡ Some y → slice_get (xs ++ ys) (n + k) ≡ Some y
get_behind [] ys n k y l e = ap (slice_get ys) (let z : n + k ≡ k = omega arith in z) ∙ e
get_behind (x ∷ xs) ys zero k y l e = absurd (omega arith)
get_behind (x ∷ xs) ys (suc n) k y l e = ap (slice_get (x ∷ (xs ++ ys))) (let z : suc n + k ≡ suc (n + k) = omega arith in z) ∙ get_behind xs ys n k y (omega arith) e

pub picked_mapped : {X Y Z : Type 0} (h : Y → Option Z) (f : X → Y) (xs : List X) → filter_map h (map f xs) ≡ filter_map (λ x. h (f x)) xs
picked_mapped h f [] = refl
picked_mapped h f (x ∷ xs) = ap (cons_option (h (f x))) (picked_mapped h f xs)

none_at : (b : Bool) (n : ℕ) (ps : List ℕ) → cond b (n ∷ ps) ps ≡ [] → (b ≡ false) × (ps ≡ [])
none_at true n ps e = absurd cc
none_at false n ps e = (refl, e)

-- no item passes a test that no place passes
pub none_passes : {A : Type 0} (test : A → Bool) (from : ℕ) (xs : List A) → numbers_where test from xs ≡ [] → (k : ℕ) (x : A) → slice_get xs k ≡ Some x → test x ≡ false
none_passes test from [] e k x f = absurd cc
none_passes test from (z ∷ xs) e zero x f = ap test (let q : x ≡ z = cc in q) ∙ (none_at (test z) from (numbers_where test (from + 1) xs) e).0
none_passes test from (z ∷ xs) e (suc k) x f = none_passes test (from + 1) xs (none_at (test z) from (numbers_where test (from + 1) xs) e).1 k x f
