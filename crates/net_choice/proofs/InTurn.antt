-- The granted request is the first in turn.
use Rattle.std.proofs.Common.{◌≡◌, ℕ, zero, suc, ◌+◌, ◌-◌, ◌<◌, ◌≤◌, Bool, true, false, not, ◌&&◌, ◌||◌, List, [], ◌∷◌, ◌++◌, length, map, drop, take, Option, Some, None, refl, sym, ap, ◌∙◌, arith, add-one, if◌then◌else◌}
use Rattle.std.specs.Prelude.{find, nat_eq, nat_lt}
use Rattle.std.specs.List.{range_with_len}
use Rattle.std.proofs.lemmas.Bool.Decides.{nat_tests}
use Rattle.flow_choice.specs.Choosing.{flag_at}
use Rattle.net_build.specs.Folds.{firsts_of}
use Rattle.net_choice.specs.declared.rows.Pairing.TheVariants.{Both, Either}
use Rattle.net_choice.specs.Rows.{any_of, paired, pairs}
use Rattle.net_choice.specs.Choice.{GrantsArePick, grants_of, is_number, late_first, lates_of, one_hot, pick}

-- what a list of flags is from n on
abbrev pub here : (ℕ → Bool) → ℕ → ℕ → List Bool
here p n c = map p (range_with_len n c)

abbrev is_some_number : Option ℕ → Bool
is_some_number None = false
is_some_number (Some m) = true

-- the first from n on stands at n or behind
first_behind : (p : ℕ → Bool) (n c : ℕ) (k : ℕ) → k < n → is_number (find p (range_with_len n c)) k ≡ false
first_behind p n zero k h = refl
first_behind p n (suc c) k h = at (p n) (first_behind p (n + 1) c k (omega arith))
  where
    at : (b : Bool) → is_number (find p (range_with_len (n + 1) c)) k ≡ false → is_number (if b then Some n else find p (range_with_len (n + 1) c)) k ≡ false
    at true g = grind (arith, nat_tests)
    at false g = g

none_seen : (p : ℕ → Bool) (n c : ℕ) → firsts_of true (here p n c) ≡ here (λ k. false) n c
none_seen p n zero = refl
none_seen p n (suc c) = at (p n) (none_seen p (n + 1) c)
  where
    at : (b : Bool) → firsts_of true (here p (n + 1) c) ≡ here (λ k. false) (n + 1) c → ((b && false) ∷ firsts_of true (here p (n + 1) c)) ≡ (false ∷ here (λ k. false) (n + 1) c)
    at true g = ap (λ zs. false ∷ zs) g
    at false g = ap (λ zs. false ∷ zs) g

pub same_here : (p q : ℕ → Bool) (n c : ℕ) → ((k : ℕ) → n ≤ k → p k ≡ q k) → here p n c ≡ here q n c
same_here p q n zero h = refl
same_here p q n (suc c) h = ap (λ b. b ∷ here p (n + 1) c) (h n (omega arith)) ∙ ap (λ zs. q n ∷ zs) (same_here p q (n + 1) c (λ k g. h k (omega arith)))

pub eq_self : (n : ℕ) → nat_eq n n ≡ true
eq_self n = grind (arith, nat_tests)

pub eq_later : (n k : ℕ) → n + 1 ≤ k → nat_eq n k ≡ false
eq_later n k h = grind (arith, nat_tests)

pub eq_earlier : (n k : ℕ) → k + 1 ≤ n → nat_eq n k ≡ false
eq_earlier n k h = grind (arith, nat_tests)

-- each request before which none stands is the first
pub firsts_is : (p : ℕ → Bool) (n c : ℕ) → firsts_of false (here p n c) ≡ here (is_number (find p (range_with_len n c))) n c
firsts_is p n zero = refl
firsts_is p n (suc c) = at (p n) refl (firsts_is p (n + 1) c)
  where
    at : (b : Bool) → p n ≡ b → firsts_of false (here p (n + 1) c) ≡ here (is_number (find p (range_with_len (n + 1) c))) (n + 1) c
        → ((b && true) ∷ firsts_of b (here p (n + 1) c)) ≡ (is_number (if b then Some n else find p (range_with_len (n + 1) c)) n ∷ here (is_number (if b then Some n else find p (range_with_len (n + 1) c))) (n + 1) c)
    at true e g = ap (λ zs. true ∷ zs) (none_seen p (n + 1) c ∙ same_here (λ k. false) (nat_eq n) (n + 1) c (λ k h. sym (eq_later n k h))) ∙ ap (λ b. b ∷ here (nat_eq n) (n + 1) c) (sym (eq_self n))
    at false e g = ap (λ zs. false ∷ zs) g ∙ ap (λ b. b ∷ here (is_number (find p (range_with_len (n + 1) c))) (n + 1) c) (sym (first_behind p (n + 1) c n (omega arith)))

-- some flag_at is set where there is a first
any_is : (p : ℕ → Bool) (n c : ℕ) → any_of (here p n c) ≡ is_some_number (find p (range_with_len n c))
any_is p n zero = refl
any_is p n (suc c) = at (p n) (any_is p (n + 1) c)
  where
    at : (b : Bool) → any_of (here p (n + 1) c) ≡ is_some_number (find p (range_with_len (n + 1) c)) → (b || any_of (here p (n + 1) c)) ≡ is_some_number (if b then Some n else find p (range_with_len (n + 1) c))
    at true g = refl
    at false g = g

-- range_with_len from n + 1 on are those from n on, each one greater
shift : (p : ℕ → Bool) (n c : ℕ) → here p (n + 1) c ≡ here (λ k. p (k + 1)) n c
shift p n zero = refl
shift p n (suc c) = ap (λ zs. p (n + 1) ∷ zs) (shift p (n + 1) c)

pub flags_here : (may : List Bool) → here (flag_at may) 0 (length may) ≡ may
flags_here [] = refl
flags_here (x ∷ may) = ap (λ zs. x ∷ zs) (shift (flag_at (x ∷ may)) 0 (length may) ∙ same_here (λ k. flag_at (x ∷ may) (k + 1)) (flag_at may) 0 (length may) (λ k h. behind k) ∙ flags_here may)
  where
    behind : (k : ℕ) → flag_at (x ∷ may) (k + 1) ≡ flag_at may k
    behind k = ap (flag_at (x ∷ may)) (add-one k)

pub both_here : (f : Bool → Bool → Bool) (p q : ℕ → Bool) (n c : ℕ) → pairs f (here p n c) (here q n c) ≡ here (λ k. f (p k) (q k)) n c
both_here f p q n zero = refl
both_here f p q n (suc c) = ap (λ zs. f (p n) (q n) ∷ zs) (both_here f p q (n + 1) c)

-- one of a list of choices, or else another
abbrev pub or_else : Option ℕ → Option ℕ → Option ℕ
or_else None o = o
or_else (Some k) o = Some k

or_false : (b : Bool) → (b || false) ≡ b
or_false true = refl
or_false false = refl

late_first_is : (l p : ℕ → Bool) (c : ℕ) → late_first (here l 0 c) (here p 0 c) ≡ here (is_number (or_else (find l (range_with_len 0 c)) (find p (range_with_len 0 c)))) 0 c
late_first_is l p c =
    ap (λ zs. pairs (paired Either) zs (firsts_of (any_of (here l 0 c)) (here p 0 c))) (firsts_is l 0 c)
    ∙ ap (λ b. pairs (paired Either) (here (is_number (find l (range_with_len 0 c))) 0 c) (firsts_of b (here p 0 c))) (any_is l 0 c)
    ∙ at (find l (range_with_len 0 c))
  where
    at : (o : Option ℕ) → pairs (paired Either) (here (is_number o) 0 c) (firsts_of (is_some_number o) (here p 0 c)) ≡ here (is_number (or_else o (find p (range_with_len 0 c)))) 0 c
    at None = ap (pairs (paired Either) (here (λ k. false) 0 c)) (firsts_is p 0 c) ∙ both_here (paired Either) (λ k. false) (is_number (find p (range_with_len 0 c))) 0 c
    at (Some m) = ap (pairs (paired Either) (here (nat_eq m) 0 c)) (none_seen p 0 c) ∙ both_here (paired Either) (nat_eq m) (λ k. false) 0 c ∙ same_here (λ k. nat_eq m k || false) (nat_eq m) 0 c (λ k h. or_false (nat_eq m k))

abbrev late : ℕ → (ℕ → Bool) → ℕ → Bool
late next may k = may k && not (nat_lt k next)

pub first_append : (p : ℕ → Bool) (xs ys : List ℕ) → find p (xs ++ ys) ≡ or_else (find p xs) (find p ys)
first_append p [] ys = refl
first_append p (x ∷ xs) ys = at (p x) (first_append p xs ys)
  where
    at : (b : Bool) → find p (xs ++ ys) ≡ or_else (find p xs) (find p ys) → (if b then Some x else find p (xs ++ ys)) ≡ or_else (if b then Some x else find p xs) (find p ys)
    at true h = refl
    at false h = h

range_append : (n a b : ℕ) → range_with_len n (a + b) ≡ range_with_len n a ++ range_with_len (n + a) b
range_append n zero b = let e : zero + b ≡ b = omega arith in let f : n + zero ≡ n = omega arith in rw (e, f) refl
range_append n (suc a) b =
    let e : suc a + b ≡ suc (a + b) = omega arith in
    let f : n + suc a ≡ (n + 1) + a = omega arith in
    ap (range_with_len n) e ∙ ap (λ (xs : List ℕ). n ∷ xs) (range_append (n + 1) a b ∙ ap (λ m. range_with_len (n + 1) a ++ range_with_len m b) (sym f))

below : (a b : ℕ) → a < b → nat_lt a b ≡ true
below a b h = grind (arith, nat_tests)

not_below : (a b : ℕ) → b ≤ a → nat_lt a b ≡ false
not_below a b h = grind (arith, nat_tests)

and_false : (a : Bool) → (a && false) ≡ false
and_false true = refl
and_false false = refl

and_true : (a : Bool) → (a && true) ≡ a
and_true true = refl
and_true false = refl

-- none of the first ones comes in turn, and each of the others does
early : (next : ℕ) (may : ℕ → Bool) (n count : ℕ) → n + count ≤ next → find (late next may) (range_with_len n count) ≡ None
early next may n zero h = refl
early next may n (suc count) h = ap (λ (b : Bool). if b then Some n else find (late next may) (range_with_len (n + 1) count)) (ap (λ (b : Bool). may n && not b) (below n next (omega arith)) ∙ and_false (may n)) ∙ early next may (n + 1) count (omega arith)

later : (next : ℕ) (may : ℕ → Bool) (n count : ℕ) → next ≤ n → find (late next may) (range_with_len n count) ≡ find may (range_with_len n count)
later next may n zero h = refl
later next may n (suc count) h =
    ap (λ (b : Bool). if b then Some n else find (late next may) (range_with_len (n + 1) count)) (ap (λ (b : Bool). may n && not b) (not_below n next h) ∙ and_true (may n))
    ∙ ap (λ (o : Option ℕ). if may n then Some n else o) (later next may (n + 1) count (omega arith))

or_else_twice : (a b : Option ℕ) → or_else a b ≡ or_else a (or_else b a)
or_else_twice None None = refl
or_else_twice None (Some b) = refl
or_else_twice (Some a) b = refl

two_passes : (next count : ℕ) (may : ℕ → Bool) → next ≤ count → find may (range_with_len next (count - next) ++ range_with_len 0 next) ≡ or_else (find (late next may) (range_with_len 0 count)) (find may (range_with_len 0 count))
two_passes next count may h =
    let e : count ≡ next + (count - next) = omega arith in
    let split : range_with_len 0 count ≡ range_with_len 0 next ++ range_with_len next (count - next) = ap (range_with_len 0) e ∙ range_append 0 next (count - next) ∙ ap (λ n. range_with_len 0 next ++ range_with_len n (count - next)) (omega arith) in
    let turn : find (late next may) (range_with_len 0 count) ≡ find may (range_with_len next (count - next)) =
    ap (find (late next may)) split ∙ first_append (late next may) (range_with_len 0 next) (range_with_len next (count - next))
    ∙ ap (λ (o : Option ℕ). or_else o (find (late next may) (range_with_len next (count - next)))) (early next may 0 next (omega arith))
    ∙ later next may next (count - next) (omega arith) in
    let all : find may (range_with_len 0 count) ≡ or_else (find may (range_with_len 0 next)) (find may (range_with_len next (count - next))) = ap (find may) split ∙ first_append may (range_with_len 0 next) (range_with_len next (count - next)) in
    first_append may (range_with_len next (count - next)) (range_with_len 0 next)
    ∙ or_else_twice (find may (range_with_len next (count - next))) (find may (range_with_len 0 next))
    ∙ ap (λ (o : Option ℕ). or_else (find may (range_with_len next (count - next))) o) (sym all)
    ∙ ap (λ (o : Option ℕ). or_else o (find may (range_with_len 0 count))) (sym turn)

drop_range : (n a c : ℕ) → n ≤ c → drop n (range_with_len a c) ≡ range_with_len (a + n) (c - n)
drop_range zero a c h = let e : a + zero ≡ a = omega arith in let f : c - zero ≡ c = omega arith in rw (e, f) refl
drop_range (suc n) a zero h = absurd (omega arith)
drop_range (suc n) a (suc c) h =
    let e : (a + 1) + n ≡ a + suc n = omega arith in
    let f : c - n ≡ suc c - suc n = omega arith in
    drop_range n (a + 1) c (omega arith) ∙ ap (λ (k : ℕ). range_with_len k (c - n)) e ∙ ap (range_with_len (a + suc n)) f

take_range : (n a c : ℕ) → n ≤ c → take n (range_with_len a c) ≡ range_with_len a n
take_range zero a c h = refl
take_range (suc n) a zero h = absurd (omega arith)
take_range (suc n) a (suc c) h = ap (λ (ns : List ℕ). a ∷ ns) (take_range n (a + 1) c (omega arith))

-- going round, from the next on
pub pick_round : (next count : ℕ) (p : ℕ → Bool) → next ≤ count → pick true next count p ≡ find p (range_with_len next (count - next) ++ range_with_len 0 next)
pick_round next count p h =
    ap (λ (ns : List ℕ). find p (ns ++ take next (range_with_len 0 count))) (drop_range next 0 count h ∙ ap (λ (k : ℕ). range_with_len k (count - next)) (omega arith))
    ∙ ap (λ (ns : List ℕ). find p (range_with_len next (count - next) ++ ns)) (take_range next 0 count h)

pub grants_here : (round : Bool) (next count : ℕ) (p : ℕ → Bool) → next ≤ count → grants_of round (lates_of next count) (here p 0 count) ≡ one_hot count (pick round next count p)
grants_here false next count p h = firsts_is p 0 count
grants_here true next count p h =
    ap (λ zs. late_first zs (here p 0 count)) (both_here (paired Both) p (λ k. not (nat_lt k next)) 0 count)
    ∙ late_first_is (late next p) p count
    ∙ ap (λ o. here (is_number o) 0 count) (sym (pick_round next count p h ∙ two_passes next count p h))

pub grants_are_pick : GrantsArePick
grants_are_pick round next may h = ap (grants_of round (lates_of next (length may))) (sym (flags_here may)) ∙ grants_here round next (length may) (flag_at may) h
