-- The first of some requests, where there is room.
use Rattle.std.proofs.Common.{◌≡◌, ℕ, zero, suc, Bool, true, false, not, ◌&&◌, ◌||◌, List, [], ◌∷◌, length, replicate, refl, sym, ap, ◌∙◌, arith}
use Rattle.std.specs.List.{list_any}
use Rattle.std.proofs.lemmas.List.{length-map}
use Rattle.net_build.specs.declared.types.Wire.{Wire}
use Rattle.net_build.specs.Bits.{TellsAll, highs}
use Rattle.net_build.specs.Built.{Built}
use Rattle.net_build.specs.Folds.{firsts_of}
use Rattle.net_build.specs.Values.{Adds, Tells, high}
use Rattle.net_choice.specs.declared.rows.Pairing.TheVariants.{Both, Either}
use Rattle.net_choice.specs.Choice.{grants_of, late_first}
use Rattle.net_choice.specs.Rows.{any_of, paired, pairs}

-- ---- rows of flags

firsts_seen : (xs : List Bool) → firsts_of true xs ≡ replicate (length xs) false
firsts_seen [] = refl
firsts_seen (true ∷ xs) = ap (λ (ys : List Bool). false ∷ ys) (firsts_seen xs)
firsts_seen (false ∷ xs) = ap (λ (ys : List Bool). false ∷ ys) (firsts_seen xs)

firsts_none : (n : ℕ) → firsts_of false (replicate n false) ≡ replicate n false
firsts_none zero = refl
firsts_none (suc n) = ap (λ (ys : List Bool). false ∷ ys) (firsts_none n)

any_none : (n : ℕ) → any_of (replicate n false) ≡ false
any_none zero = refl
any_none (suc n) = any_none n

pub with_room : (xs : List Bool) → pairs (paired Both) xs (replicate (length xs) true) ≡ xs
with_room [] = refl
with_room (true ∷ xs) = ap (λ (ys : List Bool). true ∷ ys) (with_room xs)
with_room (false ∷ xs) = ap (λ (ys : List Bool). false ∷ ys) (with_room xs)

without_room : (xs : List Bool) → pairs (paired Both) xs (replicate (length xs) false) ≡ replicate (length xs) false
without_room [] = refl
without_room (true ∷ xs) = ap (λ (ys : List Bool). false ∷ ys) (without_room xs)
without_room (false ∷ xs) = ap (λ (ys : List Bool). false ∷ ys) (without_room xs)

none_late : (n : ℕ) (ys : List Bool) → length ys ≡ n → pairs (paired Both) (replicate n false) ys ≡ replicate n false
none_late zero [] e = refl
none_late zero (y ∷ ys) e = absurd (omega arith)
none_late (suc n) [] e = absurd (omega arith)
none_late (suc n) (y ∷ ys) e = ap (λ (zs : List Bool). false ∷ zs) (none_late n ys (omega (arith, e)))

either_none : (n : ℕ) → pairs (paired Either) (replicate n false) (replicate n false) ≡ replicate n false
either_none zero = refl
either_none (suc n) = ap (λ (zs : List Bool). false ∷ zs) (either_none n)

pub pairs_long : (f : Bool → Bool → Bool) (xs ys : List Bool) → length ys ≡ length xs → length (pairs f xs ys) ≡ length xs
pairs_long f [] ys e = refl
pairs_long f (x ∷ xs) [] e = absurd (omega (arith, e))
pairs_long f (x ∷ xs) (y ∷ ys) e = ap suc (pairs_long f xs ys (omega (arith, e)))

firsts_long : (s : Bool) (xs : List Bool) → length (firsts_of s xs) ≡ length xs
firsts_long s [] = refl
firsts_long s (x ∷ xs) = ap suc (firsts_long (s || x) xs)

any_firsts : (s : Bool) (xs : List Bool) → any_of (firsts_of s xs) ≡ (not s && any_of xs)
any_firsts true [] = refl
any_firsts false [] = refl
any_firsts true (true ∷ xs) = any_firsts true xs
any_firsts true (false ∷ xs) = any_firsts true xs
any_firsts false (true ∷ xs) = refl
any_firsts false (false ∷ xs) = any_firsts false xs

four_or : (a b c d : Bool) → ((a || b) || (c || d)) ≡ ((a || c) || (b || d))
four_or true b c d = refl
four_or false true true d = refl
four_or false true false d = refl
four_or false false c d = refl

any_either : (xs ys : List Bool) → length ys ≡ length xs → any_of (pairs (paired Either) xs ys) ≡ (any_of xs || any_of ys)
any_either [] [] e = refl
any_either [] (y ∷ ys) e = absurd (omega (arith, e))
any_either (x ∷ xs) [] e = absurd (omega (arith, e))
any_either (x ∷ xs) (y ∷ ys) e = ap (λ (b : Bool). (x || y) || b) (any_either xs ys (omega (arith, e))) ∙ four_or x y (any_of xs) (any_of ys)

any_late_first : (late may : List Bool) → length late ≡ length may → any_of (late_first late may) ≡ (any_of late || any_of may)
any_late_first late may e =
    any_either (firsts_of false late) (firsts_of (any_of late) may) (firsts_long (any_of late) may ∙ sym e ∙ sym (firsts_long false late))
    ∙ ap (λ (b : Bool). b || any_of (firsts_of (any_of late) may)) (any_firsts false late)
    ∙ ap (λ (b : Bool). any_of late || b) (any_firsts (any_of late) may)
    ∙ at (any_of late) (any_of may)
  where
    at : (a b : Bool) → (a || (not a && b)) ≡ (a || b)
    at true b = refl
    at false b = refl

-- ---- where there is no room, none is granted

lowest_same : (r : Bool) (late may : List Bool) → firsts_of (not r) may ≡ grants_of false late (pairs (paired Both) may (replicate (length may) r))
lowest_same true late may = ap (firsts_of false) (sym (with_room may))
lowest_same false late may = firsts_seen may ∙ sym (ap (firsts_of false) (without_room may) ∙ firsts_none (length may))

lowest_some : (r : Bool) (late may : List Bool) → ((not r || any_of may) && r) ≡ any_of (grants_of false late (pairs (paired Both) may (replicate (length may) r)))
lowest_some true late may = and_true (any_of may) ∙ sym (any_firsts false may) ∙ ap any_of (lowest_same true late may)
  where
    and_true : (b : Bool) → (b && true) ≡ b
    and_true true = refl
    and_true false = refl
lowest_some false late may = sym (ap any_of (ap (firsts_of false) (without_room may) ∙ firsts_none (length may)) ∙ any_none (length may))

round_none : (late may : List Bool) → length late ≡ length may → grants_of true late (pairs (paired Both) may (replicate (length may) false)) ≡ replicate (length may) false
round_none late may e =
    let n = length may in
    ap (grants_of true late) (without_room may)
    ∙ ap (λ (ys : List Bool). late_first ys (replicate n false)) (none_late n late e)
    ∙ ap (λ (ys : List Bool). pairs (paired Either) ys (firsts_of (any_of (replicate n false)) (replicate n false))) (firsts_none n)
    ∙ ap (λ (b : Bool). pairs (paired Either) (replicate n false) (firsts_of b (replicate n false))) (any_none n)
    ∙ ap (pairs (paired Either) (replicate n false)) (firsts_none n)
    ∙ either_none n

round_same : (r : Bool) (late may : List Bool) → length late ≡ length may
    → pairs (paired Either) (firsts_of (not r) (pairs (paired Both) may late)) (firsts_of (not r || any_of (pairs (paired Both) may late)) may) ≡ grants_of true late (pairs (paired Both) may (replicate (length may) r))
round_same true late may e = ap (grants_of true late) (sym (with_room may))
round_same false late may e =
    let lates = pairs (paired Both) may late in
    let n = length may in
    ap (λ (ys : List Bool). pairs (paired Either) ys (firsts_of true may)) (firsts_seen lates ∙ ap (λ (k : ℕ). replicate k false) (pairs_long (paired Both) may late e))
    ∙ ap (pairs (paired Either) (replicate n false)) (firsts_seen may)
    ∙ either_none n
    ∙ sym (round_none late may e)

round_some : (r : Bool) (late may : List Bool) → length late ≡ length may
    → (((not r || any_of (pairs (paired Both) may late)) || any_of may) && r) ≡ any_of (grants_of true late (pairs (paired Both) may (replicate (length may) r)))
round_some true late may e = and_true _ ∙ sym (any_late_first (pairs (paired Both) may late) may (pairs_long (paired Both) may late e)) ∙ ap (λ (ys : List Bool). any_of (grants_of true late ys)) (sym (with_room may))
  where
    and_true : (b : Bool) → (b && true) ≡ b
    and_true true = refl
    and_true false = refl
round_some false late may e = sym (ap any_of (round_none late may e) ∙ any_none (length may))

-- ---- in wires

any_same : (v : ℕ → ℕ) (ws : List Wire) → list_any (high v) ws ≡ any_of (highs v ws)
any_same v [] = refl
any_same v (w ∷ ws) = ap (λ (b : Bool). high v w || b) (any_same v ws)

long : (v : ℕ → ℕ) (ws : List Wire) → length (highs v ws) ≡ length ws
long v ws = length-map ws (high v)

pub lowest_tells : (old mid new : Built) (ready full : Wire) (may grants : List Wire) → Adds old mid → Adds mid new → Tells old full (λ v. not (high v ready))
    → TellsAll mid grants (λ v. firsts_of (high v full) (highs v may))
    → TellsAll new grants (λ v. grants_of false (highs v may) (pairs (paired Both) (highs v may) (replicate (length may) (high v ready))))
lowest_tells old mid new ready full may grants g h f t = record {
  at = λ v s.
      let s1 = h.later.back v s in
      t.at v s1 ∙ ap (λ (b : Bool). firsts_of b (highs v may)) (f.at v (g.later.back v s1)) ∙ lowest_same (high v ready) (highs v may) (highs v may)
      ∙ ap (λ (n : ℕ). grants_of false (highs v may) (pairs (paired Both) (highs v may) (replicate n (high v ready)))) (long v may);
}

pub lowest_any : (old mid new : Built) (ready full seen some : Wire) (may grants : List Wire) → Adds old mid → Adds mid new → Tells old full (λ v. not (high v ready))
    → Tells mid seen (λ v. high v full || list_any (high v) may) → Tells new some (λ v. high v seen && high v ready)
    → TellsAll new grants (λ v. grants_of false (highs v may) (pairs (paired Both) (highs v may) (replicate (length may) (high v ready))))
    → Tells new some (λ v. any_of (highs v grants))
lowest_any old mid new ready full seen some may grants g h f t u k = record {
  at = λ v s.
      let s1 = h.later.back v s in
      u.at v s
      ∙ ap (λ (b : Bool). b && high v ready) (t.at v s1 ∙ ap (λ (b : Bool). b || list_any (high v) may) (f.at v (g.later.back v s1)) ∙ ap (λ (b : Bool). not (high v ready) || b) (any_same v may))
      ∙ lowest_some (high v ready) (highs v may) (highs v may)
      ∙ ap (λ (n : ℕ). any_of (grants_of false (highs v may) (pairs (paired Both) (highs v may) (replicate n (high v ready))))) (long v may)
      ∙ sym (ap any_of (k.at v s));
}

pub round_tells : (old b1 b2 b3 b4 new : Built) (ready full seen : Wire) (late may lates early all grants ls es al : List Wire) → Adds old b1 → Adds b1 b2 → Adds b2 b3 → Adds b3 b4 → Adds b4 new → length late ≡ length may
    → Tells old full (λ v. not (high v ready)) → TellsAll b1 lates (λ v. pairs (paired Both) (highs v may) (highs v late))
    → ls ≡ lates → TellsAll b2 early (λ v. firsts_of (high v full) (highs v ls)) → Tells b2 seen (λ v. high v full || list_any (high v) ls)
    → TellsAll b3 all (λ v. firsts_of (high v seen) (highs v may)) → es ≡ early → al ≡ all
    → TellsAll new grants (λ v. pairs (paired Either) (highs v es) (highs v al))
    → TellsAll new grants (λ v. grants_of true (highs v late) (pairs (paired Both) (highs v may) (replicate (length may) (high v ready))))
round_tells old b1 b2 b3 b4 new ready full seen late may lates early all grants ls es al g1 g2 g3 g4 g5 e f l p t q a i j u = record {
  at = λ v s.
      let s4 = g5.later.back v s in
      let s3 = g4.later.back v s4 in
      let s2 = g3.later.back v s3 in
      let s1 = g2.later.back v s2 in
      let full_is = f.at v (g1.later.back v s1) in
      let ls_is : highs v ls ≡ pairs (paired Both) (highs v may) (highs v late) = ap (highs v) p ∙ l.at v s1 in
      let early_is : highs v es ≡ firsts_of (not (high v ready)) (pairs (paired Both) (highs v may) (highs v late)) = ap (highs v) i ∙ t.at v s2 ∙ ap (λ (b : Bool). firsts_of b (highs v ls)) full_is ∙ ap (firsts_of (not (high v ready))) ls_is in
      let seen_is : high v seen ≡ (not (high v ready) || any_of (pairs (paired Both) (highs v may) (highs v late))) = q.at v s2 ∙ ap (λ (b : Bool). b || list_any (high v) ls) full_is ∙ ap (λ (b : Bool). not (high v ready) || b) (any_same v ls ∙ ap any_of ls_is) in
      let all_is : highs v al ≡ firsts_of (not (high v ready) || any_of (pairs (paired Both) (highs v may) (highs v late))) (highs v may) = ap (highs v) j ∙ a.at v s3 ∙ ap (λ (b : Bool). firsts_of b (highs v may)) seen_is in
      u.at v s
      ∙ ap (λ (zs : List Bool). pairs (paired Either) zs (highs v al)) early_is
      ∙ ap (pairs (paired Either) (firsts_of (not (high v ready)) (pairs (paired Both) (highs v may) (highs v late)))) all_is
      ∙ round_same (high v ready) (highs v late) (highs v may) (long v late ∙ e ∙ sym (long v may))
      ∙ ap (λ (n : ℕ). grants_of true (highs v late) (pairs (paired Both) (highs v may) (replicate n (high v ready)))) (long v may);
}

pub round_any : (old b1 b2 b3 b4 new : Built) (ready full seen end some : Wire) (late may lates grants ls : List Wire) → Adds old b1 → Adds b1 b2 → Adds b2 b3 → Adds b3 b4 → Adds b4 new → length late ≡ length may
    → Tells old full (λ v. not (high v ready)) → TellsAll b1 lates (λ v. pairs (paired Both) (highs v may) (highs v late))
    → ls ≡ lates → Tells b2 seen (λ v. high v full || list_any (high v) ls)
    → Tells b3 end (λ v. high v seen || list_any (high v) may) → Tells b4 some (λ v. high v end && high v ready)
    → TellsAll new grants (λ v. grants_of true (highs v late) (pairs (paired Both) (highs v may) (replicate (length may) (high v ready))))
    → Tells new some (λ v. any_of (highs v grants))
round_any old b1 b2 b3 b4 new ready full seen end some late may lates grants ls g1 g2 g3 g4 g5 e f l p q a u k = record {
  at = λ v s.
      let s4 = g5.later.back v s in
      let s3 = g4.later.back v s4 in
      let s2 = g3.later.back v s3 in
      let s1 = g2.later.back v s2 in
      let ls_is : highs v ls ≡ pairs (paired Both) (highs v may) (highs v late) = ap (highs v) p ∙ l.at v s1 in
      let seen_is : high v seen ≡ (not (high v ready) || any_of (pairs (paired Both) (highs v may) (highs v late))) = q.at v s2 ∙ ap (λ (b : Bool). b || list_any (high v) ls) (f.at v (g1.later.back v s1)) ∙ ap (λ (b : Bool). not (high v ready) || b) (any_same v ls ∙ ap any_of ls_is) in
      u.at v s4
      ∙ ap (λ (b : Bool). b && high v ready) (a.at v s3 ∙ ap (λ (b : Bool). b || list_any (high v) may) seen_is ∙ ap (λ (b : Bool). (not (high v ready) || any_of (pairs (paired Both) (highs v may) (highs v late))) || b) (any_same v may))
      ∙ round_some (high v ready) (highs v late) (highs v may) (long v late ∙ e ∙ sym (long v may))
      ∙ ap (λ (n : ℕ). any_of (grants_of true (highs v late) (pairs (paired Both) (highs v may) (replicate n (high v ready))))) (long v may)
      ∙ sym (ap any_of (k.at v s));
}
