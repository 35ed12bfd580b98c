-- The first of some wires that isn't 1.
use Rattle.std.proofs.Common.{◌≡◌, ℕ, zero, suc, ◌+◌, ◌<◌, ◌≤◌, Bool, true, false, not, ◌||◌, List, [], ◌∷◌, ◌++◌, length, map, get_or, take, Option, Some, None, is_some, refl, sym, ap, ◌∙◌, subst, arith, if◌then◌else◌}
use Rattle.std.specs.Prelude.{◌==◌, All}
use Rattle.std.specs.List.{list_any, range_with_len}
use Rattle.std.specs.Option.{unwrap_or}
use Rattle.std.proofs.lemmas.List.{take_more, take_all, map-append, get_or-map, length-map}
use Rattle.net_build.specs.declared.types.Wire.{Wire}
use Rattle.net_build.specs.Bits.{MeansAll, TellsAll, highs, wire_values}
use Rattle.net_build.specs.Built.{Built, IsWire}
use Rattle.net_build.specs.Folds.{AreOfOneWidth, chosen, first_width}
use Rattle.net_build.specs.Values.{Adds, Means, Tells, high}
use Rattle.net_build.proofs.Chains.{highs_push}
use Rattle.net_table.specs.Tables.{AreEntries}
use Rattle.net_slots.specs.Slots.{first_free}

-- ---- the inverses

abbrev pub frees_of : (ℕ → ℕ) → List Wire → List Bool
frees_of v ws = map (λ (value : ℕ). not (value == 1)) (wire_values v ws)

frees_long : (v : ℕ → ℕ) (ws : List Wire) → length (frees_of v ws) ≡ length ws
frees_long v ws = length-map (wire_values v ws) (λ (value : ℕ). not (value == 1)) ∙ length-map ws (λ (w : Wire). v w.number)

free_at : (v : ℕ → ℕ) (ws : List Wire) (k : ℕ) (d : Wire) (e : Bool) → k < length ws → get_or (frees_of v ws) k e ≡ not (high v (get_or ws k d))
free_at v ws k d e b =
    get_or-map (λ (value : ℕ). not (value == 1)) (wire_values v ws) k 0 e (subst (λ (n : ℕ). k < n) (sym (length-map ws (λ (w : Wire). v w.number))) b)
    ∙ ap (λ (n : ℕ). not (n == 1)) (get_or-map (λ (w : Wire). v w.number) ws k d 0 b)

pub one_inverse : (old new : Built) (ws out more : List Wire) (w : Wire) (k : ℕ) (d : Wire) → k < length ws → Adds old new
    → TellsAll old out (λ v. take k (frees_of v ws)) → Tells new w (λ v. not (high v (get_or ws k d))) → more ≡ out ++ w ∷ [] → TellsAll new more (λ v. take (k + 1) (frees_of v ws))
one_inverse old new ws out more w k d b g h m q = record {
  at = λ v s.
      highs_push v out more w q
      ∙ ap (λ (ys : List Bool). ys ++ high v w ∷ []) (h.at v (g.later.back v s))
      ∙ ap (λ (x : Bool). take k (frees_of v ws) ++ x ∷ []) (m.at v s ∙ sym (free_at v ws k d false b))
      ∙ sym (take_more (frees_of v ws) k false (subst (λ (n : ℕ). k < n) (sym (frees_long v ws)) b));
}

pub all_inverse : (b : Built) (ws out : List Wire) (k : ℕ) → length ws ≤ k → TellsAll b out (λ v. take k (frees_of v ws)) → TellsAll b out (λ v. frees_of v ws)
all_inverse b ws out k h m = record { at = λ v s. m.at v s ∙ take_all k (frees_of v ws) (subst (λ (n : ℕ). n ≤ k) (sym (frees_long v ws)) h) }

-- ---- the first

some_of : (b : Bool) (o : Option ℕ) (k : ℕ) → is_some (if b then o else Some k) ≡ (not b || is_some o)
some_of true o k = refl
some_of false o k = refl

any_free : (v : ℕ → ℕ) (frees : List Wire) (values : List ℕ) (from : ℕ) → highs v frees ≡ map (λ (value : ℕ). not (value == 1)) values → list_any (high v) frees ≡ is_some (first_free from values)
any_free v [] [] from e = refl
any_free v [] (x ∷ xs) from e = absurd cc
any_free v (w ∷ ws) [] from e = absurd cc
any_free v (w ∷ ws) (x ∷ xs) from e =
    let h : high v w ≡ not (x == 1) = cc in
    let t : highs v ws ≡ map (λ (value : ℕ). not (value == 1)) xs = cc in
    ap (λ (b : Bool). b || list_any (high v) ws) h
    ∙ ap (λ (b : Bool). not (x == 1) || b) (any_free v ws xs (from + 1) t)
    ∙ sym (some_of (x == 1) (first_free (from + 1) xs) from)

place_of : (b c : Bool) (n m : ℕ) (o : Option ℕ) → c ≡ not b → m ≡ unwrap_or o 0 → (if c then n else m) ≡ unwrap_or (if b then o else Some n) 0
place_of true c n m o e f = ap (λ (x : Bool). if x then n else m) e ∙ f
place_of false c n m o e f = ap (λ (x : Bool). if x then n else m) e

first_place : (v : ℕ → ℕ) (frees places : List Wire) (values : List ℕ) (from : ℕ) → highs v frees ≡ map (λ (value : ℕ). not (value == 1)) values
    → wire_values v places ≡ range_with_len from (length values) → chosen v frees places ≡ unwrap_or (first_free from values) 0
first_place v [] places [] from e f = refl
first_place v [] places (x ∷ xs) from e f = absurd cc
first_place v (w ∷ ws) places [] from e f = absurd cc
first_place v (w ∷ ws) [] (x ∷ xs) from e f = absurd cc
first_place v (w ∷ ws) (p ∷ ps) (x ∷ xs) from e f =
    let h : high v w ≡ not (x == 1) = cc in
    let t : highs v ws ≡ map (λ (value : ℕ). not (value == 1)) xs = cc in
    let n : v p.number ≡ from = cc in
    let r : wire_values v ps ≡ range_with_len (from + 1) (length xs) = cc in
    ap (λ (k : ℕ). if high v w then k else chosen v ws ps) n
    ∙ place_of (x == 1) (high v w) from (chosen v ws ps) (first_free (from + 1) xs) h (first_place v ws ps xs (from + 1) t r)

pub some_free : (b1 b2 new : Built) (taken frees fs : List Wire) (some : Wire) → Adds b1 b2 → Adds b2 new → fs ≡ frees
    → TellsAll b1 frees (λ v. frees_of v taken) → Tells b2 some (λ v. list_any (high v) fs) → Tells new some (λ v. is_some (first_free 0 (wire_values v taken)))
some_free b1 b2 new taken frees fs some g h e t m = record {
  at = λ v s. let s2 = h.later.back v s in m.at v s2 ∙ ap (list_any (high v)) e ∙ any_free v frees (wire_values v taken) 0 (t.at v (g.later.back v s2));
}

pub first_is : (b1 b2 new : Built) (taken frees fs places ps : List Wire) (place : Wire) → Adds b1 new → Adds b2 new → fs ≡ frees → ps ≡ places
    → TellsAll b1 frees (λ v. frees_of v taken) → MeansAll b2 places (λ v. range_with_len 0 (length taken)) → Means new place (λ v. chosen v fs ps)
    → Means new place (λ v. unwrap_or (first_free 0 (wire_values v taken)) 0)
first_is b1 b2 new taken frees fs places ps place g h e f t n m = record {
  at = λ v s.
      m.at v s ∙ ap (λ (ws : List Wire). chosen v ws ps) e ∙ ap (chosen v frees) f
      ∙ first_place v frees places (wire_values v taken) 0 (t.at v (g.later.back v s))
      (n.at v (h.later.back v s) ∙ ap (range_with_len 0) (sym (length-map taken (λ (w : Wire). v w.number))));
}

-- ---- widths

first_wide : (ws : List Wire) (d : Wire) → 0 < length ws → first_width ws ≡ (get_or ws 0 d).width
first_wide [] d b = absurd (omega arith)
first_wide (w ∷ ws) d b = refl

no_wire : Wire
no_wire = record { number = 0; width = 0 }

pub one_width : (b : Built) (width : ℕ) (ws : List Wire) → 0 < length ws → AreEntries b width ws → AreOfOneWidth b ws
one_width b width ws l h k d c = let x = h.each k d c in (x.0, x.1 ∙ sym (first_wide ws no_wire l ∙ (h.each 0 no_wire l).1))

pub one_width_is : (b : Built) (width : ℕ) (ws : List Wire) → 0 < length ws → AreEntries b width ws → first_width ws ≡ width
one_width_is b width ws l h = first_wide ws no_wire l ∙ (h.each 0 no_wire l).1

pub range_small : (from count most : ℕ) → from + count ≤ most → All (λ (value : ℕ). value < most) (range_with_len from count)
range_small from zero most h k d b = absurd (omega arith)
range_small from (suc count) most h zero d b = omega arith
range_small from (suc count) most h (suc k) d b = range_small (from + 1) count most (omega arith) k d (omega arith)

pub places_small : (count most : ℕ) (xs ys : List ℕ) → count ≤ most → xs ≡ range_with_len 0 count → ys ≡ xs → All (λ (value : ℕ). value < most) ys
places_small count most xs ys h e f = subst (λ zs. All (λ (value : ℕ). value < most) zs) (sym (f ∙ e)) (range_small 0 count most (omega arith))
