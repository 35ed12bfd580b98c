-- What is held after bytes were replaced.
use Rattle.std.proofs.Common.{◌≡◌, ℕ, zero, suc, ◌+◌, ◌-◌, ◌<◌, ◌≤◌, ◌⊎◌, ◌&&◌, Bool, true, false, cond, Option, Some, None, IsSome, List, [], ◌∷◌, ◌++◌, length, get_or, set, take, drop, map, replicate, option_map, refl, ap, sym, subst, ◌∙◌, inl, inr, arith, drop-cons, get_or-set_other, get_or-set_same, length-append, length-take}
use Rattle.std.specs.Prelude.{unwrap_or}
use mathlib.Core.Path.{fun_ext}
use Rattle.std.proofs.Math.ListN.{get_or-append}
use Rattle.std.proofs.Math.Nat.{eq-or-lt_of_le}
use Rattle.std.proofs.lemmas.List.{get_or-append_right, get_or-drop, get_or-replicate, get_or-take}
use Rattle.std.proofs.lemmas.Bool.Decides.{leb_tells}
use Rattle.std.specs.List.{range_with_len}
use Rattle.sim_ports.specs.declared.runs.Run.{Run}
use Rattle.sim_ports.specs.Layout.{AreSpaced, HasPlaces, IsReplaced, kept, place_in_runs}
use Rattle.sim_ports.specs.Memories.{byte_after, byte_at, bytes_from, after_write}
use Rattle.sim_ports.proofs.Placed.{next_place, rising, within}

some_is : (o : Option ℕ) → IsSome o → (p : ℕ) × (o ≡ Some p)
some_is None h = cc
some_is (Some p) h = (p, refl)

-- addresses in a row have places in a row
pub in_row : (high end start address count number at p : ℕ) (runs : List Run) → AreSpaced 0 0 runs high end
    → place_in_runs runs address ≡ Some start → HasPlaces runs address count → number < count
    → at ≡ address + number → p ≡ start + number → place_in_runs runs at ≡ Some p
in_row high end start address count zero at p runs s e has h x y =
    let a : at ≡ address = omega arith in
    let b : p ≡ start = omega arith in
    rw (a, b) e
in_row high end start address count (suc number) at p runs s e has h x y =
    let before = in_row high end start address count number (address + number) (start + number) runs s e has (omega arith) refl refl in
    let more = some_is (place_in_runs runs (address + suc number)) (has (suc number) h) in
    let a : address + suc number ≡ address + number + 1 = omega arith in
    let now : place_in_runs runs (address + number + 1) ≡ Some more.0 = subst (λ n. place_in_runs runs n ≡ Some more.0) a more.1 in
    let next = next_place 0 0 high end (address + number) (start + number) more.0 runs s before now in
    let b : at ≡ address + suc number = x in
    let d : p ≡ more.0 = omega (arith, next, y) in
    rw (b, d) more.1

pub row_within : (high end start address count : ℕ) (runs : List Run) → AreSpaced 0 0 runs high end
    → place_in_runs runs address ≡ Some start → HasPlaces runs address count → 1 ≤ count → start + count ≤ end
row_within high end start address count runs s e has h =
    let last = in_row high end start address count (count - 1) (address + (count - 1)) (start + (count - 1)) runs s e has (omega arith) refl refl in
    let w = within 0 0 high end (address + (count - 1)) (start + (count - 1)) runs s last in
    omega (arith, w.place_to)

-- ---- reading

read_from : (high end start address count from left : ℕ) (runs : List Run) (bytes : List ℕ) → AreSpaced 0 0 runs high end
    → place_in_runs runs address ≡ Some start → HasPlaces runs address count → from + left ≡ count → start + count ≤ length bytes
    → map (λ number. byte_at (kept runs bytes) (address + number)) (range_with_len from left) ≡ take left (drop (start + from) bytes)
read_from high end start address count from zero runs bytes s e has l h = refl
read_from high end start address count from (suc left) runs bytes s e has l h =
    let at = in_row high end start address count from (address + from) (start + from) runs s e has (omega arith) refl refl in
    let head : byte_at (kept runs bytes) (address + from) ≡ get_or bytes (start + from) 0 =
    ap (λ o. unwrap_or (option_map (λ k. get_or bytes k 0) o) 0) at in
    let rest = read_from high end start address count (from + 1) left runs bytes s e has (omega arith) h in
    let next : start + (from + 1) ≡ suc (start + from) = omega arith in
    let tail : map (λ number. byte_at (kept runs bytes) (address + number)) (range_with_len (from + 1) left)
    ≡ take left (drop (suc (start + from)) bytes) = rw next at rest in
    let whole = drop-cons bytes (start + from) 0 (omega arith) in
    ap (λ y. y ∷ map (λ number. byte_at (kept runs bytes) (address + number)) (range_with_len (from + 1) left)) head
    ∙ ap (λ t. get_or bytes (start + from) 0 ∷ t) tail
    ∙ sym (ap (take (suc left)) whole)

pub read_row : (high start address count : ℕ) (runs : List Run) (bytes : List ℕ) → AreSpaced 0 0 runs high (length bytes)
    → place_in_runs runs address ≡ Some start → HasPlaces runs address count → start + count ≤ length bytes
    → bytes_from (kept runs bytes) address count ≡ take count (drop start bytes)
read_row high start address count runs bytes s e has h =
    let all = read_from high (length bytes) start address count 0 count runs bytes s e has (omega arith) h in
    let at : start + 0 ≡ start = omega arith in
    rw at at all

-- ---- writing

-- one byte more
pub replaced_more : (start count byte : ℕ) (flag : Bool) (flags : List Bool) (others before after : List ℕ)
    → IsReplaced start count flags others before after → start + count < length after
    → flag ≡ get_or flags count false → byte ≡ get_or others count 0
    → IsReplaced start (count + 1) flags others before (set after (start + count) (cond flag byte (get_or after (start + count) 0)))
replaced_more start count byte flag flags others before after r h f b = record {
  below = λ k l. get_or-set_other after (start + count) k _ 0 (omega (arith, l)) ∙ r.below k l;
  there = λ k l. more k l (eq-or-lt_of_le (omega (arith, l)));
  behind = λ k l. get_or-set_other after (start + count) k _ 0 (omega (arith, l)) ∙ r.behind k (omega (arith, l));
}
  where
    more : (k : ℕ) → k < count + 1 → (k ≡ count) ⊎ (k < count)
        → get_or (set after (start + count) (cond flag byte (get_or after (start + count) 0))) (start + k) 0
        ≡ cond (get_or flags k false) (get_or others k 0) (get_or before (start + k) 0)
    more k l (inl e) =
        let set_here = get_or-set_same after (start + count) (cond flag byte (get_or after (start + count) 0)) 0 h in
        let old = r.behind (start + count) (omega arith) in
        rw (e, set_here, f, b, old) refl
    more k l (inr m) = get_or-set_other after (start + count) (start + k) _ 0 (omega (arith, m)) ∙ r.there k m

pub replaced_whole : (start : ℕ) (others before : List ℕ) → start + length others ≤ length before
    → IsReplaced start (length others) (replicate (length others) true) others before
    (take start before ++ others ++ drop (start + length others) before)
replaced_whole start others before h = record {
  below = λ k l. first k l;
  there = λ k l. middle k l ∙ sym (set_here k l);
  behind = λ k l. last k l;
}
  where
    front : length (take start before) ≡ start
    front = length-take start before ∙ omega arith

    first : (k : ℕ) → k < start → get_or (take start before ++ others ++ drop (start + length others) before) k 0 ≡ get_or before k 0
    first k l =
        let m : k < length (take start before ++ others) = omega (arith, length-append (take start before) others, front, l) in
        get_or-append (take start before ++ others) (drop (start + length others) before) 0 k m
        ∙ get_or-append (take start before) others 0 k (omega (arith, front, l))
        ∙ get_or-take start before k 0 l

    middle : (k : ℕ) → k < length others → get_or (take start before ++ others ++ drop (start + length others) before) (start + k) 0 ≡ get_or others k 0
    middle k l =
        let m : start + k < length (take start before ++ others) = omega (arith, length-append (take start before) others, front, l) in
        let i : start + k - start ≡ k = omega arith in
        let there = get_or-append_right (take start before) others start (start + k) 0 front (omega arith) in
        get_or-append (take start before ++ others) (drop (start + length others) before) 0 (start + k) m
        ∙ there ∙ ap (λ n. get_or others n 0) i

    set_here : (k : ℕ) → k < length others
        → cond (get_or (replicate (length others) true) k false) (get_or others k 0) (get_or before (start + k) 0) ≡ get_or others k 0
    set_here k l = ap (λ b. cond b (get_or others k 0) (get_or before (start + k) 0)) (get_or-replicate (length others) k true false l)

    last : (k : ℕ) → start + length others ≤ k → get_or (take start before ++ others ++ drop (start + length others) before) k 0 ≡ get_or before k 0
    last k l =
        let both : length (take start before ++ others) ≡ start + length others = length-append (take start before) others ∙ ap (λ n. n + length others) front in
        let i : start + length others + (k - (start + length others)) ≡ k = omega (arith, l) in
        get_or-append_right (take start before ++ others) (drop (start + length others) before) (start + length others) k 0 both l
        ∙ get_or-drop (start + length others) before (k - (start + length others)) 0
        ∙ ap (λ n. get_or before n 0) i

no_flag : (flags : List Bool) (k : ℕ) → length flags ≤ k → get_or flags k false ≡ false
no_flag [] k h = refl
no_flag (f ∷ flags) zero h = absurd (omega arith)
no_flag (f ∷ flags) (suc k) h = no_flag flags k (omega arith)

-- one byte after the writing
byte_there : (high end start address x p : ℕ) (flags : List Bool) (others before after : List ℕ) (runs : List Run)
    → AreSpaced 0 0 runs high end → place_in_runs runs address ≡ Some start → HasPlaces runs address (length others)
    → 1 ≤ length others → length flags ≡ length others
    → IsReplaced start (length others) flags others before after
    → place_in_runs runs x ≡ Some p
    → get_or after p 0 ≡ byte_after address flags others x (get_or before p 0)
byte_there high end start address x p flags others before after runs s e has some f r at =
    elim (leb_tells address x) [
      | inr y ↦
          let l = rising 0 0 high end x address p start runs s y.1 at e in
          let old = r.below p l in
          old ∙ ap (λ b. cond (b && get_or flags (x - address) false) (get_or others (x - address) 0) (get_or before p 0)) (sym y.0)
      | inl y ↦ elim (leb_tells (suc (x - address)) (length others)) [
        | inl z ↦
            let here = in_row high end start address (length others) (x - address) x (start + (x - address)) runs s e has z.1 (omega (arith, y.1)) refl in
            let same : p ≡ start + (x - address) = cc in
            let new = r.there (x - address) z.1 in
            let past : get_or after p 0 ≡ cond (get_or flags (x - address) false) (get_or others (x - address) 0) (get_or before p 0) = rw same new in
            past ∙ ap (λ b. cond (b && get_or flags (x - address) false) (get_or others (x - address) 0) (get_or before p 0)) (sym y.0)
        | inr z ↦
            let last = in_row high end start address (length others) (length others - 1) (address + (length others - 1)) (start + (length others - 1)) runs s e has (omega (arith, some)) refl refl in
            let l = rising 0 0 high end (address + (length others - 1)) x (start + (length others - 1)) p runs s (omega (arith, z.1, some)) last at in
            let old = r.behind p (omega (arith, l, some)) in
            let none = no_flag flags (x - address) (omega (arith, f, z.1)) in
            old ∙ sym (simp (none, y.0) refl)
      ]
    ]

pub kept_after : (high end start address : ℕ) (flags : List Bool) (others before after : List ℕ) (runs : List Run)
    → AreSpaced 0 0 runs high end → place_in_runs runs address ≡ Some start → HasPlaces runs address (length others)
    → 1 ≤ length others → length flags ≡ length others
    → IsReplaced start (length others) flags others before after
    → kept runs after ≡ after_write (kept runs before) address flags others
kept_after high end start address flags others before after runs s e has some f r =
    fun_ext (λ x. by_place x (place_in_runs runs x) refl)
  where
    by_place : (x : ℕ) (o : Option ℕ) → place_in_runs runs x ≡ o
        → option_map (λ k. get_or after k 0) o ≡ option_map (byte_after address flags others x) (option_map (λ k. get_or before k 0) o)
    by_place x None at = refl
    by_place x (Some p) at = ap Some (byte_there high end start address x p flags others before after runs s e has some f r at)
