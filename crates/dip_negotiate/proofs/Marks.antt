-- Marks.
use Rattle.std.proofs.Common.{◌≡◌, ℕ, ◌≤◌, ◌<◌, Bool, true, false, List, [], ◌∷◌, length, refl, sym, ap, ◌∙◌, subst, ◌⊎◌, inl, inr}
use Rattle.std.specs.Prelude.{slice_set}
use Rattle.std.proofs.lemmas.List.{get_or-set_same, get_or-set_other, length-set}
use Rattle.std.proofs.lemmas.Bool.{cases_eq}
use Rattle.dip_negotiate.specs.Demands.{IsOneOf}
use Rattle.dip_negotiate.specs.Turns.{marked, spread}
use Rattle.dip_negotiate.proofs.Picks.{set_past}

pub spread_length : (ms : List Bool) (es : List ℕ) → length (spread ms es) ≡ length ms
spread_length ms [] = refl
spread_length ms (e ∷ es) = spread_length (slice_set ms e true) es ∙ length-set ms e true

-- a mark past the end changes nothing
pub mark_past : (ms : List Bool) (e : ℕ) (es : List ℕ) → length ms ≤ e → spread ms (e ∷ es) ≡ spread ms es
mark_past ms e es l = ap (λ (x : List Bool). spread x es) (set_past ms e true l)

-- one mark
pub set_keeps : (ms : List Bool) (x k : ℕ) → x < length ms → marked ms k ≡ true → marked (slice_set ms x true) k ≡ true
set_keeps ms x k l h = elim (cases_eq k x) [ inl q ↦ subst (λ (y : ℕ). marked (slice_set ms x true) y ≡ true) (sym q) (get_or-set_same ms x true false l) | inr n ↦ get_or-set_other ms x k true false n ∙ h ]

pub set_cases : (ms : List Bool) (x k : ℕ) → marked (slice_set ms x true) k ≡ true → (k ≡ x) ⊎ (marked ms k ≡ true)
set_cases ms x k h = elim (cases_eq k x) [ inl q ↦ inl q | inr n ↦ inr (sym (get_or-set_other ms x k true false n) ∙ h) ]

-- all of these edges have a place among the marks
abbrev pub AreWithin : List Bool → List ℕ → Type 0
AreWithin ms es = (e : ℕ) → IsOneOf e es → e < length ms

shorter : (ms : List Bool) (x : ℕ) (es : List ℕ) → AreWithin ms (x ∷ es) → AreWithin (slice_set ms x true) es
shorter ms x es h e i = subst (λ (n : ℕ). e < n) (sym (length-set ms x true)) (h e (inr i))

pub spread_keeps : (ms : List Bool) (es : List ℕ) (k : ℕ) → AreWithin ms es → marked ms k ≡ true → marked (spread ms es) k ≡ true
spread_keeps ms [] k a h = h
spread_keeps ms (x ∷ es) k a h = spread_keeps (slice_set ms x true) es k (shorter ms x es a) (set_keeps ms x k (a x (inl refl)) h)

pub spread_marks : (ms : List Bool) (es : List ℕ) (k : ℕ) → AreWithin ms es → IsOneOf k es → marked (spread ms es) k ≡ true
spread_marks ms [] k a i = absurd i
spread_marks ms (x ∷ es) k a i =
    elim i [
      | inl q ↦ spread_keeps (slice_set ms x true) es k (shorter ms x es a) (subst (λ (y : ℕ). marked (slice_set ms x true) y ≡ true) (sym q) (get_or-set_same ms x true false (a x (inl refl))))
      | inr j ↦ spread_marks (slice_set ms x true) es k (shorter ms x es a) j
    ]

pub spread_cases : (ms : List Bool) (es : List ℕ) (k : ℕ) → marked (spread ms es) k ≡ true → IsOneOf k es ⊎ (marked ms k ≡ true)
spread_cases ms [] k h = inr h
spread_cases ms (x ∷ es) k h =
    elim (spread_cases (slice_set ms x true) es k h) [
      | inl i ↦ inl (inr i)
      | inr m ↦ elim (set_cases ms x k m) [ inl q ↦ inl (inl q) | inr o ↦ inr o ]
    ]
