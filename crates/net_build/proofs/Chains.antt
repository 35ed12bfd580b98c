-- The firsts of a row, one wire further.
use Rattle.std.proofs.Common.{◌≡◌, ℕ, zero, suc, ◌+◌, ◌<◌, ◌≤◌, Bool, true, false, not, ◌&&◌, ◌||◌, List, [], ◌∷◌, ◌++◌, length, take, get_or, drop, refl, sym, ap, ◌∙◌, arith}
use Rattle.std.specs.List.{list_any}
use Rattle.std.proofs.lemmas.List.{append_assoc, append-nil, map-append, drop_more, drop_all}
use Rattle.net_build.specs.declared.types.Wire.{Wire}
use Rattle.net_build.specs.Built.{Built}
use Rattle.net_build.specs.Bits.{Always, TellsAll, highs}
use Rattle.net_build.specs.Folds.{FirstsAreFirst, firsts_of}
use Rattle.net_build.specs.Values.{Adds, Tells, high}

or_assoc : (a b c : Bool) → ((a || b) || c) ≡ (a || (b || c))
or_assoc true b c = refl
or_assoc false b c = refl

or_false : (b : Bool) → (b || false) ≡ b
or_false true = refl
or_false false = refl

pub shows_adds : (old new : Built) (ws : List Wire) (f : (ℕ → ℕ) → List Bool) → Adds old new → TellsAll old ws f → TellsAll new ws f
shows_adds old new ws f g m = record { at = λ v s. m.at v (g.later.back v s) }

pub highs_push : (v : ℕ → ℕ) (ws more : List Wire) (w : Wire) → more ≡ ws ++ w ∷ [] → highs v more ≡ highs v ws ++ high v w ∷ []
highs_push v ws more w e = ap (highs v) e ∙ map-append (high v) ws (w ∷ [])

pub highs_drop : (v : ℕ → ℕ) (ws : List Wire) (k : ℕ) (d : Wire) → k < length ws → highs v (drop k ws) ≡ high v (get_or ws k d) ∷ highs v (drop (k + 1) ws)
highs_drop v ws k d b = ap (highs v) (drop_more ws k d b)

-- a list that is shown one wire further
pub push_left : (xs ys : List Bool) (x : Bool) (all rest : List Bool) → rest ≡ x ∷ ys → xs ++ rest ≡ all → (xs ++ x ∷ []) ++ ys ≡ all
push_left xs ys x all rest e h = append_assoc xs (x ∷ []) ys ∙ ap (λ zs. xs ++ zs) (sym e) ∙ h

pub seen_more : (old mid new : Built) (before seen after : Wire) (xs : List Wire) (k : ℕ) (d : Wire) → k < length xs → Adds old mid → Adds mid new
    → Always old (λ v. (high v seen || list_any (high v) (drop k xs)) ≡ (high v before || list_any (high v) xs))
    → Tells new after (λ v. high v seen || high v (get_or xs k d))
    → Always new (λ v. (high v after || list_any (high v) (drop (k + 1) xs)) ≡ (high v before || list_any (high v) xs))
seen_more old mid new before seen after xs k d b g h a t = record {
  at = λ v s.
      ap (λ c. c || list_any (high v) (drop (k + 1) xs)) (t.at v s)
      ∙ or_assoc (high v seen) (high v (get_or xs k d)) (list_any (high v) (drop (k + 1) xs))
      ∙ sym (ap (λ zs. high v seen || list_any (high v) zs) (drop_more xs k d b))
      ∙ a.at v (g.later.back v (h.later.back v s));
}

pub seen_all : (b : Built) (before seen : Wire) (xs : List Wire) (k : ℕ) → length xs ≤ k
    → Always b (λ v. (high v seen || list_any (high v) (drop k xs)) ≡ (high v before || list_any (high v) xs))
    → Tells b seen (λ v. high v before || list_any (high v) xs)
seen_all b before seen xs k h a = record {
  at = λ v s. sym (or_false (high v seen)) ∙ ap (λ zs. high v seen || list_any (high v) zs) (sym (drop_all k xs h)) ∙ a.at v s;
}

pub firsts_more : (old mid new : Built) (before seen mine after : Wire) (xs out more : List Wire) (k : ℕ) (d : Wire) → k < length xs → Adds old mid → Adds mid new
    → Always old (λ v. highs v out ++ firsts_of (high v seen) (highs v (drop k xs)) ≡ firsts_of (high v before) (highs v xs))
    → Tells mid mine (λ v. high v (get_or xs k d) && not (high v seen))
    → Tells new after (λ v. high v seen || high v (get_or xs k d))
    → more ≡ out ++ mine ∷ []
    → Always new (λ v. highs v more ++ firsts_of (high v after) (highs v (drop (k + 1) xs)) ≡ firsts_of (high v before) (highs v xs))
firsts_more old mid new before seen mine after xs out more k d b g h a t u q = record {
  at = λ v s.
      let ys = highs v (drop (k + 1) xs) in
      ap (λ zs. zs ++ firsts_of (high v after) ys) (highs_push v out more mine q)
      ∙ push_left (highs v out) (firsts_of (high v after) ys) (high v mine) (firsts_of (high v before) (highs v xs)) (firsts_of (high v seen) (highs v (drop k xs)))
      (ap (firsts_of (high v seen)) (highs_drop v xs k d b)
      ∙ ap (λ c. c ∷ firsts_of (high v seen || high v (get_or xs k d)) ys) (sym (t.at v (h.later.back v s)))
      ∙ ap (λ c. high v mine ∷ firsts_of c ys) (sym (u.at v s)))
      (a.at v (g.later.back v (h.later.back v s)));
}

pub firsts_all : (b : Built) (before seen : Wire) (xs out : List Wire) (k : ℕ) → length xs ≤ k
    → Always b (λ v. highs v out ++ firsts_of (high v seen) (highs v (drop k xs)) ≡ firsts_of (high v before) (highs v xs))
    → TellsAll b out (λ v. firsts_of (high v before) (highs v xs))
firsts_all b before seen xs out k h a = record {
  at = λ v s. sym (append-nil (highs v out)) ∙ ap (λ zs. highs v out ++ firsts_of (high v seen) (highs v zs)) (sym (drop_all k xs h)) ∙ a.at v s;
}

-- ---- what the firsts are

pub firsts_first : FirstsAreFirst
firsts_first seen [] k b = absurd (omega arith)
firsts_first seen (bit ∷ bits) zero b = ap (λ c. bit && not c) (sym (or_false seen))
firsts_first seen (bit ∷ bits) (suc k) b =
    firsts_first (seen || bit) bits k (omega arith) ∙ ap (λ c. get_or bits k false && not c) (or_assoc seen bit (list_any (λ x. x) (take k bits)))
