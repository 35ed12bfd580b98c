-- Lists of wires, one further.
use Rattle.std.proofs.Common.{◌≡◌, ℕ, suc, ◌+◌, ◌-◌, ◌<◌, ◌≤◌, Bool, true, false, ◌||◌, List, [], ◌∷◌, ◌++◌, length, get_or, drop, replicate, refl, sym, ap, ◌∙◌, arith, if◌then◌else◌}
use Rattle.std.specs.Prelude.{◌==◌}
use Rattle.std.proofs.lemmas.List.{append_assoc, append-nil, drop_all}
use Rattle.net_build.specs.declared.types.Wire.{Wire}
use Rattle.net_build.specs.Built.{Built}
use Rattle.net_build.specs.Values.{Adds, Means, Tells, high}
use Rattle.net_build.specs.Bits.{Always, TellsAll, highs}
use Rattle.net_build.proofs.Chains.{highs_drop, highs_push, push_left}
use Rattle.net_choice.specs.Rows.{behind_of}

pub same_more : (out more : List Wire) (w : Wire) (n k : ℕ) → k < n → out ++ replicate (n - k) w ≡ replicate n w → more ≡ out ++ w ∷ [] → more ++ replicate (n - (k + 1)) w ≡ replicate n w
same_more out more w n k b h e =
    let m : n - k ≡ suc (n - (k + 1)) = omega arith in
    ap (λ ws. ws ++ replicate (n - (k + 1)) w) e ∙ append_assoc out (w ∷ []) (replicate (n - (k + 1)) w) ∙ sym (ap (λ c. out ++ replicate c w) m) ∙ h

pub same_all : (out : List Wire) (w : Wire) (n k : ℕ) → n ≤ k → out ++ replicate (n - k) w ≡ replicate n w → out ≡ replicate n w
same_all out w n k b h =
    let m : n - k ≡ 0 = omega arith in
    sym (append-nil out) ∙ sym (ap (λ c. out ++ replicate c w) m) ∙ h

pub behind_more : (old new : Built) (seen after : Wire) (xs out more : List Wire) (k : ℕ) (d : Wire) → k < length xs → Adds old new
    → Always old (λ v. highs v out ++ behind_of (high v seen) (highs v (drop k xs)) ≡ behind_of false (highs v xs))
    → Tells new after (λ v. high v seen || high v (get_or xs k d)) → more ≡ out ++ seen ∷ []
    → Always new (λ v. highs v more ++ behind_of (high v after) (highs v (drop (k + 1) xs)) ≡ behind_of false (highs v xs))
behind_more old new seen after xs out more k d b g a u q = record {
  at = λ v s.
      let ys = highs v (drop (k + 1) xs) in
      ap (λ zs. zs ++ behind_of (high v after) ys) (highs_push v out more seen q)
      ∙ push_left (highs v out) (behind_of (high v after) ys) (high v seen) (behind_of false (highs v xs)) (behind_of (high v seen) (highs v (drop k xs)))
      (ap (behind_of (high v seen)) (highs_drop v xs k d b) ∙ ap (λ c. high v seen ∷ behind_of c ys) (sym (u.at v s)))
      (a.at v (g.later.back v s));
}

pub behind_none : (b : Built) (seen : Wire) (xs : List Wire) → Tells b seen (λ v. false) → Always b (λ v. highs v [] ++ behind_of (high v seen) (highs v (drop 0 xs)) ≡ behind_of false (highs v xs))
behind_none b seen xs t = record { at = λ v s. ap (λ c. behind_of c (highs v xs)) (t.at v s) }

pub behind_all : (b : Built) (seen : Wire) (xs out : List Wire) (k : ℕ) → length xs ≤ k
    → Always b (λ v. highs v out ++ behind_of (high v seen) (highs v (drop k xs)) ≡ behind_of false (highs v xs))
    → TellsAll b out (λ v. behind_of false (highs v xs))
behind_all b seen xs out k h a = record { at = λ v s. sym (append-nil (highs v out)) ∙ ap (λ zs. highs v out ++ behind_of (high v seen) (highs v zs)) (sym (drop_all k xs h)) ∙ a.at v s }

pub switch_tells : (b : Built) (pick x y w : Wire) → Means b w (λ v. if high v pick then v x.number else v y.number) → Tells b w (λ v. if high v pick then high v x else high v y)
switch_tells b pick x y w m = record { at = λ v s. ap (λ n. n == 1) (m.at v s) ∙ at v (high v pick) }
  where
    at : (v : ℕ → ℕ) (c : Bool) → ((if c then v x.number else v y.number) == 1) ≡ (if c then high v x else high v y)
    at v true = refl
    at v false = refl

pub switch_more : (old new : Built) (pick w : Wire) (xs ys out more : List Wire) (k : ℕ) (d e : Wire) → k < length xs → length ys ≡ length xs → Adds old new
    → Always old (λ v. highs v out ++ (if high v pick then highs v (drop k xs) else highs v (drop k ys)) ≡ (if high v pick then highs v xs else highs v ys))
    → Tells new w (λ v. if high v pick then high v (get_or xs k d) else high v (get_or ys k e)) → more ≡ out ++ w ∷ []
    → Always new (λ v. highs v more ++ (if high v pick then highs v (drop (k + 1) xs) else highs v (drop (k + 1) ys)) ≡ (if high v pick then highs v xs else highs v ys))
switch_more old new pick w xs ys out more k d e b l g a t q = record {
  at = λ v s.
      let n : k < length ys = omega (arith, l, b) in
      ap (λ zs. zs ++ (if high v pick then highs v (drop (k + 1) xs) else highs v (drop (k + 1) ys))) (highs_push v out more w q)
      ∙ push_left (highs v out) (if high v pick then highs v (drop (k + 1) xs) else highs v (drop (k + 1) ys)) (high v w) (if high v pick then highs v xs else highs v ys) (if high v pick then highs v (drop k xs) else highs v (drop k ys))
      (at v (high v pick) (highs_drop v xs k d b) (highs_drop v ys k e n) ∙ ap (λ c. c ∷ (if high v pick then highs v (drop (k + 1) xs) else highs v (drop (k + 1) ys))) (sym (t.at v s)))
      (a.at v (g.later.back v s));
}
  where
    at : (v : ℕ → ℕ) (c : Bool) → highs v (drop k xs) ≡ high v (get_or xs k d) ∷ highs v (drop (k + 1) xs) → highs v (drop k ys) ≡ high v (get_or ys k e) ∷ highs v (drop (k + 1) ys)
        → (if c then highs v (drop k xs) else highs v (drop k ys)) ≡ (if c then high v (get_or xs k d) else high v (get_or ys k e)) ∷ (if c then highs v (drop (k + 1) xs) else highs v (drop (k + 1) ys))
    at v true f h = f
    at v false f h = h

pub switch_all : (b : Built) (pick : Wire) (xs ys out : List Wire) (k : ℕ) → length xs ≤ k → length ys ≡ length xs
    → Always b (λ v. highs v out ++ (if high v pick then highs v (drop k xs) else highs v (drop k ys)) ≡ (if high v pick then highs v xs else highs v ys))
    → TellsAll b out (λ v. if high v pick then highs v xs else highs v ys)
switch_all b pick xs ys out k h l a = record {
  at = λ v s.
      let n : length ys ≤ k = omega (arith, l, h) in
      sym (append-nil (highs v out)) ∙ ap (λ zs. highs v out ++ zs) (at v (high v pick) (ap (highs v) (drop_all k xs h)) (ap (highs v) (drop_all k ys n))) ∙ a.at v s;
}
  where
    at : (v : ℕ → ℕ) (c : Bool) → highs v (drop k xs) ≡ [] → highs v (drop k ys) ≡ [] → [] ≡ (if c then highs v (drop k xs) else highs v (drop k ys))
    at v true f g = sym f
    at v false f g = sym g
