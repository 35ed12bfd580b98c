-- Rows of flags, one wire further.
use Rattle.std.proofs.Common.{◌≡◌, ℕ, ◌+◌, ◌<◌, ◌≤◌, Bool, not, ◌&&◌, List, [], ◌∷◌, ◌++◌, length, get_or, drop, sym, ap, ◌∙◌, arith}
use Rattle.std.proofs.lemmas.List.{append-nil, drop_all}
use Rattle.net_build.specs.declared.types.Wire.{Wire}
use Rattle.net_build.specs.Built.{Built}
use Rattle.net_build.specs.Bits.{Always, TellsAll, highs}
use Rattle.net_build.specs.Values.{Adds, Tells, high}
use Rattle.net_build.proofs.Chains.{highs_drop, highs_push, push_left}
use Rattle.net_choice.specs.Rows.{pairs}

pub without : (old new : Built) (x y free w : Wire) → Adds old new → Tells old free (λ v. not (high v y)) → Tells new w (λ v. high v x && high v free) → Tells new w (λ v. high v x && not (high v y))
without old new x y free w g f m = record { at = λ v s. m.at v s ∙ ap (λ (c : Bool). high v x && c) (f.at v (g.later.back v s)) }

pub each_more : (old new : Built) (f : Bool → Bool → Bool) (xs ys out more : List Wire) (w : Wire) (k : ℕ) (d e : Wire) → k < length xs → length ys ≡ length xs → Adds old new
    → Always old (λ v. highs v out ++ pairs f (highs v (drop k xs)) (highs v (drop k ys)) ≡ pairs f (highs v xs) (highs v ys))
    → Tells new w (λ v. f (high v (get_or xs k d)) (high v (get_or ys k e))) → more ≡ out ++ w ∷ []
    → Always new (λ v. highs v more ++ pairs f (highs v (drop (k + 1) xs)) (highs v (drop (k + 1) ys)) ≡ pairs f (highs v xs) (highs v ys))
each_more old new f xs ys out more w k d e b l g a t q = record {
  at = λ v s.
      let n : k < length ys = omega (arith, l, b) in
      ap (λ zs. zs ++ pairs f (highs v (drop (k + 1) xs)) (highs v (drop (k + 1) ys))) (highs_push v out more w q)
      ∙ push_left (highs v out) (pairs f (highs v (drop (k + 1) xs)) (highs v (drop (k + 1) ys))) (high v w) (pairs f (highs v xs) (highs v ys)) (pairs f (highs v (drop k xs)) (highs v (drop k ys)))
      (ap (λ zs. pairs f zs (highs v (drop k ys))) (highs_drop v xs k d b) ∙ ap (pairs f (high v (get_or xs k d) ∷ highs v (drop (k + 1) xs))) (highs_drop v ys k e n)
      ∙ ap (λ c. c ∷ pairs f (highs v (drop (k + 1) xs)) (highs v (drop (k + 1) ys))) (sym (t.at v s)))
      (a.at v (g.later.back v s));
}

pub each_all : (b : Built) (f : Bool → Bool → Bool) (xs ys out : List Wire) (k : ℕ) → length xs ≤ k
    → Always b (λ v. highs v out ++ pairs f (highs v (drop k xs)) (highs v (drop k ys)) ≡ pairs f (highs v xs) (highs v ys))
    → TellsAll b out (λ v. pairs f (highs v xs) (highs v ys))
each_all b f xs ys out k h a = record {
  at = λ v s. sym (append-nil (highs v out)) ∙ ap (λ zs. highs v out ++ pairs f (highs v zs) (highs v (drop k ys))) (sym (drop_all k xs h)) ∙ a.at v s;
}
