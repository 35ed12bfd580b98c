-- One of two rows, wire by wire.
use Rattle.std.proofs.Common.{◌≡◌, ℕ, ◌+◌, ◌<◌, ◌≤◌, Bool, true, false, cond, List, [], ◌∷◌, ◌++◌, length, take, get_or, refl, sym, ap, ◌∙◌, arith, if◌then◌else◌}
use Rattle.std.specs.Prelude.{◌==◌}
use Rattle.std.proofs.lemmas.List.{get_or-map, length-map, map-append, take_more, take_all}
use Rattle.net_build.specs.declared.types.Wire.{Wire}
use Rattle.net_build.specs.Bits.{Always, MeansAll, wire_values}
use Rattle.net_build.specs.Built.{Built}
use Rattle.net_build.specs.Values.{Adds, Means, high}

abbrev pub picked : (ℕ → ℕ) → Wire → List Wire → List Wire → List ℕ
picked v pick xs ys = cond (high v pick) (wire_values v xs) (wire_values v ys)

picked_long : (v : ℕ → ℕ) (xs ys : List Wire) (c : Bool) → length ys ≡ length xs → length (cond c (wire_values v xs) (wire_values v ys)) ≡ length xs
picked_long v xs ys true e = length-map xs (λ (w : Wire). v w.number)
picked_long v xs ys false e = length-map ys (λ (w : Wire). v w.number) ∙ e

picked_at : (v : ℕ → ℕ) (xs ys : List Wire) (k : ℕ) (d e : Wire) (c : Bool) → k < length xs → length ys ≡ length xs → (if c then v (get_or xs k d).number else v (get_or ys k e).number) ≡ get_or (cond c (wire_values v xs) (wire_values v ys)) k 0
picked_at v xs ys k d e true l m = sym (get_or-map (λ (w : Wire). v w.number) xs k d 0 l)
picked_at v xs ys k d e false l m = sym (get_or-map (λ (w : Wire). v w.number) ys k e 0 (omega (arith, l, m)))

pub none_picked : (b : Built) (pick : Wire) (xs ys : List Wire) → Always b (λ v. wire_values v [] ≡ take 0 (picked v pick xs ys))
none_picked b pick xs ys = record { at = λ v s. refl }

pub one_more : (old new : Built) (pick : Wire) (xs ys out more : List Wire) (w : Wire) (k : ℕ) (d e : Wire) → k < length xs → length ys ≡ length xs → Adds old new
    → Always old (λ v. wire_values v out ≡ take k (picked v pick xs ys))
    → Means new w (λ v. if v pick.number == 1 then v (get_or xs k d).number else v (get_or ys k e).number)
    → more ≡ out ++ w ∷ []
    → Always new (λ v. wire_values v more ≡ take (k + 1) (picked v pick xs ys))
one_more old new pick xs ys out more w k d e l m g a n q = record {
  at = λ v s.
      let all = picked v pick xs ys in
      let b : k < length all = rw (picked_long v xs ys (high v pick) m) l in
      ap (wire_values v) q
      ∙ map-append (λ (w : Wire). v w.number) out (w ∷ [])
      ∙ ap (λ (zs : List ℕ). zs ++ v w.number ∷ []) (a.at v (g.later.back v s))
      ∙ ap (λ (x : ℕ). take k all ++ x ∷ []) (n.at v s ∙ picked_at v xs ys k d e (high v pick) l m)
      ∙ sym (take_more all k 0 b);
}

pub all_picked : (b : Built) (pick : Wire) (xs ys out : List Wire) (k : ℕ) → length xs ≤ k → length ys ≡ length xs
    → Always b (λ v. wire_values v out ≡ take k (picked v pick xs ys))
    → MeansAll b out (λ v. picked v pick xs ys)
all_picked b pick xs ys out k l m a = record {
  at = λ v s.
      let all = picked v pick xs ys in
      let n : length all ≤ k = rw (picked_long v xs ys (high v pick) m) l in
      a.at v s ∙ take_all k all n;
}
