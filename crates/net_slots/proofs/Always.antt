-- Wires that always have the values of a list, one further.
use Rattle.std.proofs.Common.{◌≡◌, ℕ, ◌+◌, ◌<◌, ◌≤◌, List, [], ◌∷◌, ◌++◌, length, get_or, take, refl, sym, ap, ◌∙◌, subst, arith}
use Rattle.std.proofs.lemmas.List.{take_more, take_all, map-append}
use Rattle.net_build.specs.declared.types.Wire.{Wire}
use Rattle.net_build.specs.Bits.{MeansAll, wire_values}
use Rattle.net_build.specs.Built.{Built}
use Rattle.net_build.specs.Values.{Adds, Means}

pub no_constants : (b : Built) (xs : List ℕ) → MeansAll b [] (λ v. take 0 xs)
no_constants b xs = record { at = λ v s. refl }

pub one_constant : (old new : Built) (xs : List ℕ) (out more : List Wire) (w : Wire) (k d : ℕ) → k < length xs → Adds old new
    → MeansAll old out (λ v. take k xs) → Means new w (λ v. get_or xs k d) → more ≡ out ++ w ∷ [] → MeansAll new more (λ v. take (k + 1) xs)
one_constant old new xs out more w k d b g h m q = subst (λ (ws : List Wire). MeansAll new ws (λ v. take (k + 1) xs)) (sym q) (record {
  at = λ v s.
      map-append (λ (x : Wire). v x.number) out (w ∷ [])
      ∙ ap (λ (ys : List ℕ). ys ++ v w.number ∷ []) (h.at v (g.later.back v s))
      ∙ ap (λ (x : ℕ). take k xs ++ x ∷ []) (m.at v s)
      ∙ sym (take_more xs k d b);
})

pub all_constants : (b : Built) (xs : List ℕ) (out : List Wire) (k : ℕ) → length xs ≤ k → MeansAll b out (λ v. take k xs) → MeansAll b out (λ v. xs)
all_constants b xs out k h m = record { at = λ v s. m.at v s ∙ take_all k xs h }
