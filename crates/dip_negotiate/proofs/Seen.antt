-- What is known of an edge is what is kept at the first edge of its place.
use Rattle.std.proofs.Common.{◌≡◌, ℕ, ◌≤◌, ◌<◌, false, List, [], ◌∷◌, ◌++◌, length, get_or, Option, None, refl, sym, ap, ◌∙◌, arith}
use Rattle.std.specs.Prelude.{slice_set, ◌==◌}
use Rattle.std.specs.List.{list_any}
use Rattle.std.proofs.lemmas.Bool.{eqb-false}
use Rattle.std.proofs.lemmas.List.{append-nil, get_or-map, get_or_past, get_or-set_other, length-map}
use Rattle.dip_lists.proofs.Tests.{neither}
use Rattle.dip_negotiate.specs.Passes.{beside}
use Rattle.dip_negotiate.specs.Demands.{seen}

pub seen_at : {P : Type 0} (firsts : List ℕ) (ports : List (Option P)) (edge x : ℕ) → edge < length firsts → x ≡ get_or firsts edge x
    → get_or (seen firsts ports) edge None ≡ get_or ports x None
seen_at firsts ports edge x l e = get_or-map (λ first. get_or ports first None) firsts edge x None l ∙ ap (λ y. get_or ports y None) (sym e)

pub seen_past : {P : Type 0} (firsts : List ℕ) (ports : List (Option P)) (edge : ℕ) → length firsts ≤ edge → get_or (seen firsts ports) edge None ≡ None
seen_past firsts ports edge l = get_or_past (seen firsts ports) edge None (let q = length-map firsts (λ first. get_or ports first None) in omega (arith, q))

pub beside_none : {P : Type 0} (some : List P) (o : Option P) → o ≡ None → some ++ beside o [] ≡ some
beside_none some o e = ap (λ x. some ++ beside x []) e ∙ append-nil some

-- what is taken at a place that no later edge has changes nothing for these
pub seen_apart : {P : Type 0} (firsts : List ℕ) (ports : List (Option P)) (place : ℕ) (o : Option P) → list_any (λ other. other == place) firsts ≡ false
    → seen firsts (slice_set ports place o) ≡ seen firsts ports
seen_apart [] ports place o h = refl
seen_apart (f ∷ firsts) ports place o h =
    let both = neither (f == place) (list_any (λ other. other == place) firsts) h in
    ap (λ x. x ∷ seen firsts (slice_set ports place o)) (get_or-set_other ports place f o None (eqb-false f place both.0)) ∙ ap (λ xs. get_or ports f None ∷ xs) (seen_apart firsts ports place o both.1)
