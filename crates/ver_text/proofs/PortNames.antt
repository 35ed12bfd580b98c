-- Ports found by their names.
use Rattle.std.proofs.Common.{ℕ, ◌≡◌, ◌+◌, inl, inr, List, [], ◌∷◌, ◌++◌, length, Bool, true, false, cond, not, ◌&&◌, Option, None, Some, Result, Ok, Err, refl, sym, ap, ◌∙◌, arith}
use Rattle.std.specs.Prelude.{is_some, OnOk}
use Rattle.std.specs.Result.{is_err}
use Rattle.std.specs.Map.{update}
use Rattle.std.specs.Str.{bytes_eq}
use Rattle.std.proofs.lemmas.Bool.{cases_Bool, cond-false}
use Rattle.std.proofs.lemmas.Slice.Eq.{bytes_eq-Decides}
use Rattle.dip_lists.proofs.Tests.{both}
use mathlib.Core.Path.{fun_ext}
use Rattle.net_cells.specs.declared.netlist.Port.{Port}
use Rattle.net_cells.specs.NameTables.{number_in, with_number}
use Rattle.ver_text.specs.Due.{port_place, is_new}
use Rattle.ver_text.specs.NamedPorts.{port_place_from}

-- ---- a name is new where it has no place

new_step : (same : Bool) (at : ℕ) (behind : Option ℕ) (new : Bool) → not (is_some behind) ≡ new → not (is_some (cond same (Some at) behind)) ≡ (not same && new)
new_step true at behind new h = refl
new_step false at behind new h = h

new_from : (at : ℕ) (ports : List Port) (name : List ℕ) → not (is_some (port_place_from at name ports)) ≡ is_new ports name
new_from at [] name = refl
new_from at (port ∷ ports) name = new_step (bytes_eq port.name name) at (port_place_from (at + 1) name ports) (is_new ports name) (new_from (at + 1) ports name)

turned : (some none : Bool) → some ≡ not none → none ≡ not some
turned true true e = (cc)
turned true false e = refl
turned false true e = refl
turned false false e = (cc)

pub new_told : (ports : List Port) (name : List ℕ) (place : Option ℕ) (none : Bool) → place ≡ port_place ports name → is_some place ≡ not none → none ≡ is_new ports name
new_told ports name place none e s = turned (is_some place) none s ∙ ap (λ o. not (is_some o)) e ∙ new_from 0 ports name

-- ---- one more port

apart : (same other : Bool) (at more : ℕ) (behind : Option ℕ) → (same ≡ true → other ≡ false) → cond same (Some at) (cond other (Some more) behind) ≡ cond other (Some more) (cond same (Some at) behind)
apart true other at more behind h = sym (cond-false other (Some more) (Some at) (h refl))
apart false other at more behind h = refl

false_of : (b : Bool) → not b ≡ true → b ≡ false
false_of true h = (cc)
false_of false h = refl

place_more : (at : ℕ) (ports : List Port) (port : Port) (name : List ℕ) → is_new ports port.name ≡ true
    → port_place_from at name (ports ++ port ∷ []) ≡ update bytes_eq (λ n. port_place_from at n ports) port.name (Some (at + length ports)) name
place_more at [] port name new = let e : at ≡ at + 0 = omega arith in ap (λ k. cond (bytes_eq port.name name) (Some k) None) e
place_more at (p ∷ ps) port name new =
    let b = both (not (bytes_eq p.name port.name)) (is_new ps port.name) new in
    let e : at + 1 + length ps ≡ at + length (p ∷ ps) = omega arith in
    let differ : bytes_eq p.name name ≡ true → bytes_eq port.name name ≡ false =
    λ h. elim (cases_Bool (bytes_eq port.name name)) [
      | inl is ↦
          let same : p.name ≡ port.name = (bytes_eq-Decides p.name name).0 h ∙ sym ((bytes_eq-Decides port.name name).0 is) in
          let t : bytes_eq p.name port.name ≡ true = (bytes_eq-Decides p.name port.name).1 same in
          let f : bytes_eq p.name port.name ≡ false = false_of (bytes_eq p.name port.name) b.0 in
          (cc)
      | inr isnt ↦ isnt
    ]
    in ap (cond (bytes_eq p.name name) (Some at)) (place_more (at + 1) ps port name b.1)
    ∙ apart (bytes_eq p.name name) (bytes_eq port.name name) at (at + 1 + length ps) (port_place_from (at + 1) name ps) differ
    ∙ ap (λ k. cond (bytes_eq port.name name) (Some k) (port_place_from at name (p ∷ ps))) e

one_more : (ports : List Port) (port : Port) → is_new ports port.name ≡ true → with_number (port_place ports) port.name (length ports) ≡ port_place (ports ++ port ∷ [])
one_more ports port new =
    let e : 0 + length ports ≡ length ports = omega arith in
    ap (with_number (port_place ports) port.name) (sym e)
    ∙ fun_ext {f = with_number (port_place ports) port.name (0 + length ports)} {g = port_place (ports ++ port ∷ [])} (λ other. sym (place_more 0 ports port other new))

pub places_more : (ports more : List Port) (old new : List (List ℕ × ℕ)) (port : Port) (name : List ℕ) (place : ℕ) → number_in old ≡ port_place ports → is_new ports port.name ≡ true → name ≡ port.name
    → place ≡ length ports → more ≡ ports ++ port ∷ [] → number_in new ≡ with_number (number_in old) name place → number_in new ≡ port_place more
places_more ports more old new port name place e is n p m h =
    h ∙ ap (λ t. with_number t name place) e ∙ ap (λ x. with_number (port_place ports) x place) n ∙ ap (with_number (port_place ports) port.name) p
    ∙ one_more ports port is ∙ ap port_place (sym m)

-- ---- the same, where the ports are told by an equation

pub place_told : (place : Option ℕ) (places : List (List ℕ × ℕ)) (ports now : List Port) (name : List ℕ) → place ≡ number_in places name → number_in places ≡ port_place ports → ports ≡ now
    → place ≡ port_place now name
place_told place places ports now name e i v = e ∙ ap (λ t. t name) i ∙ ap (λ ps. port_place ps name) v

pub where_ok : {E : Type 0} (P : Type 0) (result : Result (Unit {0}) E) → false ≡ is_err result → OnOk result P → P
where_ok P (Ok done) e h = h
where_ok P (Err fault) e h = absurd (cc)
