-- The least net that depends on itself, among the cells in their order.
use Rattle.std.proofs.Common.{◌≡◌, ℕ, ◌+◌, ◌-◌, ◌<◌, ◌≤◌, ◌↔◌, inl, inr, Bool, true, false, List, length, get_or, refl, sym, ap, ◌∙◌, subst, arith}
use Rattle.std.specs.Prelude.{IsTrue}
use Rattle.std.proofs.lemmas.Bool.{cases_lt, cases_eq, false≢true}
use Rattle.std.proofs.lemmas.List.{get_or_default}
use Rattle.net_cells.specs.declared.netlist.Netlist.{Netlist}
use Rattle.net_cells.specs.Rules.{sources}
use Rattle.net_cells.specs.Loops.{DependsOn, HasNoLoop}
use Rattle.sim_engine.specs.declared.loops.Reach.{Reach}
use Rattle.sim_engine.specs.Orders.{IsReady}
use Rattle.sim_engine.specs.Reached.{Extends, HasReached, is_found}
use Rattle.sim_engine.specs.Running.{IsLeastLoop}
use Rattle.sim_engine.proofs.Acyclic.{depends_cell}
use Rattle.sim_engine.proofs.Reaching.{ready_extends, found_depends, depends_found}

at_place : (n : Netlist) (net : ℕ) → sources n ≤ net → DependsOn n net net → DependsOn n (sources n + (net - sources n)) (sources n + (net - sources n))
at_place n net h d = let e : net ≡ sources n + (net - sources n) = omega arith in subst (λ x. DependsOn n x x) e d

pub least_here : (n : Netlist) (place first : ℕ) → first ≡ sources n → ((k : ℕ) → k < place → DependsOn n (sources n + k) (sources n + k) → ⊥) → DependsOn n (sources n + place) (sources n + place) → IsLeastLoop n (first + place)
least_here n place first e a d = subst (λ x. IsLeastLoop n (x + place)) (sym e) (record {
  depends = d;
  least = λ other o. elim (cases_lt other (sources n + place)) [
    | inl l ↦ let h : sources n ≤ other = (depends_cell n other other o).0 in absurd (a (other - sources n) (omega arith) (at_place n other h o))
    | inr h ↦ h
  ];
})

pub none_at_all : (n : Netlist) → ((k : ℕ) → k < length n.cells → DependsOn n (sources n + k) (sources n + k) → ⊥) → HasNoLoop n
none_at_all n a net d = let h = depends_cell n net net d in a (net - sources n) h.1 (at_place n net h.0 d)

-- one cell more is expanded
pub ready_more : (n : Netlist) (old new : List ℕ) (place next : ℕ) → Extends old new → place ≡ get_or old next place → next < length old → IsReady n new place → ((k d : ℕ) → k < next → IsReady n old (get_or old k d)) → (k d : ℕ) → k < next + 1 → IsReady n new (get_or new k d)
ready_more n old new place next x e b r a k d l = elim (cases_eq k next) [
  | inl f ↦
      let g : get_or new k d ≡ place = ap (λ i. get_or new i d) f ∙ x.same next d b ∙ get_or_default old next d place b ∙ sym e in
      subst (λ p. IsReady n new p) (sym g) r
  | inr f ↦
      let m : k < length old = omega arith in
      let i : k < next = omega arith in
      subst (λ p. IsReady n new p) (sym (x.same k d m)) (ready_extends n old new (get_or old k d) x (a k d i))
]

decided : (n : Netlist) (start : ℕ) (r : Reach) → HasReached n start r → IsReady n r.found.items start → ((k d : ℕ) → k < length r.found.items → IsReady n r.found.items (get_or r.found.items k d)) → (b : Bool) → b ≡ is_found r.seen.items start → IsTrue b ↔ DependsOn n (sources n + start) (sources n + start)
decided n start r s i a true e = (λ _. found_depends n start r s (sym e), λ _. refl)
decided n start r s i a false e = (λ t. absurd (false≢true t), λ d. absurd (false≢true (e ∙ depends_found n start r s i a d)))

pub found_at_end : (n : Netlist) (start : ℕ) (r : Reach) (b : Bool) → HasReached n start r → start < length n.cells → IsReady n r.found.items start → ((k d : ℕ) → k < length r.found.items → IsReady n r.found.items (get_or r.found.items k d)) → b ≡ get_or r.seen.items start b → IsTrue b ↔ DependsOn n (sources n + start) (sources n + start)
found_at_end n start r b s l i a e = decided n start r s i a b (e ∙ get_or_default r.seen.items start b false (omega (arith, s.long)))
