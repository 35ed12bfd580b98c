-- How the search for the cells that a cell depends on goes on.
use Rattle.std.proofs.Common.{◌≡◌, ℕ, ◌+◌, ◌-◌, ◌<◌, ◌⊎◌, inl, inr, Bool, true, false, List, [], ◌∷◌, ◌++◌, length, get_or, set, refl, sym, ap, ◌∙◌, subst, arith}
use Rattle.std.specs.Prelude.{Contains, All}
use Rattle.std.proofs.lemmas.Bool.{cases_eq}
use Rattle.std.proofs.lemmas.List.{get_or-set_other, get_or-set_same, length-set, get_or_append_left, length_push}
use Rattle.std.proofs.lemmas.List.Sums.{sum_by-set}
use Rattle.std.proofs.lemmas.List.Elements.{Contains-push_cases, Contains-push, Contains-append_left, All-push}
use Rattle.net_cells.specs.declared.netlist.Netlist.{Netlist}
use Rattle.net_cells.specs.Rules.{sources}
use Rattle.net_cells.specs.Loops.{DependsOn, Reads}
use Rattle.sim_engine.specs.declared.loops.Reach.{Reach}
use Rattle.net_cells.specs.Rules.{IsWellFormed}
use Rattle.net_cells.specs.declared.netlist.Cell.{Cell}
use Rattle.net_cells.proofs.Paths.{path_more}
use Rattle.std.proofs.lemmas.Option.{get_or_from_slice_get}
use Rattle.std.proofs.lemmas.List.{get_or_default}
use Rattle.sim_engine.specs.Orders.{IsKnown, IsReady, cell_at}
use Rattle.sim_engine.specs.Steps.{three}
use Rattle.sim_engine.proofs.Walking.{among_three, reads_waiting, waiting_exists, a_at}
use Rattle.sim_engine.proofs.Acyclic.{known_depends}
use Rattle.sim_engine.specs.Reached.{IsReach, HasReached, Finds, Extends, MayFind, is_found, unseen}

pub finding : (n : Netlist) (start : ℕ) (seen : List Bool) (found : List ℕ) (place : ℕ) → IsReach n start seen found → place < length n.cells → DependsOn n (sources n + start) (sources n + place) → is_found seen place ≡ false → IsReach n start (set seen place true) (found ++ place ∷ [])
finding n start seen found place s b d f = record {
  long = length-set seen place true ∙ s.long;
  listed = λ q e. elim (cases_eq q place) [
    | inl g ↦ subst (λ x. Contains (found ++ place ∷ []) x) (sym g) (Contains-push found place)
    | inr h ↦ Contains-append_left found (place ∷ []) q (s.listed q (sym (get_or-set_other seen place q true false h) ∙ e))
  ];
  marked = λ q k. elim (cases_eq q place) [
    | inl g ↦ ap (λ x. get_or (set seen place true) x false) g ∙ get_or-set_same seen place true false (omega (arith, s.long))
    | inr h ↦ get_or-set_other seen place q true false h ∙ (elim (Contains-push_cases found place q k) [
      | inl c ↦ s.marked q c
      | inr e ↦ absurd (h (sym e))
    ])
  ];
  exist = All-push (λ q. q < length n.cells) found place s.exist b;
  depends = All-push (λ q. DependsOn n (sources n + start) (sources n + q)) found place s.depends d;
  rest =
      let m = sum_by-set unseen seen place true false (omega (arith, s.long)) in
      let w : unseen (get_or seen place false) ≡ 1 = ap unseen f in
      omega (arith, length_push found place, s.rest);
}

pub extends_push : (xs : List ℕ) (x : ℕ) → Extends xs (xs ++ x ∷ [])
extends_push xs x = record { long = omega (arith, length_push xs x); same = λ k d b. get_or_append_left xs (x ∷ []) d k b }

pub extends_same : (xs : List ℕ) → Extends xs xs
extends_same xs = record { long = omega arith; same = λ k d b. refl }

pub extends_more : (xs ys zs : List ℕ) → Extends xs ys → Extends ys zs → Extends xs zs
extends_more xs ys zs g h = record { long = omega (arith, g.long, h.long); same = λ k d b. h.same k d (omega (arith, g.long)) ∙ g.same k d b }

pub contains_extends : (xs ys : List ℕ) (x : ℕ) → Extends xs ys → Contains xs x → Contains ys x
contains_extends xs ys x h c = (c.0, omega (arith, h.long, c.1), h.same c.0 x c.1 ∙ c.2)

pub known_extends : (n : Netlist) (xs ys : List ℕ) (net : ℕ) → Extends xs ys → IsKnown n xs net → IsKnown n ys net
known_extends n xs ys net h k = λ b. contains_extends xs ys (net - sources n) h (k b)

pub ready_extends : (n : Netlist) (xs ys : List ℕ) (place : ℕ) → Extends xs ys → IsReady n xs place → IsReady n ys place
ready_extends n xs ys place h r = λ cell e net o. known_extends n xs ys net h (r cell e net o)

-- a cell is found for the first time
pub finds_new : (n : Netlist) (start : ℕ) (old new : Reach) (place : ℕ) → HasReached n start old → place < length n.cells → DependsOn n (sources n + start) (sources n + place) → is_found old.seen.items place ≡ false → new.seen.items ≡ set old.seen.items place true → new.found.items ≡ old.found.items ++ place ∷ [] → Finds n start old new place
finds_new n start old new place s b d f e g = record {
  reaches = subst (λ x. IsReach n start x new.found.items) (sym e) (subst (λ x. IsReach n start (set old.seen.items place true) x) (sym g) (finding n start old.seen.items old.found.items place s b d f));
  extends = subst (λ (x : List ℕ). Extends old.found.items x) (sym g) (extends_push old.found.items place);
  found = subst (λ (x : List ℕ). Contains x place) (sym g) (Contains-push old.found.items place);
}

-- a cell that was found before
pub finds_old : (n : Netlist) (start : ℕ) (old : Reach) (place : ℕ) → HasReached n start old → is_found old.seen.items place ≡ true → Finds n start old old place
finds_old n start old place s e = record { reaches = s; extends = extends_same old.found.items; found = s.listed place e }

-- the cells that a cell reads may be found, where that one was
pub may_all : (n : Netlist) → IsWellFormed n → (start place : ℕ) (nets : List ℕ) → nets ≡ three (cell_at n place).op → place < length n.cells → (place ≡ start) ⊎ DependsOn n (sources n + start) (sources n + place) → All (MayFind n start) nets
may_all n w start place nets e b o k d l = λ h.
    let net = get_or nets k d in
    let c : Contains (three (cell_at n place).op) net = subst (λ (xs : List ℕ). Contains xs net) e (k, l, get_or_default nets k net d l) in
    let r = reads_waiting n w place net b h c in
    let f : sources n + (net - sources n) ≡ net = omega arith in
    let s = subst (λ x. Reads n (sources n + place) x) f r in (
      waiting_exists n w place net r,
      elim o [
        | inl g ↦ ([], subst (λ x. Reads n (sources n + x) net) g s)
        | inr p ↦ (p.0 ++ (sources n + place) ∷ [], path_more n (sources n + start) p.0 (sources n + place) net p.1 s)
      ],
    )

-- all that it reads is known
pub ready_known : (n : Netlist) (found : List ℕ) (place : ℕ) (nets : List ℕ) → nets ≡ three (cell_at n place).op → All (IsKnown n found) nets → IsReady n found place
ready_known n found place nets e a = λ cell f net o.
    let g : cell_at n place ≡ cell = get_or_from_slice_get n.cells place cell _ f in
    let k = subst (λ (c : Cell). Contains (three c.op) net) (sym g) (among_three cell.op net o) in
    a_at (IsKnown n found) nets net a (subst (λ (xs : List ℕ). Contains xs net) (sym e) k)

pub on_found : (n : Netlist) (start : ℕ) (r : Reach) (place k : ℕ) → HasReached n start r → k < length r.found.items → place ≡ get_or r.found.items k place → (place ≡ start) ⊎ DependsOn n (sources n + start) (sources n + place)
on_found n start r place k s b e = inr (a_at (λ p. DependsOn n (sources n + start) (sources n + p)) r.found.items place s.depends (k, b, sym e))

-- at the end the cell at the start is found exactly where it depends on itself
pub found_depends : (n : Netlist) (start : ℕ) (r : Reach) → HasReached n start r → is_found r.seen.items start ≡ true → DependsOn n (sources n + start) (sources n + start)
found_depends n start r s e = a_at (λ p. DependsOn n (sources n + start) (sources n + p)) r.found.items start s.depends (s.listed start e)

pub depends_found : (n : Netlist) (start : ℕ) (r : Reach) → HasReached n start r → IsReady n r.found.items start → ((k d : ℕ) → k < length r.found.items → IsReady n r.found.items (get_or r.found.items k d)) → DependsOn n (sources n + start) (sources n + start) → is_found r.seen.items start ≡ true
depends_found n start r s i a d =
    let k = known_depends n r.found.items (λ p c. subst (λ x. IsReady n r.found.items x) c.2 (a c.0 p c.1)) start (sources n + start) i d (omega arith) in
    let e : sources n + start - sources n ≡ start = omega arith in
    s.marked start (subst (λ x. Contains r.found.items x) e k)

-- one net more is known
pub known_next : (n : Netlist) (old new nets : List ℕ) (i : ℕ) → Extends old new → i < length nets → IsKnown n new (get_or nets i 0) → ((k d : ℕ) → k < i → IsKnown n old (get_or nets k d)) → (k d : ℕ) → k < i + 1
    → IsKnown n new (get_or nets k d)
known_next n old new nets i x b h a k d l = elim (cases_eq k i) [
  | inl e ↦ let f : get_or nets i 0 ≡ get_or nets k d = get_or_default nets i 0 d b ∙ ap (λ j. get_or nets j d) (sym e) in subst (IsKnown n new) f h
  | inr e ↦ let m : k < i = omega arith in known_extends n old new (get_or nets k d) x (a k d m)
]
