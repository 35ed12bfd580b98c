-- Edges that pass check 14 have no address in two sets.
use Rattle.std.proofs.Common.{ℕ, ◌≡◌, ◌+◌, ◌<◌, List, [], ◌∷◌, ◌++◌, length, get_or, Bool, true, false, cond, Option, Some, None, Result, Ok, Err, refl, sym, ap, ◌∙◌, drop, subst, arith}
use Rattle.std.specs.Prelude.{OnOk, slice_get}
use Rattle.std.specs.List.{All, AllPairs, Any, list_any}
use Rattle.std.specs.Option.{IsSomeAnd}
use Rattle.std.proofs.lemmas.List.Elements.{All-cons, All-contains, All-push, All-same}
use Rattle.std.proofs.lemmas.Option.{slice_get_read}
use Rattle.std.proofs.lemmas.List.{drop_more}
use Rattle.std.proofs.lemmas.List.Kept.{AllPairs-cons}
use Rattle.dip_sets.specs.Sets.{Pattern, Disjoint, overlap}
use Rattle.dip_sets.proofs.Members.{disjoint_from_test}
use Rattle.dip_lists.specs.First.{first, places}
use Rattle.dip_lists.proofs.Tests.{neither}
use Rattle.tl_params.specs.declared.ports.Slave.{Slave}
use Rattle.tl_params.specs.declared.ports.UpPort.{UpPort}
use Rattle.tl_params.specs.Owners.{sets_of}
use Rattle.dip_checks.specs.Checks.{has_overlap, edge_overlaps, overlapping_edges}
use Rattle.tl_params.specs.Apart.{HasDisjointSets}
use Rattle.dip_checks.specs.Rows.{StandAmong}
use Rattle.dip_checks.proofs.Rows.{apart_among, sets_among}

apart_from_none : (s : Pattern) (sets : List Pattern) → list_any (overlap s) sets ≡ false → All (Disjoint s) sets
apart_from_none s [] h = λ k d lt. absurd (omega arith)
apart_from_none s (t ∷ sets) h =
    let both = neither (overlap s t) (list_any (overlap s) sets) h in
    All-cons (Disjoint s) t sets (disjoint_from_test s t both.0) (apart_from_none s sets both.1)

all_apart : (sets : List Pattern) → has_overlap sets ≡ false → AllPairs Disjoint sets
all_apart [] h = λ i j d before within. absurd (omega arith)
all_apart (s ∷ sets) h =
    let both = neither (list_any (overlap s) sets) (has_overlap sets) h in
    AllPairs-cons Disjoint s sets (apart_from_none s sets both.0) (all_apart sets both.1)

pub passes_here : (fails : Bool) (number : ℕ) (rest : List ℕ) → first (cond fails (number ∷ rest) rest) ≡ None → (fails ≡ false) × (first rest ≡ None)
passes_here true number rest h = (cc)
passes_here false number rest h = (refl, h)

apart_from : (number : ℕ) (ups : List UpPort) → first (places (λ n up. edge_overlaps up) number ups) ≡ None → All HasDisjointSets ups
apart_from number [] h = λ k d lt. absurd (omega arith)
apart_from number (up ∷ ups) h =
    let both = passes_here (edge_overlaps up) number (places (λ n up. edge_overlaps up) (number + 1) ups) h in
    All-cons HasDisjointSets up ups (all_apart (sets_of up.slaves) both.0) (apart_from (number + 1) ups both.1)

-- no two sets of the edge with this number have a common address
abbrev pub IsApart : List UpPort → ℕ → Type 0
IsApart ups edge = IsSomeAnd (slice_get ups edge) (λ up. edge_overlaps up ≡ false)

abbrev pub HasSlaves : List UpPort → List Slave → ℕ → Type 0
HasSlaves ups slaves edge = IsSomeAnd (slice_get ups edge) (λ up. StandAmong slaves up.slaves)

apart_by : (slaves : List Slave) (o : Option UpPort) → IsSomeAnd o (λ up. edge_overlaps up ≡ false) → IsSomeAnd o (λ up. StandAmong slaves up.slaves) → has_overlap (sets_of slaves) ≡ false
apart_by slaves None apart same = absurd apart
apart_by slaves (Some up) apart same = apart_among (sets_of slaves) (sets_of up.slaves) (sets_among slaves up.slaves same) apart

-- what is found of an edge holds of another one whose slaves stand among its own
pub known_apart : (ups : List UpPort) (edges : List ℕ) (slaves : List Slave) → All (IsApart ups) edges → Any (HasSlaves ups slaves) edges → has_overlap (sets_of slaves) ≡ false
known_apart ups edges slaves apart same =
    apart_by slaves (slice_get ups same.1) (All-contains (IsApart ups) edges same.1 apart (same.0, same.2, same.3)) same.4

-- an edge that isn't looked at changes nothing
pub passed_over : (ups : List UpPort) (edge : ℕ) (up : UpPort) (slaves : List Slave) → edge < length ups → up ≡ get_or ups edge up → slaves ≡ up.slaves → has_overlap (sets_of slaves) ≡ false
    → first (places (λ number up. edge_overlaps up) edge (drop edge ups)) ≡ first (places (λ number up. edge_overlaps up) 0 ups)
    → first (places (λ number up. edge_overlaps up) (edge + 1) (drop (edge + 1) ups)) ≡ first (places (λ number up. edge_overlaps up) 0 ups)
passed_over ups edge up slaves l e s apart h =
    let here : edge_overlaps up ≡ false = ap (λ x. has_overlap (sets_of x)) (sym s) ∙ apart in
    let d : drop edge ups ≡ up ∷ drop (edge + 1) ups = drop_more ups edge up l ∙ ap (λ x. x ∷ drop (edge + 1) ups) (sym e) in
    ap (λ b. first (cond b (edge ∷ places (λ number up. edge_overlaps up) (edge + 1) (drop (edge + 1) ups)) (places (λ number up. edge_overlaps up) (edge + 1) (drop (edge + 1) ups)))) (sym here)
    ∙ ap (λ xs. first (places (λ number up. edge_overlaps up) edge xs)) (sym d) ∙ h

-- an edge that was found apart stands behind the others
pub apart_more : (ups : List UpPort) (edges more : List ℕ) (edge : ℕ) (up : UpPort) → more ≡ edges ++ edge ∷ [] → edge < length ups → up ≡ get_or ups edge up → edge_overlaps up ≡ false
    → All (IsApart ups) edges → All (IsApart ups) more
apart_more ups edges more edge up is within here apart all =
    let at_edge : IsApart ups edge = subst (λ (o : Option UpPort). IsSomeAnd o (λ u. edge_overlaps u ≡ false)) (sym (slice_get_read ups (length ups) edge up refl within here)) apart in
    All-same (IsApart ups) more (edges ++ edge ∷ []) is (All-push (IsApart ups) edges edge all at_edge)

pub edges_apart : (ups : List UpPort) → first (overlapping_edges ups) ≡ None → All HasDisjointSets ups
edges_apart ups h = apart_from 0 ups h

-- what holds at all holds on success
pub on_ok : {T E : Type 0} (Q : Type 0) (r : Result T E) → Q → OnOk r Q
on_ok Q (Ok x) h = h
on_ok Q (Err e) h = tt
