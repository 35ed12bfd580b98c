-- What follows where no check fails.
use Rattle.std.proofs.Common.{◌≡◌, ℕ, zero, suc, ◌+◌, ◌<◌, Bool, true, false, not, cond, ◌&&◌, ◌||◌, ◌==◌, List, [], ◌∷◌, length, Option, Some, None, Result, Ok, Err, refl, sym, ap, ◌∙◌, subst, arith}
use Rattle.std.specs.Prelude.{slice_get, All, is_none}
use Rattle.std.specs.Option.{option_map, option_map_or, option_or}
use Rattle.std.proofs.lemmas.Bool.{eqb-true}
use Rattle.std.proofs.lemmas.List.Elements.{All-nil, All-cons}
use Rattle.dip_lists.specs.First.{Failure, first, failure_of, first_failing, places}
use Rattle.tl_params.specs.declared.ops.Template.{Template}
use Rattle.tl_params.specs.declared.ports.DownPort.{DownPort}
use Rattle.tl_params.specs.Operations.{is_nexus}
use Rattle.tl_params.specs.Carried.{all_zip}
use Rattle.dip_graph.specs.Kinds.{kind_at}
use Rattle.dip_graph.specs.Orders.{left_out}
use Rattle.dip_graph.specs.declared.design.NodeKind.{NodeKind}
use Rattle.dip_graph.specs.declared.design.NodeKind.TheVariants.{Source, Sink, Ruled}
use Rattle.dip_graph.specs.declared.design.NodeEntry.{NodeEntry}
use Rattle.dip_graph.specs.declared.design.Design.{Design}
use Rattle.dip_graph.specs.declared.edges.Edge.{Edge}
use Rattle.dip_rule.specs.Stated.{StatedRule, template_of}
use Rattle.dip_negotiate.specs.declared.solution.Solution.{Solution}
use Rattle.dip_negotiate.specs.Passes.{Refusal, OnlySolves}
use Rattle.dip_graph.specs.Edges.{HasNodes}
use Rattle.dip_negotiate.specs.Negotiation.{IsNegotiable, down_pass, up_pass, downs, ups}
use Rattle.dip_rule.specs.Stated.{is_nexus_kind}
use Rattle.dip_graph.specs.Kinds.{ruled_kind_at}
use Rattle.dip_negotiate.proofs.Law.{negotiation}
use Rattle.dip_stars.specs.Edges.{design_counts, waiting, unfilled, excess}
use Rattle.dip_stars.proofs.Follow.{each_follows}
use Rattle.dip_stars.proofs.Few.{few_edges}
use Rattle.tl_rules.specs.Fits.{fits, are_edges, adapter_fits}
use Rattle.tl_rules.specs.Fits.{ports_at}
use Rattle.dip_graph.specs.Edges.{edges_to, edges_from}
use Rattle.dip_checks.specs.Checks.{kind_is_unruled, unruled_nodes, bind_is_turned, turned_binds, edges_in, refusing, masters_are_wrong, wrong_edges, overlapping_edges, edge_is_misaligned, misaligned_edges, beats_differ, nexus_differs, differing_nodes, template_misfits, kind_misfits, misfitting_nodes, ports_of, solution_of, design_checks}
use Rattle.dip_graph.specs.Kinds.{is_sink, is_source}
use Rattle.dip_graph.specs.Edges.{edges_at}
use Rattle.dip_checks.proofs.Disjointness.{edges_apart}
use Rattle.dip_plan.proofs.PlanLaws.{KindJoins}
use Rattle.dip_plan.proofs.Judged.{IsJudged}
use Rattle.dip_plan.proofs.Members.{none_pass}
use Rattle.dip_plan.proofs.Ranks.{follows}
use Rattle.dip_stars.proofs.Sums.{each_has_its_edges, each_has_its_ports}

-- ---- check by check

passes : (number : ℕ) (failing : List ℕ) (rest : Option Failure) → option_or (option_map (failure_of number) (first failing)) rest ≡ None → (failing ≡ []) × (rest ≡ None)
passes number [] rest e = (refl, e)
passes number (subject ∷ subjects) rest e = (cc)

-- no check has a subject at which it fails
record NoneFail (rules : List StatedRule) (design : Design) (edges : List Edge) (solution : Solution) : Type 0 where
  unruled : unruled_nodes rules design ≡ []
  turned : turned_binds design ≡ []
  acyclic : left_out design ≡ []
  waits : waiting (design_counts rules design) ≡ []
  filled : unfilled rules design.nodes (design_counts rules design) ≡ []
  few : excess (design_counts rules design) ≡ []
  down : refusing (λ edge. edge.from) (downs rules design edges) ≡ []
  up : refusing (λ edge. edge.to) (ups rules design edges) ≡ []
  masters : wrong_edges solution.down ≡ []
  apart : overlapping_edges solution.up ≡ []
  aligned : misaligned_edges solution.up ≡ []
  beats : differing_nodes rules design.nodes edges solution.up ≡ []
  fit : misfitting_nodes rules design.nodes edges solution.down solution.up ≡ []

none_fail : (rules : List StatedRule) (design : Design) → first_failing (design_checks rules design) ≡ None → NoneFail rules design (edges_in rules design) (solution_of rules design (edges_in rules design))
unfolding design_checks
none_fail rules design h =
    let c5 = passes 5 _ _ h in
    let c6 = passes 6 _ _ c5.1 in
    let c7 = passes 7 _ _ c6.1 in
    let c8 = passes 8 _ _ c7.1 in
    let c9 = passes 9 _ _ c8.1 in
    let c10 = passes 10 _ _ c9.1 in
    let c11 = passes 11 _ _ c10.1 in
    let c12 = passes 12 _ _ c11.1 in
    let c13 = passes 13 _ _ c12.1 in
    let c14 = passes 14 _ _ c13.1 in
    let c15 = passes 15 _ _ c14.1 in
    let c16 = passes 16 _ _ c15.1 in
    let c17 = passes 17 _ _ c16.1 in
    record {
      unruled = c5.0;
      turned = c6.0;
      acyclic = c7.0;
      waits = c8.0;
      filled = c9.0;
      few = c10.0;
      down = c11.0;
      up = c12.0;
      masters = c13.0;
      apart = c14.0;
      aligned = c15.0;
      beats = c16.0;
      fit = c17.0;
    }

agreed : {P : Type 0} (node : Edge → ℕ) (r : Result (List P) Refusal) → refusing node r ≡ [] → r ≡ Ok (ports_of r)
agreed node (Ok ports) h = refl
agreed node (Err refused) h = absurd cc

-- ---- node by node

here : {A : Type 0} (test : ℕ → A → Bool) (xs : List A) (k : ℕ) (x : A) → places test 0 xs ≡ [] → slice_get xs k ≡ Some x → test k x ≡ false
here test xs k x h is = let z : 0 + k ≡ k = omega arith in subst (λ n. test n x ≡ false) z (none_pass test 0 xs k x h is)

all_here : {A : Type 0} (test : A → Bool) (from : ℕ) (xs : List A) → places (λ number x. test x) from xs ≡ [] → All (λ x. test x ≡ false) xs
all_here test from [] h = All-nil (λ x. test x ≡ false)
all_here test from (x ∷ xs) h = at (test x) refl h (λ g. all_here test (from + 1) xs g)
  where
    at : (b : Bool) → test x ≡ b → cond b (from ∷ places (λ number y. test y) (from + 1) xs) (places (λ number y. test y) (from + 1) xs) ≡ []
        → (places (λ number y. test y) (from + 1) xs ≡ [] → All (λ y. test y ≡ false) xs) → All (λ y. test y ≡ false) (x ∷ xs)
    at true q h f = absurd cc
    at false q h f = All-cons (λ y. test y ≡ false) x xs q (f h)

-- a test that holds of no item has no places
nowhere : {A : Type 0} (test : ℕ → A → Bool) (from : ℕ) (xs : List A) → ((k : ℕ) (x : A) → slice_get xs k ≡ Some x → test (from + k) x ≡ false) → places test from xs ≡ []
nowhere test from [] h = refl
nowhere {A} test from (x ∷ xs) h =
    let z : from + 0 ≡ from = omega arith in
    let own : test from x ≡ false = subst (λ n. test n x ≡ false) z (h 0 x refl) in
    let rest = nowhere test (from + 1) xs (λ k y is. subst (λ n. test n y ≡ false) (moved k) (h (suc k) y is)) in
    rw own rest
  where
    moved : (k : ℕ) → from + suc k ≡ from + 1 + k
    moved k = omega arith

neither : (a b : Bool) → (a || b) ≡ false → (a ≡ false) × (b ≡ false)
neither true b h = absurd cc
neither false b h = (refl, h)

both : (a b : Bool) → (a && b) ≡ true → (a ≡ true) × (b ≡ true)
both true true h = (refl, refl)
both true false h = absurd cc
both false b h = absurd cc

not_not : (a : Bool) → not a ≡ false → a ≡ true
not_not true h = refl
not_not false h = absurd cc

not_true : (a : Bool) → (a ≡ true → ⊥) → a ≡ false
not_true true h = absurd (h refl)
not_true false h = refl

some_is : {A : Type 0} (o : Option A) → is_none o ≡ false → (x : A) × (o ≡ Some x)
some_is None h = absurd cc
some_is (Some x) h = (x, refl)

zip_length : {A B : Type 0} (test : A → B → Bool) (xs : List A) (ys : List B) → all_zip test xs ys ≡ true → length xs ≡ length ys
zip_length test [] [] h = refl
zip_length test [] (y ∷ ys) h = absurd cc
zip_length test (x ∷ xs) [] h = absurd cc
zip_length test (x ∷ xs) (y ∷ ys) h = let l = zip_length test xs ys (both (test x y) (all_zip test xs ys) h).1 in omega arith

of_none : (xs : List ℕ) → xs ≡ [] → first xs ≡ None
of_none xs e = ap first e

module _ (rules : List StatedRule) (design : Design) (edges : List Edge) (solution : Solution) (n : IsNegotiable design edges) (f : NoneFail rules design edges solution) where
  straight : (k : ℕ) (edge : Edge) → slice_get edges k ≡ Some edge → (option_map_or is_sink (kind_at design.nodes edge.from) false ≡ false) × (option_map_or is_source (kind_at design.nodes edge.to) false ≡ false)
  straight k edge is =
      let b = follows design edges n k edge is in
      let t = here (λ number b. bind_is_turned design.nodes b) design.binds edge.bind b.made_by f.turned b.is in
      let p = neither (option_map_or is_sink (kind_at design.nodes b.made_by.from) false) (option_map_or is_source (kind_at design.nodes b.made_by.to) false) t in
      (ap (λ m. option_map_or is_sink (kind_at design.nodes m) false) b.from ∙ p.0, ap (λ m. option_map_or is_source (kind_at design.nodes m) false) b.to ∙ p.1)

  ruled : (node : ℕ) (entry : NodeEntry) (name args : List ℕ) → slice_get design.nodes node ≡ Some entry → entry.kind ≡ Ruled name args → (template : Template) × (template_of rules name ≡ Some template)
  ruled node entry name args is k =
      let u = here (λ number node. kind_is_unruled rules node.kind) design.nodes node entry f.unruled is in
      some_is (template_of rules name) (subst (λ kind. kind_is_unruled rules kind ≡ false) k u)

  fits_at : (node : ℕ) (entry : NodeEntry) (name args : List ℕ) (template : Template) → slice_get design.nodes node ≡ Some entry → entry.kind ≡ Ruled name args
      → template_of rules name ≡ Some template → fits template args (edges_to node edges) (edges_from node edges) solution.down solution.up ≡ true
  fits_at node entry name args template is k t =
      let m = here (λ node entry. kind_misfits rules node entry.kind edges solution.down solution.up) design.nodes node entry f.fit is in
      let r = subst (λ kind. kind_misfits rules node kind edges solution.down solution.up ≡ false) k m in
      not_not _ (subst (λ o. template_misfits o args node edges solution.down solution.up ≡ false) t r)

  pairs : (node : ℕ) (args : List ℕ) (template : Template) → fits template args (edges_to node edges) (edges_from node edges) solution.down solution.up ≡ true → is_nexus template ≡ false
      → length (edges_to node edges) ≡ length (edges_from node edges)
  pairs node args template h nexus =
      let t = (both (are_edges solution.down solution.up (edges_to node edges) && are_edges solution.down solution.up (edges_from node edges)) _ h).1 in
      let z : all_zip (λ above below. adapter_fits template args (ports_at solution.down solution.up above) (ports_at solution.down solution.up below)) (edges_to node edges) (edges_from node edges) ≡ true = rw nexus at t in
      zip_length _ (edges_to node edges) (edges_from node edges) z

  joins_at : (node : ℕ) (entry : NodeEntry) → slice_get design.nodes node ≡ Some entry → KindJoins rules edges node entry.kind
  joins_at node entry is = at entry.kind refl
    where
      no_source : (kind : NodeKind) → entry.kind ≡ kind → is_source kind ≡ true → (k : ℕ) (edge : Edge) → slice_get edges k ≡ Some edge → (edge.to == node) ≡ false
      no_source kind e s k edge at = not_true (edge.to == node) (λ q.
          let same : edge.to ≡ node = eqb-true edge.to node q in
          let known : kind_at design.nodes node ≡ Some kind = ap (option_map (λ m. m.kind)) is ∙ ap Some e in
          let w : option_map_or is_source (kind_at design.nodes edge.to) false ≡ true = ap (λ m. option_map_or is_source (kind_at design.nodes m) false) same ∙ ap (λ o. option_map_or is_source o false) known ∙ s in
          let z : true ≡ false = sym w ∙ (straight k edge at).1 in absurd cc)

      no_sink : (kind : NodeKind) → entry.kind ≡ kind → is_sink kind ≡ true → (k : ℕ) (edge : Edge) → slice_get edges k ≡ Some edge → (edge.from == node) ≡ false
      no_sink kind e s k edge at = not_true (edge.from == node) (λ q.
          let same : edge.from ≡ node = eqb-true edge.from node q in
          let known : kind_at design.nodes node ≡ Some kind = ap (option_map (λ m. m.kind)) is ∙ ap Some e in
          let w : option_map_or is_sink (kind_at design.nodes edge.from) false ≡ true = ap (λ m. option_map_or is_sink (kind_at design.nodes m) false) same ∙ ap (λ o. option_map_or is_sink o false) known ∙ s in
          let z : true ≡ false = sym w ∙ (straight k edge at).0 in absurd cc)

      at : (kind : NodeKind) → entry.kind ≡ kind → KindJoins rules edges node kind
      at (Source ports ids emits) e = nowhere (λ number edge. edge.to == node) 0 edges (λ k edge at. no_source (Source ports ids emits) e refl k edge at)
      at (Sink beat ports supports) e = nowhere (λ number edge. edge.from == node) 0 edges (λ k edge at. no_sink (Sink beat ports supports) e refl k edge at)
      at (Ruled name args) e =
          let t = ruled node entry name args is e in
          (t.0, t.1, λ nexus. pairs node args t.0 (fits_at node entry name args t.0 is e t.1) nexus)

  same_beats : (node : ℕ) → node < length design.nodes → is_nexus_kind rules (ruled_kind_at design.nodes node) ≡ true → beats_differ solution.up (edges_at node edges) ≡ false
  same_beats node l nexus =
      let e = found design.nodes node l in
      let d = here (λ node entry. nexus_differs rules design.nodes edges solution.up node) design.nodes node e.0 f.beats e.1 in
      rw nexus at d
    where
      found : (nodes : List NodeEntry) (m : ℕ) → m < length nodes → (entry : NodeEntry) × (slice_get nodes m ≡ Some entry)
      found [] m l = absurd (omega arith)
      found (e ∷ nodes) zero l = (e, refl)
      found (e ∷ nodes) (suc m) l = found nodes m (omega arith)

pub judged : (rules : List StatedRule) (design : Design) → All (HasNodes design.nodes) design.binds → first_failing (design_checks rules design) ≡ None
    → IsJudged rules design (edges_in rules design) (solution_of rules design (edges_in rules design))
judged rules design w h =
    let f = none_fail rules design h in
    let edges : List Edge = edges_in rules design in
    let solution : Solution = solution_of rules design edges in
    let n : IsNegotiable design edges = record { acyclic = of_none (left_out design) f.acyclic; named = w; made = each_follows rules design } in
    let down : OnlySolves (down_pass rules design.nodes edges) edges solution.down = negotiation.down rules design edges n solution.down (agreed (λ edge. edge.from) (downs rules design edges) f.down) in
    let up : OnlySolves (up_pass rules design.nodes edges) edges solution.up = negotiation.up rules design edges n solution.up (agreed (λ edge. edge.to) (ups rules design edges) f.up) in
    record {
      negotiable = n;
      down = down.solves;
      up = up.solves;
      few = few_edges (design_counts rules design) (of_none (excess (design_counts rules design)) f.few);
      ports = each_has_its_ports rules design;
      joins = λ node entry is. joins_at rules design edges solution n f node entry is;
      has = each_has_its_edges rules design w (ap first f.filled);
      fit = λ node entry name args template is k t. fits_at rules design edges solution n f node entry name args template is k t;
      beats = λ node l nexus. same_beats rules design edges solution n f node l nexus;
      masters = all_here (λ (down : DownPort). masters_are_wrong down.masters) 0 solution.down f.masters;
      apart = edges_apart solution.up (of_none (overlapping_edges solution.up) f.apart);
      aligned = all_here edge_is_misaligned 0 solution.up f.aligned;
    }
