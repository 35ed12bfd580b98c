-- Each edge of a design stands once among what the parts of its plan give, and once among what they take.
use Rattle.std.proofs.Common.{◌≡◌, ℕ, zero, suc, ◌+◌, ◌<◌, ◌≤◌, Bool, true, false, cond, ◌==◌, List, [], ◌∷◌, ◌++◌, length, Some, refl, sym, ap, ◌∙◌, subst, arith, inl, inr}
use Rattle.std.specs.Prelude.{slice_get}
use Rattle.std.specs.List.{flat_map}
use Rattle.std.proofs.lemmas.Bool.{eqb-true, eq-eqb, cases_eq}
use Rattle.std.proofs.lemmas.List.{append-nil}
use Rattle.std.proofs.lemmas.Grind.{flat_map-append}
use Rattle.dip_lists.specs.First.{places}
use Rattle.tl_params.specs.declared.ops.Template.{Template}
use Rattle.tl_params.specs.Operations.{is_nexus}
use Rattle.tl_edge.specs.declared.plan.Leaf.{Leaf}
use Rattle.tl_edge.specs.declared.plan.PlanPort.{PlanPort}
use Rattle.tl_edge.specs.Plans.{times, port_edges, given_edges, taken_edges}
use Rattle.dip_graph.specs.declared.design.NodeKind.{NodeKind}
use Rattle.dip_graph.specs.declared.design.NodeKind.TheVariants.{Source, Sink, Ruled}
use Rattle.dip_graph.specs.declared.design.NodeEntry.{NodeEntry}
use Rattle.dip_graph.specs.declared.design.Design.{Design}
use Rattle.dip_graph.specs.declared.edges.Edge.{Edge}
use Rattle.dip_rule.specs.Stated.{StatedRule}
use Rattle.dip_negotiate.specs.Negotiation.{IsNegotiable}
use Rattle.dip_negotiate.specs.declared.solution.Solution.{Solution}
use Rattle.dip_graph.specs.Edges.{edges_to, edges_from}
use Rattle.dip_plan.specs.DesignPlans.{leaf_of, leaves_between, built_leaves, kind_leaves, leaves_from, ports_on, source_ports, sink_ports, ports_from, plan_of}
use Rattle.dip_plan.proofs.PlanLaws.{KindJoins, EachJoins, OnceLaw}
use Rattle.dip_plan.proofs.Ranks.{nodes_exist}

-- ---- how often a number stands in a list

times_joined : (n : ℕ) (xs ys : List ℕ) → times n (xs ++ ys) ≡ times n xs + times n ys
times_joined n [] ys = omega arith
times_joined n (x ∷ xs) ys = let t = times_joined n xs ys in omega arith

-- a number below those of a list of places
times_below : {A : Type 0} (test : ℕ → A → Bool) (from : ℕ) (xs : List A) (n : ℕ) → n < from → times n (places test from xs) ≡ 0
times_below test from [] n l = refl
times_below test from (x ∷ xs) n l = at (test from x) (times_below test (from + 1) xs n (omega arith))
  where
    other : (b : Bool) → (n == from) ≡ b → times n (places test (from + 1) xs) ≡ 0 → cond b 1 0 + times n (places test (from + 1) xs) ≡ 0
    other true q h = let e : n ≡ from = eqb-true n from q in absurd (omega arith)
    other false q h = omega (arith, h)

    at : (b : Bool) → times n (places test (from + 1) xs) ≡ 0 → times n (cond b (from ∷ places test (from + 1) xs) (places test (from + 1) xs)) ≡ 0
    at true h = other (n == from) refl h
    at false h = h

times_at : {A : Type 0} (test : ℕ → A → Bool) (from : ℕ) (xs : List A) (k : ℕ) (x : A) → slice_get xs k ≡ Some x → times (from + k) (places test from xs) ≡ cond (test (from + k) x) 1 0
times_at test from [] k x e = absurd cc
times_at {A} test from (y ∷ ys) zero x e =
    let s : y ≡ x = cc in
    let z : from + 0 ≡ from = omega arith in
    subst (λ n. times n (places test from (y ∷ ys)) ≡ cond (test n x) 1 0) (sym z)
    (subst (λ (i : A). times from (places test from (y ∷ ys)) ≡ cond (test from i) 1 0) s (at (test from y)))
  where
    at : (b : Bool) → times from (cond b (from ∷ places test (from + 1) ys) (places test (from + 1) ys)) ≡ cond b 1 0
    at true = let t = times_below test (from + 1) ys from (omega arith) in let q : (from == from) ≡ true = eq-eqb from from refl in rw q (omega arith)
    at false = times_below test (from + 1) ys from (omega arith)
times_at {A} test from (y ∷ ys) (suc k) x e =
    let z : from + suc k ≡ from + 1 + k = omega arith in
    subst (λ n. times n (places test from (y ∷ ys)) ≡ cond (test n x) 1 0) (sym z) (at (test from y) (times_at test (from + 1) ys k x e))
  where
    other : (b : Bool) (c : ℕ) → (from + 1 + k == from) ≡ b → times (from + 1 + k) (places test (from + 1) ys) ≡ c → cond b 1 0 + times (from + 1 + k) (places test (from + 1) ys) ≡ c
    other true c q h = let e : from + 1 + k ≡ from = eqb-true (from + 1 + k) from q in absurd (omega arith)
    other false c q h = omega (arith, h)

    at : (b : Bool) → times (from + 1 + k) (places test (from + 1) ys) ≡ cond (test (from + 1 + k) x) 1 0
        → times (from + 1 + k) (cond b (from ∷ places test (from + 1) ys) (places test (from + 1) ys)) ≡ cond (test (from + 1 + k) x) 1 0
    at true h = other (from + 1 + k == from) _ refl h
    at false h = h

-- ---- one node

edges_on : (name : List ℕ) (node port : ℕ) (edges : List ℕ) → port_edges (ports_on name node port edges) ≡ edges
edges_on name node port [] = refl
edges_on name node port (e ∷ edges) = ap (λ es. e ∷ es) (edges_on name node (port + 1) edges)

outs_between : (template : Template) (args ins outs : List ℕ) → length ins ≡ length outs → flat_map (λ (leaf : Leaf). leaf.outs) (leaves_between template args ins outs) ≡ outs
outs_between template args [] [] h = refl
outs_between template args [] (b ∷ outs) h = absurd (omega (arith, h))
outs_between template args (a ∷ ins) [] h = absurd (omega (arith, h))
outs_between template args (a ∷ ins) (b ∷ outs) h = ap (λ es. b ∷ es) (outs_between template args ins outs (omega (arith, h)))

ins_between : (template : Template) (args ins outs : List ℕ) → length ins ≡ length outs → flat_map (λ (leaf : Leaf). leaf.ins) (leaves_between template args ins outs) ≡ ins
ins_between template args [] [] h = refl
ins_between template args [] (b ∷ outs) h = absurd (omega (arith, h))
ins_between template args (a ∷ ins) [] h = absurd (omega (arith, h))
ins_between template args (a ∷ ins) (b ∷ outs) h = ap (λ es. a ∷ es) (ins_between template args ins outs (omega (arith, h)))

outs_built : (template : Template) (args ins outs : List ℕ) → (is_nexus template ≡ false → length ins ≡ length outs)
    → flat_map (λ (leaf : Leaf). leaf.outs) (built_leaves (Some template) args ins outs) ≡ outs
outs_built template args ins outs h = at (is_nexus template) h
  where
    at : (b : Bool) → (b ≡ false → length ins ≡ length outs) → flat_map (λ (leaf : Leaf). leaf.outs) (cond b (leaf_of template args ins outs ∷ []) (leaves_between template args ins outs)) ≡ outs
    at true h = append-nil outs
    at false h = outs_between template args ins outs (h refl)

ins_built : (template : Template) (args ins outs : List ℕ) → (is_nexus template ≡ false → length ins ≡ length outs)
    → flat_map (λ (leaf : Leaf). leaf.ins) (built_leaves (Some template) args ins outs) ≡ ins
ins_built template args ins outs h = at (is_nexus template) h
  where
    at : (b : Bool) → (b ≡ false → length ins ≡ length outs) → flat_map (λ (leaf : Leaf). leaf.ins) (cond b (leaf_of template args ins outs ∷ []) (leaves_between template args ins outs)) ≡ ins
    at true h = append-nil ins
    at false h = ins_between template args ins outs (h refl)

module _ (rules : List StatedRule) (edges : List Edge) (name : List ℕ) (node n : ℕ) where
  given_here : (kind : NodeKind) → KindJoins rules edges node kind
      → times n (flat_map (λ (leaf : Leaf). leaf.outs) (kind_leaves rules kind (edges_to node edges) (edges_from node edges))) + times n (port_edges (source_ports name node kind edges))
      ≡ times n (edges_from node edges)
  given_here (Source ports ids emits) h = rw (edges_on name node 0 (edges_from node edges)) (omega arith)
  given_here (Sink beat ports supports) h = rw h refl
  given_here (Ruled kind args) h =
      let e = ap (λ t. flat_map (λ (leaf : Leaf). leaf.outs) (built_leaves t args (edges_to node edges) (edges_from node edges))) h.1
      ∙ outs_built h.0 args (edges_to node edges) (edges_from node edges) h.2 in
      rw e (omega arith)

  taken_here : (kind : NodeKind) → KindJoins rules edges node kind
      → times n (flat_map (λ (leaf : Leaf). leaf.ins) (kind_leaves rules kind (edges_to node edges) (edges_from node edges))) + times n (port_edges (sink_ports name node kind edges))
      ≡ times n (edges_to node edges)
  taken_here (Source ports ids emits) h = rw h refl
  taken_here (Sink beat ports supports) h = rw (edges_on name node 0 (edges_to node edges)) (omega arith)
  taken_here (Ruled kind args) h =
      let e = ap (λ t. flat_map (λ (leaf : Leaf). leaf.ins) (built_leaves t args (edges_to node edges) (edges_from node edges))) h.1
      ∙ ins_built h.0 args (edges_to node edges) (edges_from node edges) h.2 in
      rw e (omega arith)

-- ---- all nodes

ports_joined : (a b : List PlanPort) → port_edges (a ++ b) ≡ port_edges a ++ port_edges b
ports_joined [] b = refl
ports_joined (p ∷ a) b = ap (λ es. p.edge ∷ es) (ports_joined a b)

-- the sum of some counts at so many numbers from one on
counted : (ℕ → ℕ) → ℕ → ℕ → ℕ
counted count from zero = 0
counted count from (suc more) = count from + counted count (from + 1) more

module _ (rules : List StatedRule) (edges : List Edge) (n : ℕ) (side : Leaf → List ℕ) (ports : List ℕ → ℕ → NodeKind → List Edge → List PlanPort) (at_node : ℕ → List ℕ)
    (here : (name : List ℕ) (node : ℕ) (kind : NodeKind) → KindJoins rules edges node kind
    → times n (flat_map side (kind_leaves rules kind (edges_to node edges) (edges_from node edges))) + times n (port_edges (ports name node kind edges)) ≡ times n (at_node node)) where
  all_counted : (node : ℕ) (nodes : List NodeEntry) → ((k : ℕ) (entry : NodeEntry) → slice_get nodes k ≡ Some entry → KindJoins rules edges (node + k) entry.kind)
      → times n (flat_map side (leaves_from rules edges node nodes)) + times n (port_edges (ports_from ports edges node nodes)) ≡ counted (λ m. times n (at_node m)) node (length nodes)
  unfolding counted
  all_counted node [] h = refl
  all_counted node (entry ∷ nodes) h =
      let own = here entry.name node entry.kind (subst (λ m. KindJoins rules edges m entry.kind) z (h 0 entry refl)) in
      let rest = all_counted (node + 1) nodes (λ k e is. subst (λ m. KindJoins rules edges m e.kind) (y k) (h (suc k) e is)) in
      let leaves = ap (times n) (flat_map-append side (kind_leaves rules entry.kind (edges_to node edges) (edges_from node edges)) (leaves_from rules edges (node + 1) nodes))
      ∙ times_joined n (flat_map side (kind_leaves rules entry.kind (edges_to node edges) (edges_from node edges))) (flat_map side (leaves_from rules edges (node + 1) nodes)) in
      let at_ports = ap (times n) (ports_joined (ports entry.name node entry.kind edges) (ports_from ports edges (node + 1) nodes))
      ∙ times_joined n (port_edges (ports entry.name node entry.kind edges)) (port_edges (ports_from ports edges (node + 1) nodes)) in
      omega (arith, own, rest, leaves, at_ports)
    where
      z : node + 0 ≡ node
      z = omega arith

      y : (k : ℕ) → node + suc k ≡ node + 1 + k
      y k = omega arith

-- of numbers one has a count of 1 and the others none
counted_none : (count : ℕ → ℕ) (own : ℕ) → ((m : ℕ) → count m ≡ cond (own == m) 1 0) → (from more : ℕ) → own < from → counted count from more ≡ 0
unfolding counted
counted_none count own h from zero l = refl
counted_none count own h from (suc more) l = at (own == from) refl (h from) (counted_none count own h (from + 1) more (omega arith))
  where
    at : (b : Bool) → (own == from) ≡ b → count from ≡ cond b 1 0 → counted count (from + 1) more ≡ 0 → count from + counted count (from + 1) more ≡ 0
    at true q c r = let e : own ≡ from = eqb-true own from q in absurd (omega arith)
    at false q c r = omega (arith, c, r)

counted_one : (count : ℕ → ℕ) (own : ℕ) → ((m : ℕ) → count m ≡ cond (own == m) 1 0) → (from more : ℕ) → from ≤ own → own < from + more → counted count from more ≡ 1
unfolding counted
counted_one count own h from zero l m = absurd (omega arith)
counted_one count own h from (suc more) l m =
    at (own == from) refl (h from) (λ k. counted_one count own h (from + 1) more k (omega arith)) (λ k. counted_none count own h (from + 1) more k)
  where
    at : (b : Bool) → (own == from) ≡ b → count from ≡ cond b 1 0 → (from + 1 ≤ own → counted count (from + 1) more ≡ 1) → (own < from + 1 → counted count (from + 1) more ≡ 0)
        → count from + counted count (from + 1) more ≡ 1
    at true q c f g = let e : own ≡ from = eqb-true own from q in let r = g (omega arith) in omega (arith, c, r)
    at false q c f g = elim (cases_eq own from) [
      | inl e ↦ let w : (own == from) ≡ true = eq-eqb own from e in absurd cc
      | inr ne ↦ let r = f (omega arith) in omega (arith, c, r)
    ]

edge_here : (edges : List Edge) (x : ℕ) → x < length edges → (edge : Edge) × (slice_get edges x ≡ Some edge)
edge_here [] x l = absurd (omega arith)
edge_here (e ∷ edges) zero l = (e, refl)
edge_here (e ∷ edges) (suc x) l = edge_here edges x (omega arith)

module _ (rules : List StatedRule) (design : Design) (edges : List Edge) (solution : Solution) (n : IsNegotiable design edges) (joins : EachJoins rules edges design.nodes) where
  joins_from : (k : ℕ) (entry : NodeEntry) → slice_get design.nodes k ≡ Some entry → KindJoins rules edges (0 + k) entry.kind
  joins_from k entry is = let z : k ≡ 0 + k = omega arith in subst (λ m. KindJoins rules edges m entry.kind) z (joins k entry is)

  given_once : (x : ℕ) → x < length edges → times x (given_edges (plan_of rules design edges solution)) ≡ 1
  given_once x l =
      let e = edge_here edges x l in
      let z : 0 + x ≡ x = omega arith in
      let exists = (nodes_exist design edges n x e.0 e.1).1 in
      let all = all_counted rules edges x (λ (leaf : Leaf). leaf.outs) source_ports (λ m. edges_from m edges) (λ name node kind. given_here rules edges name node x kind) 0 design.nodes joins_from in
      let one = counted_one (λ m. times x (edges_from m edges)) e.0.from
      (λ m. subst (λ y. times y (edges_from m edges) ≡ cond (e.0.from == m) 1 0) z (times_at (λ number edge. edge.from == m) 0 edges x e.0 e.1)) 0 (length design.nodes) (omega arith) (omega arith) in
      times_joined x (flat_map (λ (leaf : Leaf). leaf.outs) (leaves_from rules edges 0 design.nodes)) (port_edges (ports_from source_ports edges 0 design.nodes)) ∙ all ∙ one

  taken_once : (x : ℕ) → x < length edges → times x (taken_edges (plan_of rules design edges solution)) ≡ 1
  taken_once x l =
      let e = edge_here edges x l in
      let z : 0 + x ≡ x = omega arith in
      let exists = (nodes_exist design edges n x e.0 e.1).0 in
      let all = all_counted rules edges x (λ (leaf : Leaf). leaf.ins) sink_ports (λ m. edges_to m edges) (λ name node kind. taken_here rules edges name node x kind) 0 design.nodes joins_from in
      let one = counted_one (λ m. times x (edges_to m edges)) e.0.to
      (λ m. subst (λ y. times y (edges_to m edges) ≡ cond (e.0.to == m) 1 0) z (times_at (λ number edge. edge.to == m) 0 edges x e.0 e.1)) 0 (length design.nodes) (omega arith) (omega arith) in
      times_joined x (flat_map (λ (leaf : Leaf). leaf.ins) (leaves_from rules edges 0 design.nodes)) (port_edges (ports_from sink_ports edges 0 design.nodes)) ∙ all ∙ one

pub once : OnceLaw
once = record {
  given = λ rules design edges solution n joins. given_once rules design edges solution n joins;
  taken = λ rules design edges solution n joins. taken_once rules design edges solution n joins;
}
