-- No way through a design's plan comes back: along each edge the canonical order goes on.
use Rattle.std.proofs.Common.{◌≡◌, ℕ, zero, suc, ◌+◌, ◌<◌, Bool, true, false, not, cond, ◌||◌, List, [], ◌∷◌, ◌++◌, length, Option, Some, None, refl, sym, ap, ◌∙◌, subst, arith, ◌⊎◌, inl, inr}
use Rattle.std.specs.Prelude.{slice_get, All, Contains, ◌==◌}
use Rattle.std.specs.List.{list_all}
use Rattle.std.proofs.lemmas.Bool.{eqb-true, eq-eqb}
use Rattle.std.proofs.lemmas.List.Elements.{All-weaker}
use Rattle.dip_lists.specs.First.{first}
use Rattle.dip_lists.proofs.Tests.{both}
use Rattle.tl_edge.specs.declared.plan.Leaf.{Leaf}
use Rattle.tl_edge.specs.declared.plan.Plan.{Plan}
use Rattle.tl_edge.specs.Plans.{IsWay, NoneReturns}
use Rattle.dip_graph.specs.Orders.{is_listed, is_met, is_ready, canonical_order, StandBehind}
use Rattle.dip_graph.proofs.Behind.{each_stands_behind}
use Rattle.dip_graph.specs.declared.design.BindEntry.{BindEntry}
use Rattle.dip_graph.specs.declared.design.NodeEntry.{NodeEntry}
use Rattle.dip_graph.specs.declared.design.Design.{Design}
use Rattle.dip_graph.specs.declared.edges.Edge.{Edge}
use Rattle.dip_graph.specs.Edges.{FollowsBind, HasNodes}
use Rattle.dip_negotiate.specs.Negotiation.{IsNegotiable}
use Rattle.dip_negotiate.proofs.Ordered.{listed_joined}
use Rattle.dip_graph.specs.Edges.{edges_to, edges_from}
use Rattle.dip_plan.specs.DesignPlans.{kind_leaves, plan_of}
use Rattle.dip_plan.proofs.PlanLaws.{AcyclicLaw}
use Rattle.tl_owners.proofs.Members.{contains_in, item_has}
use Rattle.dip_plan.proofs.Members.{place_is, none_pass}
use Rattle.dip_plan.proofs.Parts.{by_node, IsBetween, of_kind}

either : (a b : Bool) → (a || b) ≡ true → (a ≡ true) ⊎ (b ≡ true)
either true b h = inl refl
either false b h = inr h

yes_or_no : (a : Bool) → (a ≡ true) ⊎ (a ≡ false)
yes_or_no true = inl refl
yes_or_no false = inr refl

-- ---- the place of a node in an order

pub rank : List ℕ → ℕ → ℕ
rank [] node = 0
rank (first ∷ nodes) node = cond (first == node) 0 (suc (rank nodes node))

met_at : (p : BindEntry → Bool) (binds : List BindEntry) (k : ℕ) (b : BindEntry) → list_all p binds ≡ true → slice_get binds k ≡ Some b → p b ≡ true
met_at p [] k b h e = absurd cc
met_at p (x ∷ xs) zero b h e = let q : x ≡ b = cc in subst (λ (y : BindEntry). p y ≡ true) q (both (p x) (list_all p xs) h).0
met_at p (x ∷ xs) (suc k) b h e = met_at p xs k b (both (p x) (list_all p xs) h).1 e

not_true_or : (a b : Bool) → (not a || b) ≡ true → a ≡ true → b ≡ true
not_true_or true b h e = h
not_true_or false b h e = absurd cc

-- the from-node of a bind to a ready node is listed
from_listed : (binds : List BindEntry) (listed : List ℕ) (n k : ℕ) (b : BindEntry) → is_ready binds listed n ≡ true → slice_get binds k ≡ Some b → b.to ≡ n → is_listed listed b.from ≡ true
from_listed binds listed n k b r e q =
    let m = met_at (is_met listed n) binds k b (both (not (is_listed listed n)) (list_all (is_met listed n) binds) r).1 e in
    not_true_or (b.to == n) (is_listed listed b.from) m (eq-eqb b.to n q)

-- a bind to a node of an order comes from one that is listed already, or stands earlier
earlier : (binds : List BindEntry) (listed ns : List ℕ) (k : ℕ) (b : BindEntry) → StandBehind binds listed ns → slice_get binds k ≡ Some b → is_listed ns b.to ≡ true
    → (is_listed listed b.from ≡ true) ⊎ (rank ns b.from < rank ns b.to)
unfolding rank
earlier binds listed [] k b s e h = absurd cc
earlier binds listed (n ∷ ns) k b s e h = elim (yes_or_no (n == b.to)) [
  | inl q ↦ inl (from_listed binds listed n k b s.0 e (sym (eqb-true n b.to q)))
  | inr q ↦ further q (earlier binds (listed ++ n ∷ []) ns k b s.1 e (further_listed q (either (n == b.to) (is_listed ns b.to) h)))
]
  where
    further_listed : (n == b.to) ≡ false → ((n == b.to) ≡ true) ⊎ (is_listed ns b.to ≡ true) → is_listed ns b.to ≡ true
    further_listed q (inl z) = absurd cc
    further_listed q (inr i) = i

    here : (n == b.from) ≡ true → (n == b.to) ≡ false → cond (n == b.from) 0 (suc (rank ns b.from)) < cond (n == b.to) 0 (suc (rank ns b.to))
    here p q = rw (p, q) (omega arith)

    there : (x : Bool) → (n == b.from) ≡ x → (n == b.to) ≡ false → rank ns b.from < rank ns b.to → cond (n == b.from) 0 (suc (rank ns b.from)) < cond (n == b.to) 0 (suc (rank ns b.to))
    there true p q l = here p q
    there false p q l = rw (p, q) (omega arith)

    further : (n == b.to) ≡ false → (is_listed (listed ++ n ∷ []) b.from ≡ true) ⊎ (rank ns b.from < rank ns b.to)
        → (is_listed listed b.from ≡ true) ⊎ (cond (n == b.from) 0 (suc (rank ns b.from)) < cond (n == b.to) 0 (suc (rank ns b.to)))
    further q (inr l) = inr (there (n == b.from) refl q l)
    further q (inl i) = elim (either (is_listed listed b.from) (is_listed (n ∷ []) b.from) (sym (listed_joined listed (n ∷ []) b.from) ∙ i)) [
      | inl j ↦ inl j
      | inr j ↦ elim (either (n == b.from) false j) [ inl p ↦ inr (here p q) | inr z ↦ absurd cc ]
    ]

-- ---- a plan whose edges rise by a number of each

-- a leaf's in edges have lower numbers than its out edges
abbrev pub RisesBy : (ℕ → ℕ) → Leaf → Type 0
RisesBy level leaf = (above below : ℕ) → Contains leaf.ins above → Contains leaf.outs below → level above < level below

module _ (plan : Plan) (level : ℕ → ℕ) (all : All (RisesBy level) plan.leaves) where
  -- each edge on a way is at a greater level than the one from which it starts
  rising : (edge : ℕ) (others : List ℕ) → IsWay plan edge others → (later : ℕ) → Contains others later → level edge < level later
  rising edge [] way later (k, below, is) = absurd (omega arith)
  rising edge (next ∷ others) way later (zero, below, is) =
      let step : level edge < level next = item_has (RisesBy level) plan.leaves way.0.leaf way.0.through all way.0.is edge next way.0.taken way.0.given in
      subst (λ (e : ℕ). level edge < level e) is step
  rising edge (next ∷ others) way later (suc k, below, is) =
      let step : level edge < level next = item_has (RisesBy level) plan.leaves way.0.leaf way.0.through all way.0.is edge next way.0.taken way.0.given in
      let rest : level next < level later = rising next others way.1 later (k, omega arith, is) in
      omega arith

  pub no_way_back_by : NoneReturns plan
  no_way_back_by edge others way back = let less : level edge < level edge = rising edge others way edge back in omega arith

-- ---- of a design

none_first : (xs : List ℕ) → first xs ≡ None → xs ≡ []
none_first [] h = refl
none_first (x ∷ xs) h = absurd cc

not_false : (a : Bool) → not a ≡ false → a ≡ true
not_false true h = refl
not_false false h = absurd cc

level_of : List ℕ → Option Edge → ℕ
level_of order None = 0
level_of order (Some edge) = rank order edge.from

module _ (design : Design) (edges : List Edge) (n : IsNegotiable design edges) where
  pub follows : (x : ℕ) (edge : Edge) → slice_get edges x ≡ Some edge → FollowsBind design.binds edge
  follows x edge e = item_has (FollowsBind design.binds) edges x edge n.made e

  pub nodes_exist : (x : ℕ) (edge : Edge) → slice_get edges x ≡ Some edge → (edge.to < length design.nodes) × (edge.from < length design.nodes)
  nodes_exist x edge e =
      let f = follows x edge e in
      let h = item_has (HasNodes design.nodes) design.binds edge.bind f.made_by n.named f.is in
      (subst (λ m. m < length design.nodes) (sym f.to) h.0, subst (λ m. m < length design.nodes) (sym f.from) h.1)

  node_at : (m : ℕ) → m < length design.nodes → (entry : NodeEntry) × (slice_get design.nodes m ≡ Some entry)
  node_at m l = found design.nodes m l
    where
      found : (nodes : List NodeEntry) (m : ℕ) → m < length nodes → (entry : NodeEntry) × (slice_get nodes m ≡ Some entry)
      found [] m l = absurd (omega arith)
      found (e ∷ nodes) zero l = (e, refl)
      found (e ∷ nodes) (suc m) l = found nodes m (omega arith)

  all_listed : (m : ℕ) → m < length design.nodes → is_listed (canonical_order design) m ≡ true
  all_listed m l =
      let e = node_at m l in
      let z : 0 + m ≡ m = omega arith in
      let f = none_pass (λ number node. not (is_listed (canonical_order design) number)) 0 design.nodes m e.0 (none_first _ n.acyclic) e.1 in
      not_false (is_listed (canonical_order design) m) (ap (λ k. not (is_listed (canonical_order design) k)) (sym z) ∙ f)

  -- each edge goes on in the canonical order
  pub goes_on : (x : ℕ) (edge : Edge) → slice_get edges x ≡ Some edge → rank (canonical_order design) edge.from < rank (canonical_order design) edge.to
  goes_on x edge e =
      let f = follows x edge e in
      let to = all_listed edge.to (nodes_exist x edge e).0 in
      let r = earlier design.binds [] (canonical_order design) edge.bind f.made_by (each_stands_behind design) f.is (ap (is_listed (canonical_order design)) (sym f.to) ∙ to) in
      elim r [
        | inl z ↦ absurd cc
        | inr l ↦ subst (λ m. rank (canonical_order design) m < rank (canonical_order design) edge.to) (sym f.from)
            (subst (λ m. rank (canonical_order design) f.made_by.from < rank (canonical_order design) m) (sym f.to) l)
      ]

  abbrev level : ℕ → ℕ
  level number = level_of (canonical_order design) (slice_get edges number)

  between_rises : (node : ℕ) (leaf : Leaf) → IsBetween (edges_to node edges) (edges_from node edges) leaf → RisesBy level leaf
  unfolding level_of
  between_rises node leaf b above below i o =
      let p = place_is (λ number edge. edge.to == node) 0 edges above (b.above above (contains_in leaf.ins above i)) in
      let q = place_is (λ number edge. edge.from == node) 0 edges below (b.below below (contains_in leaf.outs below o)) in
      let pe : slice_get edges above ≡ Some p.item = ap (slice_get edges) (p.number ∙ from_none p.behind) ∙ p.is in
      let qe : slice_get edges below ≡ Some q.item = ap (slice_get edges) (q.number ∙ from_none q.behind) ∙ q.is in
      let g = goes_on above p.item pe in
      let t : p.item.to ≡ q.item.from = eqb-true p.item.to node p.passes ∙ sym (eqb-true q.item.from node q.passes) in
      rw (pe, qe) (subst (λ m. rank (canonical_order design) p.item.from < rank (canonical_order design) m) t g)
    where
      from_none : (j : ℕ) → 0 + j ≡ j
      from_none j = omega arith

pub acyclic : AcyclicLaw
acyclic rules design edges solution n =
    no_way_back_by (plan_of rules design edges solution) (level design edges n)
    (by_node (RisesBy (level design edges n)) rules edges 0 design.nodes
    (λ k entry is. All-weaker (IsBetween (edges_to (0 + k) edges) (edges_from (0 + k) edges)) (RisesBy (level design edges n)) (between_rises design edges n (0 + k))
    (kind_leaves rules entry.kind (edges_to (0 + k) edges) (edges_from (0 + k) edges)) (of_kind rules entry.kind (edges_to (0 + k) edges) (edges_from (0 + k) edges))))
