-- What the passes give is the only solution, and where one stops it is at the first refusal.
use Rattle.std.proofs.Common.{◌≡◌, ℕ, zero, suc, ◌+◌, ◌<◌, Bool, true, false, not, cond, List, [], ◌∷◌, ◌++◌, length, replicate, Some, None, Result, Ok, Err, refl, sym, ap, ◌∙◌, subst, arith, ◌⊎◌, inl, inr}
use Rattle.std.specs.Prelude.{slice_get, ◌==◌}
use Rattle.std.proofs.lemmas.Bool.{eqb-true}
use Rattle.std.proofs.lemmas.Option.{slice_get_within, get_or_from_slice_get}
use Rattle.std.proofs.lemmas.List.{length-replicate}
use Rattle.dip_lists.specs.First.{first, places}
use Rattle.dip_lists.proofs.Tests.{both}
use Rattle.dip_graph.specs.Edges.{FollowsBind, HasNodes}
use Rattle.dip_graph.specs.Kinds.{ruled_kind_at}
use Rattle.dip_graph.specs.Orders.{is_listed, canonical_order, StandBehind}
use Rattle.dip_graph.proofs.Behind.{each_stands_behind}
use Rattle.dip_graph.specs.declared.design.NodeEntry.{NodeEntry}
use Rattle.dip_graph.specs.declared.design.Design.{Design}
use Rattle.dip_graph.specs.declared.edges.Edge.{Edge}
use Rattle.dip_rule.specs.Stated.{StatedRule, is_nexus_kind}
use Rattle.tl_params.specs.declared.ports.DownPort.{DownPort}
use Rattle.tl_params.specs.declared.ports.UpPort.{UpPort}
use Rattle.dip_negotiate.specs.declared.steps.End.{End}
use Rattle.dip_negotiate.specs.declared.steps.Step.{Step}
use Rattle.dip_negotiate.specs.Passes.{Pass, Refusal, run, stated, Holds, HoldAt, Solves, OnlySolves, RefusesFirst}
use Rattle.dip_negotiate.specs.Places.{source_end, sink_end, belongs, asked, steps_at, steps_down, steps_up}
use Rattle.dip_negotiate.specs.Negotiation.{IsNegotiable, NegotiationLaw, down_pass, up_pass, downs, ups, no_masters, no_slaves}
use Rattle.dip_negotiate.specs.Demands.{IsOneOf}
use Rattle.dip_negotiate.proofs.Lookups.{same_ports}
use Rattle.dip_negotiate.proofs.Runs.{InOrder, Within, run_done, only, refuses_first}
use Rattle.dip_negotiate.proofs.Taken.{IsStep, at_is, known_step, step_left, step_right}
use Rattle.dip_negotiate.proofs.Ordered.{down_order, up_order, step_down, step_up}

-- ---- from steps to edges and back

within_steps : (count : ℕ) (steps : List Step) → ((x : ℕ) (edge : Edge) → IsStep x edge steps → x < count) → Within count steps
within_steps count [] h = tt
within_steps count (s ∷ steps) h = (h s.number s.edge (inl (refl, refl)), within_steps count steps (λ x edge i. h x edge (inr i)))

hold_all : {P : Type 0} (pass : Pass P) (ports : List P) (steps : List Step) → ((x : ℕ) (edge : Edge) → IsStep x edge steps → Holds pass ports x edge) → HoldAt pass ports steps
hold_all pass ports [] h = tt
hold_all pass ports (s ∷ steps) h = (h s.number s.edge (inl (refl, refl)), hold_all pass ports steps (λ x edge i. h x edge (inr i)))

hold_one : {P : Type 0} (pass : Pass P) (ports : List P) (steps : List Step) (x : ℕ) (edge : Edge) → HoldAt pass ports steps → IsStep x edge steps → Holds pass ports x edge
hold_one pass ports [] x edge h i = absurd i
hold_one pass ports (s ∷ steps) x edge h (inl q) =
    subst (λ y. Holds pass ports y edge) (sym q.0) (subst (λ (d : Edge). Holds pass ports s.number d) (sym q.1) h.0)
hold_one pass ports (s ∷ steps) x edge h (inr i) = hold_one pass ports steps x edge h.1 i

not_both : {P : Type 0} (answer : Result P ℕ) (port : P) (number : ℕ) → answer ≡ Ok port → answer ≡ Err number → ⊥
not_both (Ok q) port number a b = absurd cc
not_both (Err q) port number a b = absurd cc

-- steps in order that are all edges, each with its number
pub record Covers (edges : List Edge) (steps : List Step) : Type 0 where
  pub sound : (x : ℕ) (edge : Edge) → IsStep x edge steps → slice_get edges x ≡ Some edge
  pub whole : (x : ℕ) (edge : Edge) → slice_get edges x ≡ Some edge → IsStep x edge steps

within_edges : (edges : List Edge) (steps : List Step) → Covers edges steps → Within (length edges) steps
within_edges edges steps c = within_steps (length edges) steps (λ x edge i. slice_get_within edges x edge (c.sound x edge i))

edge_at : (edges : List Edge) (x : ℕ) → x < length edges → (edge : Edge) × (slice_get edges x ≡ Some edge)
edge_at [] x l = absurd (omega arith)
edge_at (e ∷ edges) zero l = (e, refl)
edge_at (e ∷ edges) (suc x) l = edge_at edges x (omega arith)

module _ {P : Type 0} (pass : Pass P) (blank : P) (edges : List Edge) (steps : List Step) (order : InOrder pass.asks [] steps) (covers : Covers edges steps) where
  blanks : List P
  blanks = replicate (length edges) blank

  only_solves : (ports : List P) → run pass (replicate (length edges) blank) steps ≡ Ok ports → OnlySolves pass edges ports
  only_solves ports e =
      let long : length (replicate (length edges) blank) ≡ length edges = length-replicate (length edges) blank in
      let done = run_done pass [] steps (replicate (length edges) blank) ports order (subst (λ n. Within n steps) (sym long) (within_edges edges steps covers)) e in
      record {
        solves = record {
          long = done.long ∙ long;
          holds = λ x edge q. hold_one pass ports steps x edge done.holds (covers.whole x edge q);
        };
        only = λ others s.
            let agree = only pass [] steps others ports order (λ x i. absurd i) (hold_all pass others steps (λ x edge i. s.holds x edge (covers.sound x edge i))) done.holds in
            same_ports others ports (s.long ∙ sym (done.long ∙ long)) (λ x l.
            let at = edge_at edges x (subst (λ n. x < n) s.long l) in
            agree x (known_step x at.0 [] steps (covers.whole x at.0 at.1)));
      }

  first_refused : (refused : Refusal) → run pass (replicate (length edges) blank) steps ≡ Err refused → RefusesFirst pass steps refused
  first_refused refused e =
      refuses_first pass steps (replicate (length edges) blank) refused order
      (subst (λ n. Within n steps) (sym (length-replicate (length edges) blank)) (within_edges edges steps covers)) e

  -- where one is refused nothing solves
  unsolved : (refused : Refusal) → run pass (replicate (length edges) blank) steps ≡ Err refused → (ports : List P) → Solves pass edges ports → ⊥
  unsolved refused e ports s =
      let f = first_refused refused e in
      let whole : (x : ℕ) (edge : Edge) → IsStep x edge (f.front ++ record { number = f.number; edge = refused.edge } ∷ f.back) → slice_get edges x ≡ Some edge =
      λ x edge i. covers.sound x edge (subst (λ ss. IsStep x edge ss) (sym f.split) i) in
      let here = s.holds f.number refused.edge (whole f.number refused.edge
      (step_right f.number refused.edge f.front (record { number = f.number; edge = refused.edge } ∷ f.back) (inl (refl, refl)))) in
      let before = hold_all pass ports f.front (λ x edge i. s.holds x edge (whole x edge
      (step_left x edge f.front (record { number = f.number; edge = refused.edge } ∷ f.back) i))) in
      not_both (stated pass ports refused.edge) here.port refused.number here.is (f.refuses ports before)

split_steps : (x : ℕ) (edge : Edge) (a b : List Step) → IsStep x edge (a ++ b) → IsStep x edge a ⊎ IsStep x edge b
split_steps x edge [] b i = inr i
split_steps x edge (s ∷ a) b (inl q) = inl (inl q)
split_steps x edge (s ∷ a) b (inr i) = elim (split_steps x edge a b i) [ inl j ↦ inl (inr j) | inr j ↦ inr j ]

sound_at : (near : Edge → End) (m : ℕ) (edges : List Edge) (x : ℕ) (edge : Edge) → IsStep x edge (steps_at near m 0 edges) → slice_get edges x ≡ Some edge
sound_at near m edges x edge j =
    let a = at_is near m x edge 0 edges j in
    let z : x ≡ a.0 = a.1 ∙ from_none a.0 in
    ap (slice_get edges) z ∙ a.2
  where
    from_none : (j : ℕ) → 0 + j ≡ j
    from_none j = omega arith

sound_down : (edges : List Edge) (ns : List ℕ) (x : ℕ) (edge : Edge) → IsStep x edge (steps_down ns edges) → slice_get edges x ≡ Some edge
sound_down edges [] x edge i = absurd i
sound_down edges (m ∷ ns) x edge i = elim (split_steps x edge (steps_at source_end m 0 edges) (steps_down ns edges) i) [
  | inl j ↦ sound_at source_end m edges x edge j
  | inr j ↦ sound_down edges ns x edge j
]

sound_up : (edges : List Edge) (ns : List ℕ) (x : ℕ) (edge : Edge) → IsStep x edge (steps_up ns edges) → slice_get edges x ≡ Some edge
sound_up edges [] x edge i = absurd i
sound_up edges (m ∷ ns) x edge i = elim (split_steps x edge (steps_up ns edges) (steps_at sink_end m 0 edges) i) [
  | inl j ↦ sound_up edges ns x edge j
  | inr j ↦ sound_at sink_end m edges x edge j
]

-- ---- of a design

-- what passes a test among numbered items is one of them
among : {A : Type 0} (test : ℕ → A → Bool) (from : ℕ) (xs : List A) (y : ℕ) → IsOneOf y (places test from xs)
    → (j : ℕ) × (x : A) × (y ≡ from + j) × (slice_get xs j ≡ Some x) × (test y x ≡ true)
among test from [] y h = absurd h
among test from (x ∷ xs) y h = at (test from x) refl h (among test (from + 1) xs y)
  where
    later : ((j : ℕ) × (z : _) × (y ≡ from + 1 + j) × (slice_get xs j ≡ Some z) × (test y z ≡ true)) → (j : ℕ) × (z : _) × (y ≡ from + j) × (slice_get (x ∷ xs) j ≡ Some z) × (test y z ≡ true)
    later f = let q : y ≡ from + suc f.0 = omega (arith, f.2) in (suc f.0, f.1, q, f.3, f.4)

    at : (b : Bool) → test from x ≡ b → IsOneOf y (cond b (from ∷ places test (from + 1) xs) (places test (from + 1) xs))
        → (IsOneOf y (places test (from + 1) xs) → (j : ℕ) × (z : _) × (y ≡ from + 1 + j) × (slice_get xs j ≡ Some z) × (test y z ≡ true))
        → (j : ℕ) × (z : _) × (y ≡ from + j) × (slice_get (x ∷ xs) j ≡ Some z) × (test y z ≡ true)
    at true q (inl i) f = let z : y ≡ from + 0 = omega (arith, i) in (0, x, z, refl, ap (λ n. test n x) i ∙ q)
    at true q (inr i) f = later (f i)
    at false q i f = later (f i)

-- an edge that is asked reaches the node of the one that asks
reaches : (rules : List StatedRule) (nodes : List NodeEntry) (edges : List Edge) (near far : Edge → End) (edge : Edge) (y : ℕ) → IsOneOf y (asked rules nodes edges near far edge)
    → (other : Edge) × (slice_get edges y ≡ Some other) × ((far other).node ≡ (near edge).node)
reaches rules nodes edges near far edge y i =
    let a = among (λ number other. belongs (is_nexus_kind rules (ruled_kind_at nodes (near edge).node)) (near edge) (far other)) 0 edges y i in
    let z : y ≡ a.0 = a.2 ∙ from_none a.0 in
    (a.1, ap (slice_get edges) z ∙ a.3, sym (eqb-true (near edge).node (far a.1).node (both ((near edge).node == (far a.1).node) _ a.4).0))
  where
    from_none : (j : ℕ) → 0 + j ≡ j
    from_none j = omega arith

-- a test that fails passes_at
passes_at : {A : Type 0} (test : ℕ → A → Bool) (from : ℕ) (xs : List A) (j : ℕ) → j < length xs → first (places test from xs) ≡ None → (x : A) × (test (from + j) x ≡ false)
passes_at test from [] j l h = absurd (omega arith)
passes_at test from (x ∷ xs) j l h = at (test from x) refl j l h (λ k m q. passes_at test (from + 1) xs k m q)
  where
    at : (b : Bool) → test from x ≡ b → (j : ℕ) → j < length (x ∷ xs) → first (cond b (from ∷ places test (from + 1) xs) (places test (from + 1) xs)) ≡ None
        → ((k : ℕ) → k < length xs → first (places test (from + 1) xs) ≡ None → (z : _) × (test (from + 1 + k) z ≡ false)) → (z : _) × (test (from + j) z ≡ false)
    at true q j l h f = absurd cc
    at false q zero l h f = let z : from + 0 ≡ from = omega arith in (x, ap (λ n. test n x) z ∙ q)
    at false q (suc k) l h f = let g = f k (omega (arith, l)) h in let z : from + suc k ≡ from + 1 + k = omega arith in (g.0, ap (λ n. test n g.0) z ∙ g.1)

not_false : (a : Bool) → not a ≡ false → a ≡ true
not_false true h = refl
not_false false h = absurd cc

module _ (design : Design) (edges : List Edge) (n : IsNegotiable design edges) where
  follows : (x : ℕ) (edge : Edge) → slice_get edges x ≡ Some edge → FollowsBind design.binds edge
  follows x edge e = subst (λ (d : Edge). FollowsBind design.binds d) (get_or_from_slice_get edges x edge edge e) (n.made x edge (slice_get_within edges x edge e))

  all_listed : (m : ℕ) → m < length design.nodes → is_listed (canonical_order design) m ≡ true
  all_listed m l =
      let f = passes_at (λ number node. not (is_listed (canonical_order design) number)) 0 design.nodes m l n.acyclic in
      let z : 0 + m ≡ m = omega arith in
      not_false (is_listed (canonical_order design) m) (ap (λ k. not (is_listed (canonical_order design) k)) (sym z) ∙ f.1)

  nodes_exist : (x : ℕ) (edge : Edge) → slice_get edges x ≡ Some edge → (edge.to < length design.nodes) × (edge.from < length design.nodes)
  nodes_exist x edge e =
      let f = follows x edge e in
      let h = subst (λ b. HasNodes design.nodes b) (get_or_from_slice_get design.binds edge.bind f.made_by f.made_by f.is) (n.named edge.bind f.made_by (slice_get_within design.binds edge.bind f.made_by f.is)) in
      (subst (λ m. m < length design.nodes) (sym f.to) h.0, subst (λ m. m < length design.nodes) (sym f.from) h.1)

  stand : StandBehind design.binds [] (canonical_order design)
  stand = each_stands_behind design

  pub covers_down : Covers edges (steps_down (canonical_order design) edges)
  covers_down = record {
    sound = sound_down edges (canonical_order design);
    whole = λ x edge e. step_down (canonical_order design) edges x edge e (all_listed edge.from (nodes_exist x edge e).1);
  }

  pub covers_up : Covers edges (steps_up (canonical_order design) edges)
  covers_up = record {
    sound = sound_up edges (canonical_order design);
    whole = λ x edge e. step_up (canonical_order design) edges x edge e (all_listed edge.to (nodes_exist x edge e).0);
  }

  module _ (rules : List StatedRule) where
    pub order_down : InOrder (down_pass rules design.nodes edges).asks [] (steps_down (canonical_order design) edges)
    order_down = down_order design.binds edges follows (down_pass rules design.nodes edges).asks (reaches rules design.nodes edges source_end sink_end)
        [] (canonical_order design) [] (record { has = λ x edge e p. absurd cc; only = λ x i. absurd i }) stand

    pub order_up : InOrder (up_pass rules design.nodes edges).asks [] (steps_up (canonical_order design) edges)
    order_up = (up_order design.binds edges follows (up_pass rules design.nodes edges).asks (reaches rules design.nodes edges sink_end source_end)
        [] (canonical_order design) stand (λ x edge e h. absurd cc) (λ x edge e. all_listed edge.to (nodes_exist x edge e).0)).order

    down_is : (ports : List DownPort) → downs rules design edges ≡ Ok ports → OnlySolves (down_pass rules design.nodes edges) edges ports
    down_is = only_solves (down_pass rules design.nodes edges) no_masters edges (steps_down (canonical_order design) edges) order_down covers_down

    up_is : (ports : List UpPort) → ups rules design edges ≡ Ok ports → OnlySolves (up_pass rules design.nodes edges) edges ports
    up_is = only_solves (up_pass rules design.nodes edges) no_slaves edges (steps_up (canonical_order design) edges) order_up covers_up

    down_stops : (refused : Refusal) → downs rules design edges ≡ Err refused → RefusesFirst (down_pass rules design.nodes edges) (steps_down (canonical_order design) edges) refused
    down_stops = first_refused (down_pass rules design.nodes edges) no_masters edges (steps_down (canonical_order design) edges) order_down covers_down

    up_stops : (refused : Refusal) → ups rules design edges ≡ Err refused → RefusesFirst (up_pass rules design.nodes edges) (steps_up (canonical_order design) edges) refused
    up_stops = first_refused (up_pass rules design.nodes edges) no_slaves edges (steps_up (canonical_order design) edges) order_up covers_up

    down_none : (refused : Refusal) → downs rules design edges ≡ Err refused → (ports : List DownPort) → Solves (down_pass rules design.nodes edges) edges ports → ⊥
    down_none = unsolved (down_pass rules design.nodes edges) no_masters edges (steps_down (canonical_order design) edges) order_down covers_down

    up_none : (refused : Refusal) → ups rules design edges ≡ Err refused → (ports : List UpPort) → Solves (up_pass rules design.nodes edges) edges ports → ⊥
    up_none = unsolved (up_pass rules design.nodes edges) no_slaves edges (steps_up (canonical_order design) edges) order_up covers_up

pub negotiation : NegotiationLaw
negotiation = record {
  down = λ rules design edges n. down_is design edges n rules;
  up = λ rules design edges n. up_is design edges n rules;
  down_refused = λ rules design edges n. down_stops design edges n rules;
  up_refused = λ rules design edges n. up_stops design edges n rules;
  down_unsolved = λ rules design edges n. down_none design edges n rules;
  up_unsolved = λ rules design edges n. up_none design edges n rules;
}
