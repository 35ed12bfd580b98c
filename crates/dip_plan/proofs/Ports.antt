-- The ports of a plan: by node, then by port, each at its edge.
use Rattle.std.proofs.Common.{◌≡◌, ℕ, zero, suc, ◌+◌, ◌<◌, Bool, true, false, cond, List, [], ◌∷◌, ◌++◌, take, Some, refl, subst, arith, ◌⊎◌, inl, inr}
use Rattle.std.specs.Prelude.{slice_get, All, AllPairs}
use Rattle.std.proofs.lemmas.List.Elements.{All-nil, All-cons, All-head, All-tail, All-append, All-weaker}
use Rattle.std.proofs.lemmas.List.Kept.{AllPairs-cons}
use Rattle.dip_lists.specs.First.{places}
use Rattle.dip_plan.proofs.Members.{pairs_none}
use Rattle.tl_edge.specs.declared.plan.PlanPort.{PlanPort}
use Rattle.dip_graph.specs.declared.design.NodeKind.{NodeKind}
use Rattle.dip_graph.specs.declared.design.NodeKind.TheVariants.{Source, Sink, Ruled}
use Rattle.dip_graph.specs.declared.design.NodeEntry.{NodeEntry}
use Rattle.dip_graph.specs.declared.edges.Edge.{Edge}
use Rattle.dip_graph.specs.Edges.{edges_to, edges_from}
use Rattle.dip_plan.specs.DesignPlans.{ports_on, source_ports, sink_ports, ports_from}
use Rattle.dip_stars.proofs.Sums.{hits}

-- ---- where a place stands

pub record IsAtPlace {A : Type 0} (test : A → Bool) (from : ℕ) (xs : List A) (place y : ℕ) : Type 0 where
  pub behind : ℕ
  pub item : A
  pub number : y ≡ from + behind
  pub is : slice_get xs behind ≡ Some item
  pub passes : test item ≡ true
  pub before : hits test (take behind xs) ≡ place

hits_more : {A : Type 0} (test : A → Bool) (x : A) (xs : List A) (b : Bool) (n : ℕ) → test x ≡ b → hits test xs ≡ n → hits test (x ∷ xs) ≡ cond b 1 0 + n
unfolding hits
hits_more test x xs b n q h = rw (q, h) refl

no_hits : {A : Type 0} (test : A → Bool) → hits test [] ≡ 0
unfolding hits
no_hits test = refl

further : {A : Type 0} (test : A → Bool) (from : ℕ) (x : A) (xs : List A) (b : Bool) (place y : ℕ) → test x ≡ b → IsAtPlace test (from + 1) xs place y → IsAtPlace test from (x ∷ xs) (cond b 1 0 + place) y
further test from x xs b place y q a = let n = a.number in record {
  behind = suc a.behind;
  item = a.item;
  number = omega arith;
  is = a.is;
  passes = a.passes;
  before = hits_more test x (take a.behind xs) b place q a.before;
}

pub at_place : {A : Type 0} (test : A → Bool) (from : ℕ) (xs : List A) (place y : ℕ) → slice_get (places (λ number x. test x) from xs) place ≡ Some y → IsAtPlace test from xs place y
at_place test from [] place y e = absurd cc
at_place {A} test from (x ∷ xs) place y e = at (test x) refl place e (λ p f. at_place test (from + 1) xs p y f)
  where
    at : (b : Bool) → test x ≡ b → (place : ℕ) → slice_get (cond b (from ∷ places (λ number z. test z) (from + 1) xs) (places (λ number z. test z) (from + 1) xs)) place ≡ Some y
        → ((p : ℕ) → slice_get (places (λ number z. test z) (from + 1) xs) p ≡ Some y → IsAtPlace test (from + 1) xs p y) → IsAtPlace test from (x ∷ xs) place y
    at true q zero e f = let s : from ≡ y = cc in record { behind = 0; item = x; number = omega arith; is = refl; passes = q; before = no_hits test }
    at true q (suc place) e f = let z : 1 + place ≡ suc place = omega arith in subst (λ p. IsAtPlace test from (x ∷ xs) p y) z (further test from x xs true place y q (f place e))
    at false q place e f = let z : 0 + place ≡ place = omega arith in subst (λ p. IsAtPlace test from (x ∷ xs) p y) z (further test from x xs false place y q (f place e))

-- ---- what holds of each node's ports holds of all

abbrev pub PortsOf : Type 0
PortsOf = List ℕ → ℕ → NodeKind → List Edge → List PlanPort

pub by_node : (P : PlanPort → Type 0) (ports : PortsOf) (edges : List Edge) (node : ℕ) (nodes : List NodeEntry)
    → ((k : ℕ) (entry : NodeEntry) → slice_get nodes k ≡ Some entry → All P (ports entry.name (node + k) entry.kind edges)) → All P (ports_from ports edges node nodes)
by_node P ports edges node [] each = All-nil P
by_node P ports edges node (entry ∷ nodes) each =
    All-append P (ports entry.name node entry.kind edges) (ports_from ports edges (node + 1) nodes)
    (subst (λ n. All P (ports entry.name n entry.kind edges)) here (each 0 entry refl))
    (by_node P ports edges (node + 1) nodes (λ k e is. subst (λ n. All P (ports e.name n e.kind edges)) (there k) (each (suc k) e is)))
  where
    here : node + 0 ≡ node
    here = omega arith

    there : (k : ℕ) → node + suc k ≡ node + 1 + k
    there k = omega arith

abbrev pub port_on : List ℕ → ℕ → ℕ → ℕ → PlanPort
port_on name node port edge = record { edge = edge; node = node; port = port; name = name }

pub by_place : (P : PlanPort → Type 0) (name : List ℕ) (node from : ℕ) (edges : List ℕ) → ((k edge : ℕ) → slice_get edges k ≡ Some edge → P (port_on name node (from + k) edge)) → All P (ports_on name node from edges)
by_place P name node from [] each = All-nil P
by_place P name node from (e ∷ edges) each =
    All-cons P (port_on name node from e) (ports_on name node (from + 1) edges)
    (subst (λ n. P (port_on name node n e)) here (each 0 e refl))
    (by_place P name node (from + 1) edges (λ k d is. subst (λ n. P (port_on name node n d)) (there k) (each (suc k) d is)))
  where
    here : from + 0 ≡ from
    here = omega arith

    there : (k : ℕ) → from + suc k ≡ from + 1 + k
    there k = omega arith

-- ---- ports in a row

abbrev pub IsBefore : PlanPort → PlanPort → Type 0
IsBefore a b = (a.node < b.node) ⊎ ((a.node ≡ b.node) × (a.port < b.port))

pub pairs_joined : {A : Type 0} (R : A → A → Type 0) (xs ys : List A) → AllPairs R xs → AllPairs R ys → All (λ x. All (R x) ys) xs → AllPairs R (xs ++ ys)
pairs_joined R [] ys p q r = q
pairs_joined R (x ∷ xs) ys p q r =
    AllPairs-cons R x (xs ++ ys)
    (All-append (R x) xs ys (λ k d l. p zero (suc k) d (omega arith) (omega arith)) (All-head (λ y. All (R y) ys) x xs r))
    (pairs_joined R xs ys (λ i j d l m. p (suc i) (suc j) d (omega arith) (omega arith)) q (All-tail (λ y. All (R y) ys) x xs r))

ports_rise : (name : List ℕ) (node from : ℕ) (edges : List ℕ) → AllPairs IsBefore (ports_on name node from edges)
ports_rise name node from [] = pairs_none IsBefore
ports_rise name node from (e ∷ edges) =
    AllPairs-cons IsBefore (port_on name node from e) (ports_on name node (from + 1) edges)
    (by_place (IsBefore (port_on name node from e)) name node (from + 1) edges (λ k d is. inr (refl, above k)))
    (ports_rise name node (from + 1) edges)
  where
    above : (k : ℕ) → from < from + 1 + k
    above k = omega arith

-- what the ports of one node keep
pub record KeepsOrder (ports : PortsOf) (edges : List Edge) : Type 0 where
  pub own : (name : List ℕ) (node : ℕ) (kind : NodeKind) → All (λ (port : PlanPort). port.node ≡ node) (ports name node kind edges)
  pub rise : (name : List ℕ) (node : ℕ) (kind : NodeKind) → AllPairs IsBefore (ports name node kind edges)

pub in_order : (ports : PortsOf) (edges : List Edge) → KeepsOrder ports edges → (node : ℕ) (nodes : List NodeEntry) → AllPairs IsBefore (ports_from ports edges node nodes)
in_order ports edges k node [] = pairs_none IsBefore
in_order ports edges k node (entry ∷ nodes) =
    pairs_joined IsBefore (ports entry.name node entry.kind edges) (ports_from ports edges (node + 1) nodes)
    (k.rise entry.name node entry.kind) (in_order ports edges k (node + 1) nodes)
    (All-weaker (λ (port : PlanPort). port.node ≡ node) (λ (port : PlanPort). All (IsBefore port) (ports_from ports edges (node + 1) nodes)) later (ports entry.name node entry.kind edges) (k.own entry.name node entry.kind))
  where
    later : (port : PlanPort) → port.node ≡ node → All (IsBefore port) (ports_from ports edges (node + 1) nodes)
    later port e = by_node (IsBefore port) ports edges (node + 1) nodes (λ i entry is.
        All-weaker (λ (other : PlanPort). other.node ≡ node + 1 + i) (IsBefore port) (λ other f. let l : port.node < other.node = omega (arith, e, f) in inl l)
        (ports entry.name (node + 1 + i) entry.kind edges) (k.own entry.name (node + 1 + i) entry.kind))

own_ports : (name : List ℕ) (node : ℕ) (edges : List ℕ) → All (λ (port : PlanPort). port.node ≡ node) (ports_on name node 0 edges)
own_ports name node edges = by_place (λ (port : PlanPort). port.node ≡ node) name node 0 edges (λ k e is. refl)

pub sources_keep : (edges : List Edge) → KeepsOrder source_ports edges
sources_keep edges = record { own = own; rise = rise }
  where
    own : (name : List ℕ) (node : ℕ) (kind : NodeKind) → All (λ (port : PlanPort). port.node ≡ node) (source_ports name node kind edges)
    own name node (Source ports ids emits) = own_ports name node (edges_from node edges)
    own name node (Sink beat ports supports) = All-nil (λ (port : PlanPort). port.node ≡ node)
    own name node (Ruled kind args) = All-nil (λ (port : PlanPort). port.node ≡ node)

    rise : (name : List ℕ) (node : ℕ) (kind : NodeKind) → AllPairs IsBefore (source_ports name node kind edges)
    rise name node (Source ports ids emits) = ports_rise name node 0 (edges_from node edges)
    rise name node (Sink beat ports supports) = pairs_none IsBefore
    rise name node (Ruled kind args) = pairs_none IsBefore

pub sinks_keep : (edges : List Edge) → KeepsOrder sink_ports edges
sinks_keep edges = record { own = own; rise = rise }
  where
    own : (name : List ℕ) (node : ℕ) (kind : NodeKind) → All (λ (port : PlanPort). port.node ≡ node) (sink_ports name node kind edges)
    own name node (Source ports ids emits) = All-nil (λ (port : PlanPort). port.node ≡ node)
    own name node (Sink beat ports supports) = own_ports name node (edges_to node edges)
    own name node (Ruled kind args) = All-nil (λ (port : PlanPort). port.node ≡ node)

    rise : (name : List ℕ) (node : ℕ) (kind : NodeKind) → AllPairs IsBefore (sink_ports name node kind edges)
    rise name node (Source ports ids emits) = pairs_none IsBefore
    rise name node (Sink beat ports supports) = ports_rise name node 0 (edges_to node edges)
    rise name node (Ruled kind args) = pairs_none IsBefore
