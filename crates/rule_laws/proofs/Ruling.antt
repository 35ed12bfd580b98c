-- The ends of the edges of a design whose graph passes, and what is asked there.
use Rattle.std.proofs.Common.{◌≡◌, ℕ, suc, ◌+◌, ◌<◌, ◌≤◌, Bool, true, false, cond, List, [], ◌∷◌, length, take, Option, Some, None, refl, sym, ap, ◌∙◌, subst, arith, ◌⊎◌, inl, inr}
use Rattle.std.specs.Prelude.{slice_get, All, is_none}
use Rattle.std.specs.Option.{option_map, option_map_or}
use Rattle.std.proofs.lemmas.Bool.{eqb-true, eq-eqb}
use Rattle.std.proofs.lemmas.Option.{get_or_from_slice_get, slice_get_within}
use Rattle.dip_lists.specs.First.{first, places}
use Rattle.dip_lists.proofs.Tests.{neither}
use Rattle.tl_params.specs.Operations.{is_nexus}
use Rattle.tl_params.specs.declared.ops.Template.{Template}
use Rattle.tl_params.specs.declared.ops.Ops.{Ops}
use Rattle.dip_sets.specs.Sets.{Pattern}
use Rattle.dip_graph.specs.Edges.{FollowsBind, HasNodes, edges_to, edges_from}
use Rattle.dip_graph.specs.Kinds.{kind_at, is_sink, is_source, ruled_kind_at}
use Rattle.dip_graph.specs.declared.design.NodeKind.{NodeKind}
use Rattle.dip_graph.specs.declared.design.NodeKind.TheVariants.{Source, Sink, Ruled}
use Rattle.dip_graph.specs.declared.design.NodeEntry.{NodeEntry}
use Rattle.dip_graph.specs.declared.design.Design.{Design}
use Rattle.dip_graph.specs.declared.edges.Edge.{Edge}
use Rattle.dip_rule.specs.Stated.{StatedRule, rule_of, template_of, is_nexus_kind}
use Rattle.dip_stars.specs.Filled.{HasItsEdges, HasBothSides}
use Rattle.dip_stars.proofs.Follow.{each_follows}
use Rattle.dip_stars.proofs.Sums.{placed_length, each_has_its_edges, each_has_its_ports}
use Rattle.dip_negotiate.specs.declared.steps.End.{End}
use Rattle.dip_negotiate.specs.Passes.{beside, picked}
use Rattle.dip_negotiate.specs.Places.{source_end, sink_end}
use Rattle.dip_negotiate.specs.Negotiation.{IsNegotiable}
use Rattle.dip_negotiate.specs.Demands.{IsOneOf}
use Rattle.dip_checks.specs.Checks.{kind_is_unruled, bind_is_turned, edges_in}
use Rattle.rule_laws.specs.RuleRefusals.{IsSeenTogether}
use Rattle.rule_laws.proofs.Earlier.{GraphPasses, item_at, none_pass}
use Rattle.rule_laws.proofs.Pairing.{AreNumbered, at_adapter, at_nexus, at_node, here, joined, place_of_edge}

-- ---- edges numbered at a node

module _ (side : Edge → End) (node : ℕ) where
  same_length : (from other : ℕ) (edges : List Edge) → length (here side node from edges) ≡ length (here side node other edges)
  same_length from other edges = placed_length (at_node side node) from edges ∙ sym (placed_length (at_node side node) other edges)

  numbered : (port : ℕ) (edges : List Edge)
      → ((number : ℕ) (edge : Edge) → slice_get edges number ≡ Some edge → at_node side node edge ≡ true → (side edge).port ≡ port + length (here side node 0 (take number edges)))
      → AreNumbered side node port edges
  numbered port [] h = tt
  numbered port (e ∷ edges) h = (
    (λ q. let z = h 0 e refl q in omega arith),
    numbered (cond (at_node side node e) (port + 1) port) edges (λ number edge is q. h (suc number) edge is q ∙ shifted (at_node side node e) (take number edges)),
  )
    where
      shifted : (b : Bool) (rest : List Edge) → port + length (cond b (0 ∷ here side node 1 rest) (here side node 1 rest)) ≡ cond b (port + 1) port + length (here side node 0 rest)
      shifted true rest = let l = same_length 1 0 rest in omega arith
      shifted false rest = let l = same_length 1 0 rest in omega arith

-- ---- what is picked of ports

pub places_within : {A : Type 0} (test : ℕ → A → Bool) (from : ℕ) (xs : List A) (y : ℕ) → IsOneOf y (places test from xs) → y < from + length xs
places_within test from [] y h = absurd h
places_within test from (x ∷ xs) y h = at (test from x) h (λ i. places_within test (from + 1) xs y i)
  where
    at : (b : Bool) → IsOneOf y (cond b (from ∷ places test (from + 1) xs) (places test (from + 1) xs)) → (IsOneOf y (places test (from + 1) xs) → y < from + 1 + length xs) → y < from + suc (length xs)
    at true (inl e) f = omega (arith, e)
    at true (inr i) f = let l = f i in omega arith
    at false i f = let l = f i in omega arith

pub picked_length : {P : Type 0} (ports : List P) (numbers : List ℕ) → ((y : ℕ) → IsOneOf y numbers → y < length ports) → length (picked ports numbers) ≡ length numbers
picked_length ports [] h = refl
picked_length ports (y ∷ numbers) h =
    let p = item_at ports y (h y (inl refl)) in
    let l = picked_length ports numbers (λ z i. h z (inr i)) in
    ap (λ o. length (beside o (picked ports numbers))) p.1 ∙ ap suc l

-- ---- a node with a rule

-- a node of the design that is of a kind with a rule, with its edges
pub record IsRuled (rules : List StatedRule) (nodes : List NodeEntry) (edges : List Edge) (node : ℕ) : Type 0 where
  pub entry : NodeEntry
  pub name : List ℕ
  pub args : List ℕ
  pub rule : StatedRule
  pub is : slice_get nodes node ≡ Some entry
  pub kind : entry.kind ≡ Ruled name args
  pub found : rule_of rules name ≡ Some rule
  pub sides : HasBothSides (is_nexus rule.template) (length (edges_to node edges)) (length (edges_from node edges))

pub known_kind : (nodes : List NodeEntry) (node : ℕ) (entry : NodeEntry) (kind : NodeKind) → slice_get nodes node ≡ Some entry → entry.kind ≡ kind → kind_at nodes node ≡ Some kind
known_kind nodes node entry kind is k = ap (option_map (λ m. m.kind)) is ∙ ap Some k

pub nexus_is : (rules : List StatedRule) (nodes : List NodeEntry) (edges : List Edge) (node : ℕ) (r : IsRuled rules nodes edges node)
    → is_nexus_kind rules (ruled_kind_at nodes node) ≡ is_nexus r.rule.template
nexus_is rules nodes edges node r = rw (known_kind nodes node r.entry (Ruled r.name r.args) r.is r.kind, r.found) refl

-- an edge from a node: of a source, or of a ruled node
abbrev pub BeginsAt : List StatedRule → List NodeEntry → List Edge → Edge → Type 0
BeginsAt rules nodes edges edge =
    ((entry : NodeEntry) × (ports : ℕ) × (ids : ℕ) × (emits : Ops) × (slice_get nodes edge.from ≡ Some entry) × (entry.kind ≡ Source ports ids emits)) ⊎ IsRuled rules nodes edges edge.from

abbrev pub EndsAt : List StatedRule → List NodeEntry → List Edge → Edge → Type 0
EndsAt rules nodes edges edge =
    ((entry : NodeEntry) × (beat : ℕ) × (ports : List (List Pattern)) × (supports : Ops) × (slice_get nodes edge.to ≡ Some entry) × (entry.kind ≡ Sink beat ports supports)) ⊎ IsRuled rules nodes edges edge.to

some_is : {A : Type 0} (o : Option A) → is_none o ≡ false → (x : A) × (o ≡ Some x)
some_is None h = absurd cc
some_is (Some x) h = (x, refl)

never : true ≡ false → ⊥
never z = cc

module _ (rules : List StatedRule) (design : Design) (named : All (HasNodes design.nodes) design.binds) (g : GraphPasses rules design) where
  abbrev edges : List Edge
  edges = edges_in rules design

  pub negotiable : IsNegotiable design (edges_in rules design)
  negotiable = record { acyclic = ap first g.acyclic; named = named; made = each_follows rules design }

  follows : (k : ℕ) (edge : Edge) → slice_get edges k ≡ Some edge → FollowsBind design.binds edge
  follows k edge e = subst (λ (d : Edge). FollowsBind design.binds d) (get_or_from_slice_get edges k edge edge e) (each_follows rules design k edge (slice_get_within edges k edge e))

  nodes_exist : (k : ℕ) (edge : Edge) → slice_get edges k ≡ Some edge → (edge.to < length design.nodes) × (edge.from < length design.nodes)
  nodes_exist k edge e =
      let f = follows k edge e in
      let h = subst (λ b. HasNodes design.nodes b) (get_or_from_slice_get design.binds edge.bind f.made_by f.made_by f.is) (named edge.bind f.made_by (slice_get_within design.binds edge.bind f.made_by f.is)) in
      (subst (λ m. m < length design.nodes) (sym f.to) h.0, subst (λ m. m < length design.nodes) (sym f.from) h.1)

  straight : (k : ℕ) (edge : Edge) → slice_get edges k ≡ Some edge → (option_map_or is_sink (kind_at design.nodes edge.from) false ≡ false) × (option_map_or is_source (kind_at design.nodes edge.to) false ≡ false)
  straight k edge is =
      let b = follows k edge is in
      let t = none_pass (λ number b. bind_is_turned design.nodes b) 0 design.binds edge.bind b.made_by g.turned b.is in
      let p = neither (option_map_or is_sink (kind_at design.nodes b.made_by.from) false) (option_map_or is_source (kind_at design.nodes b.made_by.to) false) t in
      (ap (λ m. option_map_or is_sink (kind_at design.nodes m) false) b.from ∙ p.0, ap (λ m. option_map_or is_source (kind_at design.nodes m) false) b.to ∙ p.1)

  -- a node with a kind has a rule, and edges on both sides
  pub ruled : (node : ℕ) (entry : NodeEntry) (name args : List ℕ) → slice_get design.nodes node ≡ Some entry → entry.kind ≡ Ruled name args → IsRuled rules design.nodes (edges_in rules design) node
  ruled node entry name args is k =
      let z : 0 + node ≡ node = omega arith in
      let u = none_pass (λ number node. kind_is_unruled rules node.kind) 0 design.nodes node entry g.unruled is in
      let t = some_is (template_of rules name) (subst (λ kind. kind_is_unruled rules kind ≡ false) k u) in
      at t.0 (rule_of rules name) refl t.1
    where
      at : (template : Template) (o : Option StatedRule) → rule_of rules name ≡ o → option_map (λ rule. rule.template) o ≡ Some template → IsRuled rules design.nodes edges node
      at template None q e = absurd cc
      at template (Some rule) q e =
          let h : HasItsEdges rules edges node (Ruled name args) = subst (λ kind. HasItsEdges rules edges node kind) k (each_has_its_edges rules design named (ap first g.filled) node entry is) in
          let nexus : is_nexus_kind rules (Some name) ≡ is_nexus rule.template = rw q refl in
          record {
            entry = entry;
            name = name;
            args = args;
            rule = rule;
            is = is;
            kind = k;
            found = q;
            sides = subst (λ b. HasBothSides b (length (edges_to node edges)) (length (edges_from node edges))) nexus h;
          }

  pub begins : (k : ℕ) (edge : Edge) → slice_get (edges_in rules design) k ≡ Some edge → BeginsAt rules design.nodes (edges_in rules design) edge
  begins k edge is =
      let e = item_at design.nodes edge.from (nodes_exist k edge is).1 in
      at e.0 e.1 e.0.kind refl
    where
      at : (entry : NodeEntry) → slice_get design.nodes edge.from ≡ Some entry → (kind : NodeKind) → entry.kind ≡ kind → BeginsAt rules design.nodes edges edge
      at entry i (Source ports ids emits) q = inl (entry, ports, ids, emits, i, q)
      at entry i (Sink beat ports supports) q =
          absurd (never (sym (ap (λ o. option_map_or is_sink o false) (known_kind design.nodes edge.from entry (Sink beat ports supports) i q)) ∙ (straight k edge is).0))
      at entry i (Ruled name args) q = inr (ruled edge.from entry name args i q)

  pub ends : (k : ℕ) (edge : Edge) → slice_get (edges_in rules design) k ≡ Some edge → EndsAt rules design.nodes (edges_in rules design) edge
  ends k edge is =
      let e = item_at design.nodes edge.to (nodes_exist k edge is).0 in
      at e.0 e.1 e.0.kind refl
    where
      at : (entry : NodeEntry) → slice_get design.nodes edge.to ≡ Some entry → (kind : NodeKind) → entry.kind ≡ kind → EndsAt rules design.nodes edges edge
      at entry i (Source ports ids emits) q =
          absurd (never (sym (ap (λ o. option_map_or is_source o false) (known_kind design.nodes edge.to entry (Source ports ids emits) i q)) ∙ (straight k edge is).1))
      at entry i (Sink beat ports supports) q = inl (entry, beat, ports, supports, i, q)
      at entry i (Ruled name args) q = inr (ruled edge.to entry name args i q)

  pub numbered_to : (node : ℕ) → AreNumbered sink_end node 0 (edges_in rules design)
  numbered_to node = numbered sink_end node 0 edges (λ number edge is q.
      let p = (each_has_its_ports rules design number edge is).to in
      let t : edge.to ≡ node = eqb-true edge.to node q in
      p ∙ ap (λ n. length (edges_to n (take number edges))) t ∙ zero_on _)
    where
      zero_on : (n : ℕ) → n ≡ 0 + n
      zero_on n = omega arith

  pub numbered_from : (node : ℕ) → AreNumbered source_end node 0 (edges_in rules design)
  numbered_from node = numbered source_end node 0 edges (λ number edge is q.
      let p = (each_has_its_ports rules design number edge is).from in
      let t : edge.from ≡ node = eqb-true edge.from node q in
      p ∙ ap (λ n. length (edges_from n (take number edges))) t ∙ zero_on _)
    where
      zero_on : (n : ℕ) → n ≡ 0 + n
      zero_on n = omega arith

-- ---- what is asked at a node

-- an edge at a node that isn't a nexus asks the one at the same place on the other side
pub record AsksOne (near far : Edge → End) (node : ℕ) (edges : List Edge) (k : ℕ) (edge : Edge) : Type 0 where
  pub place : ℕ
  pub other : ℕ
  pub port : (near edge).port ≡ place
  pub near_is : slice_get (here near node 0 edges) place ≡ Some k
  pub far_is : slice_get (here far node 0 edges) place ≡ Some other
  pub asks : joined far node false (near edge) 0 edges ≡ other ∷ []

module _ (near far : Edge → End) (node : ℕ) (edges : List Edge) (near_numbered : AreNumbered near node 0 edges) (far_numbered : AreNumbered far node 0 edges)
    (k : ℕ) (edge : Edge) (is : slice_get edges k ≡ Some edge) (at : (near edge).node ≡ node) where
  pub asks_one : length (here far node 0 edges) ≡ length (here near node 0 edges) → AsksOne near far node edges k edge
  asks_one same =
      let p = place_of_edge near node 0 0 edges near_numbered k edge is (eq-eqb (near edge).node node at) in
      let z : 0 + k ≡ k = omega arith in
      let within : p.0 < length (here near node 0 edges) = slice_get_within (here near node 0 edges) p.0 (0 + k) p.2 in
      let other = item_at (here far node 0 edges) p.0 (subst (λ n. p.0 < n) (sym same) within) in
      record {
        place = p.0;
        other = other.0;
        port = p.1 ∙ from_none p.0;
        near_is = p.2 ∙ ap Some z;
        far_is = other.1;
        asks = at_adapter far node (near edge) at 0 p.0 0 edges far_numbered p.1 ∙ ap (λ o. beside o []) other.1;
      }
    where
      from_none : (n : ℕ) → 0 + n ≡ n
      from_none n = omega arith

  -- what is asked is a side of the node
  pub asks_side : (nexus : Bool) → (nexus ≡ true → 1 ≤ length (here far node 0 edges)) → (nexus ≡ false → length (here far node 0 edges) ≡ length (here near node 0 edges))
      → IsSeenTogether nexus (length (joined far node nexus (near edge) 0 edges))
  asks_side true some same = subst (λ n. 1 ≤ n) (sym (ap length (at_nexus far node (near edge) at 0 edges))) (some refl)
  asks_side false some same = ap length (asks_one (same refl)).asks

pub sides_down : (nexus : Bool) (ins outs : ℕ) → HasBothSides nexus ins outs → ((nexus ≡ true → 1 ≤ ins) × (nexus ≡ false → ins ≡ outs))
sides_down true ins outs h = ((λ e. h.0), (λ e. absurd cc))
sides_down false ins outs h = ((λ e. absurd cc), (λ e. h.0))

pub sides_up : (nexus : Bool) (ins outs : ℕ) → HasBothSides nexus ins outs → ((nexus ≡ true → 1 ≤ outs) × (nexus ≡ false → outs ≡ ins))
sides_up true ins outs h = ((λ e. h.1), (λ e. absurd cc))
sides_up false ins outs h = ((λ e. absurd cc), (λ e. sym h.0))

pub some_out : (nexus : Bool) (ins outs : ℕ) → HasBothSides nexus ins outs → 1 ≤ outs
some_out true ins outs h = h.1
some_out false ins outs h = let a = h.0 in let b = h.1 in omega arith

-- what is asked of ports of all edges has as many
pub asked_length : {P : Type 0} (nexus : Bool) (far : Edge → End) (node : ℕ) (own : End) (edges : List Edge) (ports : List P) → length ports ≡ length edges
    → length (picked ports (joined far node nexus own 0 edges)) ≡ length (joined far node nexus own 0 edges)
asked_length nexus far node own edges ports long =
    picked_length ports (joined far node nexus own 0 edges) (λ y i.
    let l = places_within _ 0 edges y i in
    subst (λ n. y < n) (sym long) (less y l))
  where
    less : (y : ℕ) → y < 0 + length edges → y < length edges
    less y l = omega arith
