-- The plan of a design whose checks pass is sound.
use Rattle.std.proofs.Common.{◌≡◌, ℕ, zero, suc, ◌+◌, ◌<◌, ◌≤◌, Bool, true, false, ◌&&◌, ◌||◌, ◌==◌, List, [], ◌∷◌, ◌++◌, length, take, get_or, IsTrue, nat_le, Option, Some, None, Result, Ok, refl, sym, ap, ◌∙◌, subst, arith, ◌⊎◌, inl, inr}
use Rattle.std.specs.Prelude.{slice_get, unwrap_or, All, AllPairs, nat_lt}
use Rattle.std.specs.List.{list_any, flat_map}
use Rattle.std.specs.Option.{option_map}
use Rattle.std.proofs.lemmas.Bool.{eqb-true, leb-true, cases_eq}
use Rattle.std.proofs.lemmas.Bool.Decides.{nat_tests}
use Rattle.std.proofs.lemmas.Option.{get_or_from_slice_get, slice_get_within}
use Rattle.std.proofs.lemmas.List.Elements.{All-nil, All-cons, All-head, All-tail, All-append, All-weaker}
use Rattle.dip_lists.specs.First.{places, first_failing}
use Rattle.dip_checks.specs.declared.agreed.Agreed.{Agreed}
use Rattle.dip_sets.specs.Sets.{Pattern, IsSet, Disjoint, alignment}
use Rattle.dip_sets.specs.SizeRanges.{SizeRange, is_size_range, is_size_pair, is_within}
use Rattle.tl_params.specs.declared.ops.Op.TheVariants.{PutFull, PutPartial, Arithmetic, Logical, Get, Intent}
use Rattle.tl_params.specs.declared.ops.Ops.{Ops}
use Rattle.tl_params.specs.declared.ports.Master.{Master}
use Rattle.tl_params.specs.declared.ports.Slave.{Slave}
use Rattle.tl_params.specs.declared.ports.DownPort.{DownPort}
use Rattle.tl_params.specs.declared.ports.UpPort.{UpPort}
use Rattle.tl_params.specs.Operations.{largest}
use Rattle.tl_params.specs.Owners.{largest_end}
use Rattle.tl_params.specs.Arguments.{is_width}
use Rattle.tl_params.specs.Carried.{all_zip, is_same_set, is_same_slave, ops_fit, slave_fits}
use Rattle.tl_edge.specs.declared.plan.Leaf.{Leaf}
use Rattle.tl_edge.specs.declared.plan.PlanEdge.{PlanEdge}
use Rattle.tl_edge.specs.declared.plan.PlanPort.{PlanPort}
use Rattle.tl_edge.specs.declared.plan.Plan.{Plan}
use Rattle.tl_edge.specs.Plans.{edge_at, no_edge, bus_width, port_edges, given_edges, taken_edges, times, NoneReturns}
use Rattle.tl_params.specs.Owners.{sets_of}
use Rattle.tl_params.specs.Aligned.{IsAligned}
use Rattle.tl_edge.specs.SoundPlans.{IsSmall, HasRanges, IsSoundEdge, IsItsSlave, AreApart, IsShort, HasShape, Carries, MovesIds, IsSound}
use Rattle.tl_edge.specs.Plans.{ins_of, outs_of}
use Rattle.tl_rules.specs.Fits.{port_down, port_up}
use Rattle.dip_graph.specs.Kinds.{kind_at}
use Rattle.dip_graph.specs.declared.design.NodeKind.{NodeKind}
use Rattle.dip_graph.specs.declared.design.NodeKind.TheVariants.{Source, Sink, Ruled}
use Rattle.dip_graph.specs.declared.design.NodeEntry.{NodeEntry}
use Rattle.dip_graph.specs.declared.design.Design.{Design}
use Rattle.dip_graph.specs.declared.edges.Edge.{Edge}
use Rattle.dip_rule.specs.Stated.{StatedRule}
use Rattle.dip_negotiate.specs.declared.solution.Solution.{Solution}
use Rattle.dip_negotiate.specs.Passes.{picked}
use Rattle.dip_negotiate.specs.Places.{asked, source_end, sink_end}
use Rattle.dip_graph.specs.Edges.{HasNodes}
use Rattle.dip_negotiate.specs.Negotiation.{addresses_at, sink_port, source_port}
use Rattle.dip_negotiate.specs.Negotiation.{up_at as stated_up, down_at as stated_down}
use Rattle.tl_owners.proofs.Members.{In}
use Rattle.dip_graph.specs.Edges.{edges_to, edges_from}
use Rattle.dip_checks.specs.Checks.{has_wrong_ids, share_ids, masters_are_wrong, slave_is_misaligned, edge_is_misaligned, edges_in, solution_of, design_checks, agreed_of}
use Rattle.tl_params.specs.Owners.{sets_of as all_sets}
use Rattle.tl_params.specs.Apart.{HasDisjointSets}
use Rattle.dip_plan.specs.DesignPlans.{kind_leaves, source_ports, sink_ports, plan_edge, plan_edges, plan_of}
use Rattle.dip_stars.specs.Filled.{HasItsEdges}
use Rattle.dip_graph.specs.WellStated.{IsStatedPort, IsStatedKind, IsStatedNode, IsWellStated}
use Rattle.dip_plan.proofs.Judged.{IsJudged}
use Rattle.tl_owners.proofs.SoundLeaves.{IsSoundLeaf}
use Rattle.dip_plan.specs.SoundLaw.{HasSizes, SoundPlanLaw}
use Rattle.dip_plan.proofs.Members.{place_is}
use Rattle.dip_plan.proofs.Parts as parts
use Rattle.dip_plan.proofs.Ranks.{acyclic, nodes_exist}
use Rattle.dip_plan.proofs.Once.{once}
use Rattle.dip_stars.proofs.Sums.{hits, placed_length}
use Rattle.dip_plan.proofs.Passed.{judged}
use Rattle.dip_plan.proofs.Leaves.{at_number, leaf_law}
use Rattle.tl_owners.proofs.Members.{all_in, item_has}
use Rattle.tl_owners.proofs.Upward.{slaves_upward, widths_upward}
use Rattle.dip_plan.proofs.Ports.{at_place, by_node, by_place, IsBefore, pairs_joined, in_order, sources_keep, sinks_keep}

both : (a b : Bool) → (a && b) ≡ true → (a ≡ true) × (b ≡ true)
both true true h = (refl, refl)
both true false h = absurd cc
both false b h = absurd cc

either : (a b : Bool) → (a || b) ≡ true → (a ≡ true) ⊎ (b ≡ true)
either true b h = inl refl
either false b h = inr h

neither : (a b : Bool) → (a || b) ≡ false → (a ≡ false) × (b ≡ false)
neither true b h = absurd cc
neither false b h = (refl, h)

any_none : {A : Type 0} (p : A → Bool) (xs : List A) → list_any p xs ≡ false → All (λ x. p x ≡ false) xs
any_none p [] h = All-nil (λ x. p x ≡ false)
any_none p (x ∷ xs) h = let n = neither (p x) (list_any p xs) h in All-cons (λ y. p y ≡ false) x xs n.0 (any_none p xs n.1)

not_le : (a b : ℕ) → nat_le a b ≡ false → b < a
not_le a b h = grind (arith, nat_tests)

not_lt : (a b : ℕ) → nat_lt a b ≡ false → b ≤ a
not_lt a b h = grind (arith, nat_tests)

-- ---- the ids of an edge

few_ends : (ms : List Master) → list_any has_wrong_ids ms ≡ false → largest_end ms ≤ 1024
few_ends [] h = omega arith
few_ends (m ∷ ms) h =
    let n = neither (has_wrong_ids m) (list_any has_wrong_ids ms) h in
    let e = not_lt 1024 m.ids.end (neither (nat_le m.ids.end m.ids.start) (nat_lt 1024 m.ids.end) n.0).1 in
    let r = few_ends ms n.1 in
    omega arith

some_end : (ms : List Master) → (length ms == 0) ≡ false → list_any has_wrong_ids ms ≡ false → 1 ≤ largest_end ms
some_end [] l h = absurd cc
some_end (m ∷ ms) l h =
    let n = neither (has_wrong_ids m) (list_any has_wrong_ids ms) h in
    let e = not_le m.ids.end m.ids.start (neither (nat_le m.ids.end m.ids.start) (nat_lt 1024 m.ids.end) n.0).0 in
    omega arith

record HasIds (down : DownPort) : Type 0 where
  some : 1 ≤ largest_end down.masters
  few : largest_end down.masters ≤ 1024

has_ids : (down : DownPort) → masters_are_wrong down.masters ≡ false → HasIds down
has_ids down h =
    let a = neither ((length down.masters == 0) || list_any has_wrong_ids down.masters) (share_ids down.masters) h in
    let b = neither (length down.masters == 0) (list_any has_wrong_ids down.masters) a.0 in
    record { some = some_end down.masters b.0 b.1; few = few_ends down.masters b.1 }

-- ---- the slaves of an edge

same_set : (s t : Pattern) → is_same_set s t ≡ true → s ≡ t
same_set s t h =
    let b = both (s.base == t.base) (s.mask == t.mask) h in
    let base = eqb-true s.base t.base b.0 in
    let mask = eqb-true s.mask t.mask b.1 in
    ap (λ x. record { base = x; mask = s.mask }) base ∙ ap (λ m. record { base = t.base; mask = m }) mask

pub same_sets : (ss ts : List Pattern) → all_zip is_same_set ss ts ≡ true → ss ≡ ts
same_sets [] [] h = refl
same_sets [] (t ∷ ts) h = absurd cc
same_sets (s ∷ ss) [] h = absurd cc
same_sets (s ∷ ss) (t ∷ ts) h =
    let b = both (is_same_set s t) (all_zip is_same_set ss ts) h in
    ap (λ x. x ∷ ss) (same_set s t b.0) ∙ ap (λ xs. t ∷ xs) (same_sets ss ts b.1)

-- what is told of the slaves at the sinks, and goes up all edges
record IsFounded (slave : Slave) : Type 0 where
  some : 1 ≤ length slave.addresses
  sets : All IsSet slave.addresses
  arithmetic : slave.supports.arithmetic.max ≤ 8
  logical : slave.supports.logical.max ≤ 8

within_eight : (s t : SizeRange) → is_within s t ≡ true → t.max ≤ 8 → s.max ≤ 8
within_eight s t h l = elim (either (s.max == 0) (nat_le t.min s.min && nat_le s.max t.max) h) [
  | inl q ↦ let e = eqb-true s.max 0 q in omega arith
  | inr q ↦ let e = leb-true s.max t.max (both (nat_le t.min s.min) (nat_le s.max t.max) q).1 in omega arith
]

stays_founded : (pieces : Option SizeRange) (s t : Slave) → slave_fits pieces s t ≡ true → IsFounded t → IsFounded s
stays_founded pieces s t h f =
    let b = both (is_same_slave s t) (ops_fit pieces s.supports t.supports) h in
    let sets = same_sets s.addresses t.addresses (both (s.node == t.node && s.port == t.port) (all_zip is_same_set s.addresses t.addresses) b.0).1 in
    let c = both _ (is_within s.supports.intent t.supports.intent) b.1 in
    let d = both _ (is_within s.supports.logical t.supports.logical) c.0 in
    let e = both _ (is_within s.supports.arithmetic t.supports.arithmetic) d.0 in
    record {
      some = subst (λ xs. 1 ≤ length xs) (sym sets) f.some;
      sets = subst (λ xs. All IsSet xs) (sym sets) f.sets;
      arithmetic = within_eight s.supports.arithmetic t.supports.arithmetic e.1 f.arithmetic;
      logical = within_eight s.supports.logical t.supports.logical d.1 f.logical;
    }

range_max : (s : SizeRange) → is_size_range s ≡ true → s.max ≤ 256
range_max s h = elim (either (s.min == 0 && s.max == 0) (is_size_pair s.min s.max) h) [
  | inl q ↦ let e = eqb-true s.max 0 (both (s.min == 0) (s.max == 0) q).1 in omega arith
  | inr q ↦ leb-true s.max 256 (both _ (nat_le s.max 256) q).1
]

small_transfers : (slave : Slave) → HasRanges slave → largest slave.supports ≤ 256
small_transfers slave h =
    let a = range_max slave.supports.get (h Get) in
    let b = range_max slave.supports.put_full (h PutFull) in
    let c = range_max slave.supports.put_partial (h PutPartial) in
    let d = range_max slave.supports.arithmetic (h Arithmetic) in
    let e = range_max slave.supports.logical (h Logical) in
    let f = range_max slave.supports.intent (h Intent) in
    omega arith

all_small : (slaves : List Slave) → All HasRanges slaves → All IsFounded slaves → All IsSmall slaves
all_small slaves r f k d l = record { all = small_transfers (get_or slaves k d) (r k d l); arithmetic = (f k d l).arithmetic; logical = (f k d l).logical }

pub joined_sets : (slaves : List Slave) → all_sets slaves ≡ sets_of slaves
joined_sets [] = refl
joined_sets (s ∷ slaves) = ap (λ xs. s.addresses ++ xs) (joined_sets slaves)

slave_aligned : (slave : Slave) → slave_is_misaligned slave ≡ false → IsAligned slave
slave_aligned slave h =
    All-weaker (λ s. nat_lt (alignment s) (largest slave.supports) ≡ false) (λ s. largest slave.supports ≤ alignment s) (λ s g. not_lt (alignment s) (largest slave.supports) g) slave.addresses
    (any_none (λ s. nat_lt (alignment s) (largest slave.supports)) slave.addresses h)

edge_aligned : (up : UpPort) → edge_is_misaligned up ≡ false → All IsAligned up.slaves
edge_aligned up h = All-weaker (λ s. slave_is_misaligned s ≡ false) IsAligned slave_aligned up.slaves (any_none slave_is_misaligned up.slaves h)

-- ---- lists by places

at_default : {A : Type 0} (P : A → Type 0) (xs : List A) (dflt : A) (x : ℕ) → All P xs → x < length xs → P (unwrap_or (slice_get xs x) dflt)
at_default P [] dflt x h l = absurd (omega arith)
at_default P (y ∷ xs) dflt zero h l = All-head P y xs h
at_default P (y ∷ xs) dflt (suc x) h l = at_default P xs dflt x (All-tail P y xs h) (omega arith)

by_number : {A : Type 0} (P : A → Type 0) (xs : List A) (dflt : A) → ((x : ℕ) → x < length xs → P (unwrap_or (slice_get xs x) dflt)) → All P xs
by_number P [] dflt h = All-nil P
by_number P (y ∷ xs) dflt h = All-cons P y xs (h 0 (omega arith)) (by_number P xs dflt (λ x l. h (suc x) (omega arith)))

zipped : (downs : List DownPort) (ups : List UpPort) → length downs ≡ length ups → length (plan_edges downs ups) ≡ length ups
zipped [] [] h = refl
zipped [] (u ∷ ups) h = absurd (omega (arith, h))
zipped (d ∷ downs) [] h = absurd (omega (arith, h))
zipped (d ∷ downs) (u ∷ ups) h = let z = zipped downs ups (omega (arith, h)) in omega arith

all_flat : {A : Type 0} (P : ℕ → Type 0) (f : A → List ℕ) (xs : List A) → All (λ x. All P (f x)) xs → All P (flat_map f xs)
all_flat P f [] h = All-nil P
all_flat P f (x ∷ xs) h = All-append P (f x) (flat_map f xs) (All-head (λ y. All P (f y)) x xs h) (all_flat P f xs (All-tail (λ y. All P (f y)) x xs h))

all_ports : (P : ℕ → Type 0) (ports : List PlanPort) → All (λ (port : PlanPort). P port.edge) ports → All P (port_edges ports)
all_ports P [] h = All-nil P
all_ports P (p ∷ ports) h = All-cons P p.edge (port_edges ports) (All-head (λ (port : PlanPort). P port.edge) p ports h) (all_ports P ports (All-tail (λ (port : PlanPort). P port.edge) p ports h))

same_ok : {P E : Type 0} (x y : P) → ◌≡◌ {A = Result P E} (Ok x) (Ok y) → x ≡ y
same_ok x y e = cc

same_node : (nodes : List NodeEntry) → AllPairs (λ (a : NodeEntry) (b : NodeEntry). a.name ≡ b.name → ⊥) nodes → (m n : ℕ) (x y : NodeEntry)
    → slice_get nodes m ≡ Some x → slice_get nodes n ≡ Some y → x.name ≡ y.name → m ≡ n
same_node nodes apart m n x y p q e = elim (cases_eq m n) [
  | inl same ↦ same
  | inr other ↦ elim (sides m n other) [
    | inl less ↦ absurd (clash m n x y p q e less)
    | inr more ↦ absurd (clash n m y x q p (sym e) more)
  ]
]
  where
    sides : (m n : ℕ) → (m ≡ n → ⊥) → (m < n) ⊎ (n < m)
    sides zero zero h = absurd (h refl)
    sides zero (suc n) h = inl (omega arith)
    sides (suc m) zero h = inr (omega arith)
    sides (suc m) (suc n) h = elim (sides m n (λ e. h (ap suc e))) [ inl l ↦ inl (omega (arith, l)) | inr l ↦ inr (omega (arith, l)) ]

    clash : (m n : ℕ) (x y : NodeEntry) → slice_get nodes m ≡ Some x → slice_get nodes n ≡ Some y → x.name ≡ y.name → m < n → ⊥
    clash m n x y p q e l =
        let a = get_or_from_slice_get nodes m x x p in
        let b = get_or_from_slice_get nodes n y x q in
        apart m n x l (slice_get_within nodes n y q) (ap (λ (z : NodeEntry). z.name) a ∙ e ∙ ap (λ (z : NodeEntry). z.name) (sym b))

module _ (rules : List StatedRule) (design : Design) (edges : List Edge) (solution : Solution) (w : IsWellStated design) (j : IsJudged rules design edges solution) (sizes : All HasSizes solution.up) where
  abbrev plan : Plan
  plan = plan_of rules design edges solution

  pub long : length plan.edges ≡ length edges
  long = zipped solution.down solution.up (j.down.long ∙ sym j.up.long) ∙ j.up.long

  within_down : (x : ℕ) → x < length edges → x < length solution.down
  within_down x l = let e = j.down.long in omega arith

  within_up : (x : ℕ) → x < length edges → x < length solution.up
  within_up x l = let e = j.up.long in omega arith

  edge_is : (x : ℕ) → x < length edges → edge_at plan x ≡ plan_edge (port_down solution.down x) (port_up solution.up x)
  edge_is x l = at_number plan solution.down solution.up refl x (within_down x l) (within_up x l)

  -- ---- edges that exist

  abbrev Exists : ℕ → Type 0
  Exists x = x < length plan.edges

  exists : (x : ℕ) (edge : Edge) → slice_get edges x ≡ Some edge → Exists x
  exists x edge is = let l = slice_get_within edges x edge is in let e = long in omega arith

  place_exists : (test : Edge → Bool) (x : ℕ) → In x (places (λ number edge. test edge) 0 edges) → Exists x
  place_exists test x i =
      let p = place_is (λ number edge. test edge) 0 edges x i in
      let z : p.behind ≡ x = let n = p.number in omega arith in
      exists x p.item (subst (λ y. slice_get edges y ≡ Some p.item) z p.is)

  leaf_edges : All (λ (leaf : Leaf). All Exists leaf.ins × All Exists leaf.outs) plan.leaves
  leaf_edges = parts.by_node (λ (leaf : Leaf). All Exists leaf.ins × All Exists leaf.outs) rules edges 0 design.nodes (λ k entry is.
      All-weaker (parts.IsBetween (edges_to (0 + k) edges) (edges_from (0 + k) edges)) (λ (leaf : Leaf). All Exists leaf.ins × All Exists leaf.outs)
      (λ leaf b. (all_in Exists leaf.ins (λ y i. place_exists (λ edge. edge.to == 0 + k) y (b.above y i)), all_in Exists leaf.outs (λ y i. place_exists (λ edge. edge.from == 0 + k) y (b.below y i))))
      (kind_leaves rules entry.kind (edges_to (0 + k) edges) (edges_from (0 + k) edges)) (parts.of_kind rules entry.kind (edges_to (0 + k) edges) (edges_from (0 + k) edges)))

  -- ---- the ports

  pub record IsSinkPort (port : PlanPort) : Type 0 where
    pub entry : NodeEntry
    pub beat : ℕ
    pub ports : List (List Pattern)
    pub supports : Ops
    pub is : slice_get design.nodes port.node ≡ Some entry
    pub kind : entry.kind ≡ Sink beat ports supports
    pub name : port.name ≡ entry.name
    pub edge : Edge
    pub at : slice_get edges port.edge ≡ Some edge
    pub to : edge.to ≡ port.node
    pub to_port : edge.to_port ≡ port.port
    pub low : port.port < length ports

  sinks_at : (node : ℕ) (entry : NodeEntry) → slice_get design.nodes node ≡ Some entry → All IsSinkPort (sink_ports entry.name node entry.kind edges)
  sinks_at node entry is = at entry.kind refl
    where
      at : (kind : NodeKind) → entry.kind ≡ kind → All IsSinkPort (sink_ports entry.name node kind edges)
      at (Source ports ids emits) e = All-nil IsSinkPort
      at (Ruled name args) e = All-nil IsSinkPort
      at (Sink beat ports supports) e = by_place IsSinkPort entry.name node 0 (edges_to node edges) (λ k x f.
          let p = at_place (λ (edge : Edge). edge.to == node) 0 edges k x f in
          let z : p.behind ≡ x = let n = p.number in omega arith in
          let here : slice_get edges x ≡ Some p.item = subst (λ y. slice_get edges y ≡ Some p.item) z p.is in
          let to : p.item.to ≡ node = eqb-true p.item.to node p.passes in
          let counted : hits (λ (edge : Edge). edge.to == node) (take x edges) ≡ k = subst (λ y. hits (λ (edge : Edge). edge.to == node) (take y edges) ≡ k) z p.before in
          let has : length (edges_to node edges) ≡ length ports = subst (λ kind. HasItsEdges rules edges node kind) e (j.has node entry is) in
          let l = slice_get_within (edges_to node edges) k x f in
          let number : p.item.to_port ≡ 0 + k = (j.ports x p.item here).to ∙ ap (λ m. length (edges_to m (take x edges))) to ∙ placed_length (λ (edge : Edge). edge.to == node) 0 (take x edges) ∙ counted ∙ none k in
          record { entry = entry; beat = beat; ports = ports; supports = supports; is = is; kind = e; name = refl; edge = p.item; at = here; to = to; to_port = number; low = omega arith })
        where
          none : (k : ℕ) → k ≡ 0 + k
          none k = omega arith

  pub all_sinks : All IsSinkPort plan.sinks
  all_sinks = by_node IsSinkPort sink_ports edges 0 design.nodes (λ k entry is. let z : k ≡ 0 + k = omega arith in subst (λ n. All IsSinkPort (sink_ports entry.name n entry.kind edges)) z (sinks_at k entry is))

  pub record IsSourcePort (port : PlanPort) : Type 0 where
    pub entry : NodeEntry
    pub ports : ℕ
    pub ids : ℕ
    pub emits : Ops
    pub is : slice_get design.nodes port.node ≡ Some entry
    pub kind : entry.kind ≡ Source ports ids emits
    pub name : port.name ≡ entry.name
    pub edge : Edge
    pub at : slice_get edges port.edge ≡ Some edge
    pub from : edge.from ≡ port.node
    pub from_port : edge.from_port ≡ port.port
    pub low : port.port < ports

  sources_at : (node : ℕ) (entry : NodeEntry) → slice_get design.nodes node ≡ Some entry → All IsSourcePort (source_ports entry.name node entry.kind edges)
  sources_at node entry is = at entry.kind refl
    where
      at : (kind : NodeKind) → entry.kind ≡ kind → All IsSourcePort (source_ports entry.name node kind edges)
      at (Sink beat ports supports) e = All-nil IsSourcePort
      at (Ruled name args) e = All-nil IsSourcePort
      at (Source ports ids emits) e = by_place IsSourcePort entry.name node 0 (edges_from node edges) (λ k x f.
          let p = at_place (λ (edge : Edge). edge.from == node) 0 edges k x f in
          let z : p.behind ≡ x = let n = p.number in omega arith in
          let here : slice_get edges x ≡ Some p.item = subst (λ y. slice_get edges y ≡ Some p.item) z p.is in
          let from : p.item.from ≡ node = eqb-true p.item.from node p.passes in
          let counted : hits (λ (edge : Edge). edge.from == node) (take x edges) ≡ k = subst (λ y. hits (λ (edge : Edge). edge.from == node) (take y edges) ≡ k) z p.before in
          let has : length (edges_from node edges) ≡ ports = subst (λ kind. HasItsEdges rules edges node kind) e (j.has node entry is) in
          let l = slice_get_within (edges_from node edges) k x f in
          let number : p.item.from_port ≡ 0 + k = (j.ports x p.item here).from ∙ ap (λ m. length (edges_from m (take x edges))) from ∙ placed_length (λ (edge : Edge). edge.from == node) 0 (take x edges) ∙ counted ∙ none k in
          record { entry = entry; ports = ports; ids = ids; emits = emits; is = is; kind = e; name = refl; edge = p.item; at = here; from = from; from_port = number; low = omega arith })
        where
          none : (k : ℕ) → k ≡ 0 + k
          none k = omega arith

  pub all_sources : All IsSourcePort plan.sources
  all_sources = by_node IsSourcePort source_ports edges 0 design.nodes (λ k entry is. let z : k ≡ 0 + k = omega arith in subst (λ n. All IsSourcePort (source_ports entry.name n entry.kind edges)) z (sources_at k entry is))

  -- ---- given and taken

  given : All Exists (given_edges plan)
  given = All-append Exists (flat_map (λ (leaf : Leaf). leaf.outs) plan.leaves) (port_edges plan.sources)
      (all_flat Exists (λ (leaf : Leaf). leaf.outs) plan.leaves (λ k d l. (leaf_edges k d l).1))
      (all_ports Exists plan.sources (λ k d l. let s = all_sources k d l in exists _ s.edge s.at))

  taken : All Exists (taken_edges plan)
  taken = All-append Exists (flat_map (λ (leaf : Leaf). leaf.ins) plan.leaves) (port_edges plan.sinks)
      (all_flat Exists (λ (leaf : Leaf). leaf.ins) plan.leaves (λ k d l. (leaf_edges k d l).0))
      (all_ports Exists plan.sinks (λ k d l. let s = all_sinks k d l in exists _ s.edge s.at))

  given_once : (x : ℕ) → x < length plan.edges → times x (given_edges plan) ≡ 1
  given_once x l = once.given rules design edges solution j.negotiable j.joins x (subst (λ n. x < n) long l)

  taken_once : (x : ℕ) → x < length plan.edges → times x (taken_edges plan) ≡ 1
  taken_once x l = once.taken rules design edges solution j.negotiable j.joins x (subst (λ n. x < n) long l)

  leaves : All (IsSoundLeaf plan) plan.leaves
  leaves = leaf_law rules design edges solution j

  no_return : NoneReturns plan
  no_return = acyclic rules design edges solution j.negotiable

  -- ---- the edges of sinks

  sink_up : (port : PlanPort) (s : IsSinkPort port) → port_up solution.up port.edge ≡ sink_port port.node port.port s.beat s.ports s.supports
  sink_up port s =
      let h = j.up.holds port.edge s.edge s.at in
      let known : kind_at design.nodes s.edge.to ≡ Some (Sink s.beat s.ports s.supports) =
      ap (kind_at design.nodes) s.to ∙ ap (option_map (λ (node : NodeEntry). node.kind)) s.is ∙ ap (λ k. Some k) s.kind in
      let outs : List UpPort = picked solution.up (asked rules design.nodes edges sink_end source_end s.edge) in
      let e : Ok (sink_port s.edge.to s.edge.to_port s.beat s.ports s.supports) ≡ Ok h.port = ap (λ k. stated_up rules s.edge.to s.edge.to_port k outs) (sym known) ∙ h.is in
      let p : sink_port s.edge.to s.edge.to_port s.beat s.ports s.supports ≡ h.port = same_ok _ _ e in
      ap (λ o. unwrap_or o (record { slaves = []; beat = 0 })) h.here ∙ sym p ∙ ap (λ m. sink_port m s.edge.to_port s.beat s.ports s.supports) s.to
      ∙ ap (λ m. sink_port port.node m s.beat s.ports s.supports) s.to_port

  -- what goes down the edge of a source's port is its own
  pub source_down : (port : PlanPort) (s : IsSourcePort port) → slice_get solution.down port.edge ≡ Some (source_port port.node port.port s.ids s.emits)
  source_down port s =
      let h = j.down.holds port.edge s.edge s.at in
      let known : kind_at design.nodes s.edge.from ≡ Some (Source s.ports s.ids s.emits) =
      ap (kind_at design.nodes) s.from ∙ ap (option_map (λ (node : NodeEntry). node.kind)) s.is ∙ ap (λ k. Some k) s.kind in
      let ins : List DownPort = picked solution.down (asked rules design.nodes edges source_end sink_end s.edge) in
      let e : Ok (source_port s.edge.from s.edge.from_port s.ids s.emits) ≡ Ok h.port = ap (λ k. stated_down rules s.edge.from s.edge.from_port k ins) (sym known) ∙ h.is in
      let p : source_port s.edge.from s.edge.from_port s.ids s.emits ≡ h.port = same_ok _ _ e in
      h.here ∙ ap (λ m. Some m) (sym p ∙ ap (λ m. source_port m s.edge.from_port s.ids s.emits) s.from ∙ ap (λ m. source_port port.node m s.ids s.emits) s.from_port)

  sink_edge : (port : PlanPort) (s : IsSinkPort port) → edge_at plan port.edge ≡ plan_edge (port_down solution.down port.edge) (sink_port port.node port.port s.beat s.ports s.supports)
  sink_edge port s = edge_is port.edge (slice_get_within edges port.edge s.edge s.at) ∙ ap (λ up. plan_edge (port_down solution.down port.edge) up) (sink_up port s)

  stated : (node : ℕ) (entry : NodeEntry) → slice_get design.nodes node ≡ Some entry → IsStatedNode (length design.modules) entry
  stated node entry is = item_has (IsStatedNode (length design.modules)) design.nodes node entry w.nodes is

  stated_sink : (port : PlanPort) (s : IsSinkPort port) → IsStatedKind (Sink s.beat s.ports s.supports)
  stated_sink port s = subst IsStatedKind s.kind (stated port.node s.entry s.is).2

  sink_slaves : (port : PlanPort) → IsSinkPort port → All IsFounded (edge_at plan port.edge).slaves
  sink_slaves port s =
      let st = stated_sink port s in
      let sets : IsStatedPort (addresses_at s.ports port.port) = at_default IsStatedPort s.ports [] port.port st.2 s.low in
      subst (λ (edge : PlanEdge). All IsFounded edge.slaves) (sym (sink_edge port s))
      (All-cons IsFounded (record { node = port.node; port = port.port; addresses = addresses_at s.ports port.port; supports = s.supports }) []
      (record { some = sets.0.0; sets = sets.1; arithmetic = st.3.0; logical = st.3.1 }) (All-nil IsFounded))

  sink_width : (port : PlanPort) → IsSinkPort port → IsTrue (is_width (bus_width (edge_at plan port.edge)))
  sink_width port s = subst (λ (edge : PlanEdge). IsTrue (is_width (bus_width edge))) (sym (sink_edge port s)) (stated_sink port s).0

  answered : (port : PlanPort) → IsSinkPort port → IsItsSlave (edge_at plan port.edge).slaves port
  answered port s = record {
    slave = record { node = port.node; port = port.port; addresses = addresses_at s.ports port.port; supports = s.supports };
    alone = ap (λ (edge : PlanEdge). edge.slaves) (sink_edge port s);
    node = refl;
    port = refl;
  }

  -- ---- all edges

  sound_edge : (x : ℕ) → x < length plan.edges → IsSoundEdge (edge_at plan x)
  sound_edge x l =
      let m : x < length edges = subst (λ n. x < n) long l in
      let e = edge_is x m in
      let down : DownPort = port_down solution.down x in
      let up : UpPort = port_up solution.up x in
      let ids = has_ids down (at_default (λ (d : DownPort). masters_are_wrong d.masters ≡ false) solution.down (record { masters = [] }) x j.masters (within_down x m)) in
      let founded : All IsFounded up.slaves = subst (λ (edge : PlanEdge). All IsFounded edge.slaves) e
      (slaves_upward plan no_return given taken_once leaves IsFounded stays_founded (All-weaker IsSinkPort (λ (port : PlanPort). All IsFounded (edge_at plan port.edge).slaves) sink_slaves plan.sinks all_sinks) x l) in
      let wide : IsTrue (is_width up.beat) = subst (λ (edge : PlanEdge). IsTrue (is_width (bus_width edge))) e
      (widths_upward plan no_return given taken_once leaves (All-weaker IsSinkPort (λ (port : PlanPort). IsTrue (is_width (bus_width (edge_at plan port.edge)))) sink_width plan.sinks all_sinks) x l) in
      let ranges : All HasRanges up.slaves = at_default HasSizes solution.up (record { slaves = []; beat = 0 }) x sizes (within_up x m) in
      let disjoint : AllPairs Disjoint (all_sets up.slaves) = at_default HasDisjointSets solution.up (record { slaves = []; beat = 0 }) x j.apart (within_up x m) in
      let aligned : edge_is_misaligned up ≡ false = at_default (λ (u : UpPort). edge_is_misaligned u ≡ false) solution.up (record { slaves = []; beat = 0 }) x j.aligned (within_up x m) in
      subst IsSoundEdge (sym e) (record {
        some_ids = ids.some;
        few_ids = ids.few;
        width = wide;
        bundle = refl;
        addressed = All-weaker IsFounded (λ (slave : Slave). 1 ≤ length slave.addresses) (λ s f. f.some) up.slaves founded;
        sets = All-weaker IsFounded (λ (slave : Slave). All IsSet slave.addresses) (λ s f. f.sets) up.slaves founded;
        sizes = ranges;
        apart = subst (λ sets. AllPairs Disjoint sets) (joined_sets up.slaves) disjoint;
        aligned = edge_aligned up aligned;
        small = all_small up.slaves ranges founded;
      })

  -- ---- the ports are apart

  record IsNamed (port : PlanPort) : Type 0 where
    entry : NodeEntry
    is : slice_get design.nodes port.node ≡ Some entry
    name : port.name ≡ entry.name

  apart_from : (a b : PlanPort) → IsNamed a → IsNamed b → (a.node ≡ b.node → a.port ≡ b.port → ⊥) → AreApart a b
  apart_from a b m n h = record {
    nodes = h;
    names = λ e p. h (same_node design.nodes w.apart a.node b.node m.entry n.entry m.is n.is (sym m.name ∙ e ∙ n.name)) p;
  }

  from_row : (a b : PlanPort) → IsNamed a → IsNamed b → IsBefore a b → AreApart a b
  from_row a b m n (inl l) = apart_from a b m n (λ e p. absurd (omega arith))
  from_row a b m n (inr l) = apart_from a b m n (λ e p. let q = l.1 in absurd (omega arith))

  row_apart : (ports : List PlanPort) → All IsNamed ports → AllPairs IsBefore ports → AllPairs AreApart ports
  row_apart ports named rise i k d l m = from_row _ _ (named i d (omega arith)) (named k d m) (rise i k d l m)

  named_source : (port : PlanPort) → IsSourcePort port → IsNamed port
  named_source port s = record { entry = s.entry; is = s.is; name = s.name }

  named_sink : (port : PlanPort) → IsSinkPort port → IsNamed port
  named_sink port s = record { entry = s.entry; is = s.is; name = s.name }

  other_kinds : (a b : PlanPort) → IsSourcePort a → IsSinkPort b → AreApart a b
  other_kinds a b s t = apart_from a b (named_source a s) (named_sink b t) (λ e p.
      let same : Some s.entry ≡ Some t.entry = sym s.is ∙ ap (slice_get design.nodes) e ∙ t.is in
      let one : s.entry ≡ t.entry = cc in
      let kinds : Source s.ports s.ids s.emits ≡ Sink t.beat t.ports t.supports = sym s.kind ∙ ap (λ (n : NodeEntry). n.kind) one ∙ t.kind in
      absurd cc)

  all_apart : AllPairs AreApart (plan.sources ++ plan.sinks)
  all_apart = pairs_joined AreApart plan.sources plan.sinks
      (row_apart plan.sources (All-weaker IsSourcePort IsNamed named_source plan.sources all_sources) (in_order source_ports edges (sources_keep edges) 0 design.nodes))
      (row_apart plan.sinks (All-weaker IsSinkPort IsNamed named_sink plan.sinks all_sinks) (in_order sink_ports edges (sinks_keep edges) 0 design.nodes))
      (All-weaker IsSourcePort (λ (a : PlanPort). All (AreApart a) plan.sinks) (λ a s. All-weaker IsSinkPort (AreApart a) (λ b t. other_kinds a b s t) plan.sinks all_sinks) plan.sources all_sources)

  short_name : (port : PlanPort) (n : IsNamed port) → length port.name ≤ 32
  short_name port n = subst (λ t. length t ≤ 32) (sym n.name) (stated port.node n.entry n.is).0

  short_source : (port : PlanPort) → IsSourcePort port → IsShort port
  short_source port s =
      let st : IsStatedKind (Source s.ports s.ids s.emits) = subst IsStatedKind s.kind (stated port.node s.entry s.is).2 in
      let few = st.0.1 in
      let l = s.low in
      record { name = short_name port (named_source port s); port = omega arith }

  short_sink : (port : PlanPort) → IsSinkPort port → IsShort port
  short_sink port s =
      let few = (stated_sink port s).1.1 in
      let l = s.low in
      record { name = short_name port (named_sink port s); port = omega arith }

  pub sound : IsSound plan
  sound = record {
    few_edges = let e = long in let f = j.few in omega arith;
    given = given;
    taken = taken;
    given_once = given_once;
    taken_once = taken_once;
    shaped = All-weaker (IsSoundLeaf plan) (λ (leaf : Leaf). HasShape leaf.template leaf.ins leaf.outs) (λ leaf s. s.shape) plan.leaves leaves;
    acyclic = no_return;
    edges = by_number IsSoundEdge plan.edges no_edge sound_edge;
    carries = All-weaker (IsSoundLeaf plan) (λ (leaf : Leaf). Carries leaf.template leaf.args (ins_of plan leaf) (outs_of plan leaf)) (λ leaf s. s.carries) plan.leaves leaves;
    ids = All-weaker (IsSoundLeaf plan) (λ (leaf : Leaf). MovesIds leaf.template leaf.args (ins_of plan leaf) (outs_of plan leaf)) (λ leaf s. s.ids) plan.leaves leaves;
    answered = All-weaker IsSinkPort (λ (port : PlanPort). IsItsSlave (edge_at plan port.edge).slaves port) answered plan.sinks all_sinks;
    apart = all_apart;
    short_name = w.name;
    short = All-append IsShort plan.sources plan.sinks (All-weaker IsSourcePort IsShort short_source plan.sources all_sources) (All-weaker IsSinkPort IsShort short_sink plan.sinks all_sinks);
  }

pub sound_plan : SoundPlanLaw
sound_plan rules design w h sizes = sound rules design (edges_in rules design) (solution_of rules design (edges_in rules design)) w (judged rules design w.bound h) sizes

-- as a call needs it: the plan of the agreed value, and that its edges join nodes
pub planned_sound : (rules : List StatedRule) (design : Design) (agreed : Agreed) → IsWellStated design → first_failing (design_checks rules design) ≡ None → agreed ≡ agreed_of rules design
    → All HasSizes agreed.solution.up → IsSound (plan_of rules design agreed.edges agreed.solution)
planned_sound rules design agreed w h e sizes =
    let s : All HasSizes (solution_of rules design (edges_in rules design)).up = subst (λ (a : Agreed). All HasSizes a.solution.up) e sizes in
    subst (λ (a : Agreed). IsSound (plan_of rules design a.edges a.solution)) (sym e) (sound_plan rules design w h s)

pub ends_exist : (rules : List StatedRule) (design : Design) (agreed : Agreed) → All (HasNodes design.nodes) design.binds → first_failing (design_checks rules design) ≡ None → agreed ≡ agreed_of rules design
    → All (λ (edge : Edge). edge.to < length design.nodes) agreed.edges × All (λ (edge : Edge). edge.from < length design.nodes) agreed.edges
ends_exist rules design agreed w h e =
    let j = judged rules design w h in
    let same : agreed.edges ≡ edges_in rules design = ap (λ (a : Agreed). a.edges) e in (
      subst (λ (es : List Edge). All (λ (edge : Edge). edge.to < length design.nodes) es) (sym same) (ends (λ (edge : Edge). edge.to < length design.nodes) (edges_in rules design) (λ x edge is. (nodes_exist design (edges_in rules design) j.negotiable x edge is).0)),
      subst (λ (es : List Edge). All (λ (edge : Edge). edge.from < length design.nodes) es) (sym same) (ends (λ (edge : Edge). edge.from < length design.nodes) (edges_in rules design) (λ x edge is. (nodes_exist design (edges_in rules design) j.negotiable x edge is).1)),
    )
  where
    ends : (P : Edge → Type 0) (es : List Edge) → ((x : ℕ) (edge : Edge) → slice_get es x ≡ Some edge → P edge) → All P es
    ends P [] f = All-nil P
    ends P (y ∷ es) f = All-cons P y es (f 0 y refl) (ends P es (λ x edge is. f (suc x) edge is))

pub few_edges : (rules : List StatedRule) (design : Design) (agreed : Agreed) → All (HasNodes design.nodes) design.binds → first_failing (design_checks rules design) ≡ None → agreed ≡ agreed_of rules design
    → length agreed.edges ≤ 1024
few_edges rules design agreed w h e = subst (λ (a : Agreed). length a.edges ≤ 1024) (sym e) (judged rules design w h).few
