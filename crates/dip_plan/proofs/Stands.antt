-- The plan of a design stands to it as it should: its edges and its ports.
use Rattle.std.proofs.Common.{◌≡◌, ℕ, zero, suc, ◌+◌, ◌<◌, List, [], ◌∷◌, length, Some, None, refl, sym, ap, ◌∙◌, subst, arith, inl, inr}
use Rattle.std.specs.Prelude.{slice_get, get_or, unwrap_or, All, AllPairs, Contains}
use Rattle.std.proofs.lemmas.Option.{slice_get-get_or, slice_get_within}
use Rattle.std.proofs.lemmas.List.Elements.{All-nil, All-cons, All-weaker, All-contains, Contains-append_left, Contains-append_right}
use Rattle.tl_params.specs.declared.ports.DownPort.{DownPort}
use Rattle.tl_params.specs.declared.ports.UpPort.{UpPort}
use Rattle.tl_edge.specs.declared.plan.PlanEdge.{PlanEdge}
use Rattle.tl_edge.specs.declared.plan.PlanPort.{PlanPort}
use Rattle.tl_edge.specs.declared.plan.Plan.{Plan}
use Rattle.tl_edge.specs.Plans.{edge_at}
use Rattle.dip_graph.specs.declared.design.NodeKind.{NodeKind}
use Rattle.dip_graph.specs.declared.design.NodeKind.TheVariants.{Source, Sink, Ruled}
use Rattle.dip_graph.specs.declared.design.NodeEntry.{NodeEntry}
use Rattle.dip_graph.specs.declared.design.Design.{Design}
use Rattle.dip_graph.specs.declared.edges.Edge.{Edge}
use Rattle.dip_graph.specs.Edges.{edges_to, edges_from}
use Rattle.dip_graph.specs.WellStated.{IsWellStated}
use Rattle.dip_rule.specs.Stated.{StatedRule}
use Rattle.dip_negotiate.specs.declared.solution.Solution.{Solution}
use Rattle.dip_plan.specs.DesignPlans.{ports_on, source_ports, sink_ports, ports_from, plan_edge, plan_edges, plan_of}
use Rattle.dip_plan.specs.SoundLaw.{HasSizes}
use Rattle.dip_plan.specs.Standing.{source_count, sink_count, HasPort, IsPortAt, ArePorts, IsEdgeOf, HasEnds, IsSlaveOf, StandsTo}
use Rattle.dip_lists.specs.First.{first_failing}
use Rattle.tl_edge.specs.Legal.{IsLegal, IsLegalOn}
use Rattle.tl_edge.specs.Plans.{no_edge}
use Rattle.tl_edge.proofs.Legality.{legal_law}
use Rattle.dip_checks.specs.declared.agreed.Agreed.{Agreed}
use Rattle.dip_checks.specs.Checks.{edges_in, solution_of, design_checks, agreed_of}
use Rattle.dip_plan.specs.SoundLaw.{LegalOverPlanLaw}
use Rattle.dip_plan.proofs.Passed.{judged}
use Rattle.dip_plan.proofs.Judged.{IsJudged}
use Rattle.dip_stars.specs.Filled.{HasItsEdges}
use Rattle.dip_plan.proofs.Ports.{PortsOf, IsBefore, port_on, in_order, sources_keep, sinks_keep}
use Rattle.tl_params.specs.declared.ports.Slave.{Slave}
use Rattle.tl_params.specs.declared.ops.Ops.{Ops}
use Rattle.dip_negotiate.specs.Negotiation.{source_port}
use Rattle.tl_owners.specs.Outputs.{IsAtSink}
use Rattle.tl_owners.proofs.Members.{item_has}
use Rattle.tl_owners.proofs.Outputs.{outputs}
use Rattle.dip_plan.proofs.Ranks.{nodes_exist}
use Rattle.dip_plan.proofs.Whole.{IsSourcePort, IsSinkPort, all_sources, all_sinks, long, sound, source_down}

-- ---- each edge

edge_of : (number : ℕ) (downs : List DownPort) (ups : List UpPort) (edge : PlanEdge) (down : DownPort) (up : UpPort)
    → slice_get (plan_edges downs ups) number ≡ Some edge → slice_get downs number ≡ Some down → slice_get ups number ≡ Some up → IsEdgeOf edge down up
edge_of number [] ups edge down up e d u = absurd cc
edge_of number (x ∷ downs) [] edge down up e d u = absurd cc
edge_of zero (x ∷ downs) (y ∷ ups) edge down up e d u =
    let p : x ≡ down = cc in
    let q : y ≡ up = cc in
    let r : plan_edge x y ≡ edge = cc in
    subst (λ (z : PlanEdge). IsEdgeOf z down up) r
    (subst (λ (a : DownPort). IsEdgeOf (plan_edge a y) down up) (sym p)
    (subst (λ (b : UpPort). IsEdgeOf (plan_edge down b) down up) (sym q) (record { slaves = refl; ids = refl; bundle = refl })))
edge_of (suc number) (x ∷ downs) (y ∷ ups) edge down up e d u = edge_of number downs ups edge down up e d u

-- ---- each port of a node is one of the plan's

on_node : (name : List ℕ) (node from : ℕ) (edges : List ℕ) (place edge : ℕ) → slice_get edges place ≡ Some edge → Contains (ports_on name node from edges) (port_on name node (from + place) edge)
on_node name node from [] place edge e = absurd cc
on_node name node from (x ∷ edges) zero edge e =
    let same : x ≡ edge = cc in
    let here : from ≡ from + 0 = omega arith in
    (0, omega arith, ap (port_on name node from) same ∙ ap (λ p. port_on name node p edge) here)
on_node name node from (x ∷ edges) (suc place) edge e =
    let later : from + 1 + place ≡ from + suc place = omega arith in
    subst (λ p. Contains (ports_on name node from (x ∷ edges)) (port_on name node p edge)) later
    (Contains-append_right (port_on name node from x ∷ []) (ports_on name node (from + 1) edges) (port_on name node (from + 1 + place) edge) (on_node name node (from + 1) edges place edge e))

among_nodes : (ports : PortsOf) (edges : List Edge) (first : ℕ) (nodes : List NodeEntry) (place : ℕ) (entry : NodeEntry) (at : PlanPort) → slice_get nodes place ≡ Some entry
    → Contains (ports entry.name (first + place) entry.kind edges) at → Contains (ports_from ports edges first nodes) at
among_nodes ports edges first [] place entry at e h = absurd cc
among_nodes ports edges first (x ∷ nodes) zero entry at e h =
    let same : entry ≡ x = cc in
    let here : first + 0 ≡ first = omega arith in
    Contains-append_left (ports x.name first x.kind edges) (ports_from ports edges (first + 1) nodes) at
    (subst (λ (n : ℕ). Contains (ports x.name n x.kind edges) at) here (subst (λ (y : NodeEntry). Contains (ports y.name (first + 0) y.kind edges) at) same h))
among_nodes ports edges first (x ∷ nodes) (suc place) entry at e h =
    let later : first + suc place ≡ first + 1 + place = omega arith in
    Contains-append_right (ports x.name first x.kind edges) (ports_from ports edges (first + 1) nodes) at
    (among_nodes ports edges (first + 1) nodes place entry at e (subst (λ (n : ℕ). Contains (ports entry.name n entry.kind edges) at) later h))

at_numbers : (ports : List PlanPort) → AllPairs IsBefore ports → AllPairs (λ (a b : PlanPort). a.node ≡ b.node → a.port ≡ b.port → ⊥) ports
at_numbers ports rise i j d before within = apart (get_or ports i d) (get_or ports j d) (rise i j d before within)
  where
    apart : (a b : PlanPort) → IsBefore a b → a.node ≡ b.node → a.port ≡ b.port → ⊥
    apart a b (inl l) e p = absurd (omega arith)
    apart a b (inr l) e p = let q = l.1 in absurd (omega arith)

module _ (rules : List StatedRule) (design : Design) (edges : List Edge) (solution : Solution) (w : IsWellStated design) (j : IsJudged rules design edges solution) (sizes : All HasSizes solution.up) where
  abbrev plan : Plan
  plan = plan_of rules design edges solution

  -- ---- sources

  abbrev IsSource : PlanPort → Type 0
  IsSource = IsPortAt source_count (λ edge. edge.from) (λ edge. edge.from_port) design.nodes edges

  source : (at : PlanPort) → IsSourcePort rules design edges solution w j sizes at → IsSource at
  source at s = record {
    has = record { entry = s.entry; is = s.is; low = subst (λ (kind : NodeKind). at.port < source_count kind) (sym s.kind) s.low };
    name = s.name;
    edge = s.edge;
    is = s.at;
    end_node = s.from;
    end_port = s.from_port;
  }

  a_source : (n p : ℕ) → HasPort source_count design.nodes n p → (at : PlanPort) × Contains plan.sources at × (at.node ≡ n) × (at.port ≡ p)
  a_source n p h = at h.entry.kind refl h.low
    where
      at : (kind : NodeKind) → h.entry.kind ≡ kind → p < source_count kind → (at : PlanPort) × Contains plan.sources at × (at.node ≡ n) × (at.port ≡ p)
      at (Sink beat ports supports) e l = absurd (omega arith)
      at (Ruled name args) e l = absurd (omega arith)
      at (Source ports ids emits) e l =
          let many : length (edges_from n edges) ≡ ports = subst (λ kind. HasItsEdges rules edges n kind) e (j.has n h.entry h.is) in
          let k = slice_get-get_or (edges_from n edges) p 0 (omega arith) in
          let from : n ≡ 0 + n = omega arith in
          let first : 0 + p ≡ p = omega arith in
          let edge : ℕ = get_or (edges_from n edges) p 0 in
          let own : PlanPort = port_on h.entry.name (0 + n) (0 + p) edge in
          let listed = on_node h.entry.name (0 + n) 0 (edges_from n edges) p edge k in (
            own,
            among_nodes source_ports edges 0 design.nodes n h.entry own h.is
                (subst (λ (kind : NodeKind). Contains (source_ports h.entry.name (0 + n) kind edges) own) (sym e)
                (subst (λ (m : ℕ). Contains (ports_on h.entry.name (0 + n) 0 (edges_from m edges)) own) from listed)),
            sym from,
            first,
          )

  sources : ArePorts source_count (λ edge. edge.from) (λ edge. edge.from_port) design.nodes edges plan.sources
  sources = record {
    each = All-weaker (IsSourcePort rules design edges solution w j sizes) IsSource source plan.sources (all_sources rules design edges solution w j sizes);
    once = at_numbers plan.sources (in_order source_ports edges (sources_keep edges) 0 design.nodes);
    all = a_source;
  }

  -- ---- sinks

  abbrev IsSink : PlanPort → Type 0
  IsSink = IsPortAt sink_count (λ edge. edge.to) (λ edge. edge.to_port) design.nodes edges

  sink : (at : PlanPort) → IsSinkPort rules design edges solution w j sizes at → IsSink at
  sink at s = record {
    has = record { entry = s.entry; is = s.is; low = subst (λ (kind : NodeKind). at.port < sink_count kind) (sym s.kind) s.low };
    name = s.name;
    edge = s.edge;
    is = s.at;
    end_node = s.to;
    end_port = s.to_port;
  }

  a_sink : (n p : ℕ) → HasPort sink_count design.nodes n p → (at : PlanPort) × Contains plan.sinks at × (at.node ≡ n) × (at.port ≡ p)
  a_sink n p h = at h.entry.kind refl h.low
    where
      at : (kind : NodeKind) → h.entry.kind ≡ kind → p < sink_count kind → (at : PlanPort) × Contains plan.sinks at × (at.node ≡ n) × (at.port ≡ p)
      at (Source ports ids emits) e l = absurd (omega arith)
      at (Ruled name args) e l = absurd (omega arith)
      at (Sink beat ports supports) e l =
          let many : length (edges_to n edges) ≡ length ports = subst (λ kind. HasItsEdges rules edges n kind) e (j.has n h.entry h.is) in
          let k = slice_get-get_or (edges_to n edges) p 0 (omega arith) in
          let from : n ≡ 0 + n = omega arith in
          let first : 0 + p ≡ p = omega arith in
          let edge : ℕ = get_or (edges_to n edges) p 0 in
          let own : PlanPort = port_on h.entry.name (0 + n) (0 + p) edge in
          let listed = on_node h.entry.name (0 + n) 0 (edges_to n edges) p edge k in (
            own,
            among_nodes sink_ports edges 0 design.nodes n h.entry own h.is
                (subst (λ (kind : NodeKind). Contains (sink_ports h.entry.name (0 + n) kind edges) own) (sym e)
                (subst (λ (m : ℕ). Contains (ports_on h.entry.name (0 + n) 0 (edges_to m edges)) own) from listed)),
            sym from,
            first,
          )

  sinks : ArePorts sink_count (λ edge. edge.to) (λ edge. edge.to_port) design.nodes edges plan.sinks
  sinks = record {
    each = All-weaker (IsSinkPort rules design edges solution w j sizes) IsSink sink plan.sinks (all_sinks rules design edges solution w j sizes);
    once = at_numbers plan.sinks (in_order sink_ports edges (sinks_keep edges) 0 design.nodes);
    all = a_sink;
  }

  -- ---- a source's own port, and what is there

  own : (number : ℕ) (at : PlanPort) (entry : NodeEntry) (ports ids : ℕ) (emits : Ops) → slice_get plan.sources number ≡ Some at → slice_get design.nodes at.node ≡ Some entry
      → entry.kind ≡ Source ports ids emits → slice_get solution.down at.edge ≡ Some (source_port at.node at.port ids emits)
  own number at entry ports ids emits is here kind =
      let s = item_has (IsSourcePort rules design edges solution w j sizes) plan.sources number at (all_sources rules design edges solution w j sizes) is in
      let same : Some s.entry ≡ Some entry = sym s.is ∙ here in
      let one : s.entry ≡ entry = cc in
      let kinds : Source s.ports s.ids s.emits ≡ Source ports ids emits = sym s.kind ∙ ap (λ (n : NodeEntry). n.kind) one ∙ kind in
      let many : s.ids ≡ ids = cc in
      let what : s.emits ≡ emits = cc in
      source_down rules design edges solution w j sizes at s ∙ ap (λ n. Some (source_port at.node at.port n s.emits)) many ∙ ap (λ e. Some (source_port at.node at.port ids e)) what

  there : All (HasEnds design.nodes) edges
  there = each_edge edges (λ number edge is. nodes_exist design edges j.negotiable number edge is)
    where
      each_edge : (es : List Edge) → ((x : ℕ) (edge : Edge) → slice_get es x ≡ Some edge → HasEnds design.nodes edge) → All (HasEnds design.nodes) es
      each_edge [] f = All-nil (HasEnds design.nodes)
      each_edge (y ∷ es) f = All-cons (HasEnds design.nodes) y es (f 0 y refl) (each_edge es (λ x edge is. f (suc x) edge is))

  a_slave : (slave : Slave) → IsAtSink plan slave → IsSlaveOf design.nodes slave
  a_slave slave a =
      let s = All-contains (IsSinkPort rules design edges solution w j sizes) plan.sinks a.sink (all_sinks rules design edges solution w j sizes) a.listed in
      subst (λ n. HasPort sink_count design.nodes n slave.port) (sym a.node)
      (subst (λ n. HasPort sink_count design.nodes a.sink.node n) (sym a.port) (sink a.sink s).has)

  on_edge : (number : ℕ) (down : DownPort) (up : UpPort) → slice_get solution.down number ≡ Some down → slice_get solution.up number ≡ Some up → All (IsSlaveOf design.nodes) up.slaves
  on_edge number down up d u =
      let l : number < length plan.edges = omega (arith, long rules design edges solution w j sizes, j.down.long, slice_get_within solution.down number down d) in
      let here : slice_get plan.edges number ≡ Some (get_or plan.edges number no_edge) = slice_get-get_or plan.edges number no_edge l in
      let edge : PlanEdge = get_or plan.edges number no_edge in
      let same : edge_at plan number ≡ edge = ap (λ o. unwrap_or o no_edge) here in
      let of : IsEdgeOf edge down up = edge_of number solution.down solution.up edge down up here d u in
      let all : All (IsAtSink plan) edge.slaves = subst (λ (e : PlanEdge). All (IsAtSink plan) e.slaves) same (outputs.sinks plan (sound rules design edges solution w j sizes) number l) in
      subst (λ ss. All (IsSlaveOf design.nodes) ss) of.slaves (All-weaker (IsAtSink plan) (IsSlaveOf design.nodes) a_slave edge.slaves all)

  slaves : All (λ (up : UpPort). All (IsSlaveOf design.nodes) up.slaves) solution.up
  slaves = each_up solution.up 0 (λ k up is. at k up is)
    where
      at : (k : ℕ) (up : UpPort) → slice_get solution.up k ≡ Some up → All (IsSlaveOf design.nodes) up.slaves
      at k up is =
          let l : k < length solution.down = omega (arith, j.down.long, j.up.long, slice_get_within solution.up k up is) in
          on_edge k (get_or solution.down k (record { masters = [] })) up (slice_get-get_or solution.down k (record { masters = [] }) l) is

      each_up : (us : List UpPort) (first : ℕ) → ((k : ℕ) (up : UpPort) → slice_get us k ≡ Some up → All (IsSlaveOf design.nodes) up.slaves) → All (λ (up : UpPort). All (IsSlaveOf design.nodes) up.slaves) us
      each_up [] first f = All-nil (λ (up : UpPort). All (IsSlaveOf design.nodes) up.slaves)
      each_up (u ∷ us) first f = All-cons (λ (up : UpPort). All (IsSlaveOf design.nodes) up.slaves) u us (f 0 u refl) (each_up us (first + 1) (λ k up is. f (suc k) up is))

  pub stands : StandsTo design edges solution plan
  stands = record {
    name = refl;
    policy = refl;
    downs = j.down.long;
    ups = j.up.long;
    long = long rules design edges solution w j sizes;
    edge = λ number edge down up. edge_of number solution.down solution.up edge down up;
    own = own;
    ends = there;
    slaves = slaves;
    sources = sources;
    sinks = sinks;
  }

-- as a call needs it
pub planned_stands : (rules : List StatedRule) (design : Design) (agreed : Agreed) → IsWellStated design → first_failing (design_checks rules design) ≡ None → agreed ≡ agreed_of rules design
    → All HasSizes agreed.solution.up → StandsTo design agreed.edges agreed.solution (plan_of rules design agreed.edges agreed.solution)
planned_stands rules design agreed w h e sizes =
    let s : All HasSizes (solution_of rules design (edges_in rules design)).up = subst (λ (a : Agreed). All HasSizes a.solution.up) e sizes in
    subst (λ (a : Agreed). StandsTo design a.edges a.solution (plan_of rules design a.edges a.solution)) (sym e)
    (stands rules design (edges_in rules design) (solution_of rules design (edges_in rules design)) w (judged rules design w.bound h) s)

-- ---- legal requests

pub legal_over_plan : LegalOverPlanLaw
legal_over_plan design edges solution plan s port at down up request is d u legal =
    let l : at.edge < length plan.edges = omega (arith, s.long, s.downs, slice_get_within solution.down at.edge down d) in
    let here : slice_get plan.edges at.edge ≡ Some (get_or plan.edges at.edge no_edge) = slice_get-get_or plan.edges at.edge no_edge l in
    let edge : PlanEdge = get_or plan.edges at.edge no_edge in
    let same : edge_at plan at.edge ≡ edge = ap (λ o. unwrap_or o no_edge) here in
    let of : IsEdgeOf edge down up = s.edge at.edge edge down up here d u in
    let on : IsLegalOn edge request = legal_law.by_masters down.masters edge request of.ids (subst (λ slaves. IsLegal down.masters slaves request) (sym of.slaves) legal) in
    record { at = at; is = is; legal = subst (λ (e : PlanEdge). IsLegalOn e request) (sym same) on }
