-- The checks of a design stand in the order of their numbers, each with rising subjects.
use Rattle.std.proofs.Common.{◌≡◌, ℕ, ◌<◌, inl, List, [], ◌∷◌, ◌++◌, Bool, true, false, ◌&&◌, cond, Result, Ok, Err, refl, arith}
use Rattle.std.specs.Prelude.{All, AllPairs, nat_lt, not, is_none}
use Rattle.std.specs.List.{list_all}
use Rattle.std.proofs.lemmas.Bool.{ltb-true}
use Rattle.std.proofs.lemmas.List.Elements.{All-nil, All-cons, All-append, All-from_recursion}
use Rattle.std.proofs.lemmas.List.Kept.{AllPairs-cons}
use Rattle.dip_lists.specs.First.{Check}
use Rattle.dip_lists.specs.FirstLaw.{Precedes, HasRisingSubjects, AreInOrder}
use Rattle.dip_lists.proofs.FirstFailures.{first_law}
use Rattle.dip_lists.proofs.Tests.{both}
use Rattle.tl_params.specs.declared.ports.DownPort.{DownPort}
use Rattle.tl_params.specs.declared.ports.UpPort.{UpPort}
use Rattle.dip_graph.specs.Orders.{canonical_order, is_listed}
use Rattle.dip_graph.specs.declared.design.NodeEntry.{NodeEntry}
use Rattle.dip_graph.specs.declared.design.BindEntry.{BindEntry}
use Rattle.dip_graph.specs.declared.design.Design.{Design}
use Rattle.dip_graph.specs.declared.edges.Edge.{Edge}
use Rattle.dip_rule.specs.Stated.{StatedRule}
use Rattle.dip_negotiate.specs.Passes.{Refusal}
use Rattle.dip_negotiate.specs.Negotiation.{downs, ups}
use Rattle.dip_stars.specs.declared.rounds.Counted.{Counted}
use Rattle.dip_stars.specs.Edges.{design_counts, node_is_unfilled, most_edges, total}
use Rattle.dip_checks.specs.Weights.{weight}
use Rattle.dip_lists.proofs.Places.{places_rise}
use Rattle.dip_checks.specs.Checks.{kind_is_unruled, bind_is_turned, graph_checks, refusing, rule_checks, masters_are_wrong, edge_overlaps, edge_is_misaligned, edge_checks, nexus_differs, kind_misfits, most_weight, fit_checks, solution_of, edges_in, port_checks, design_checks}
use Rattle.dip_checks.specs.Laws.{CheckOrderLaw}

abbrev pub Rise : List ℕ → Type 0
Rise subjects = AllPairs (λ subject later. subject < later) subjects

-- ---- subjects

one_rises : (n : ℕ) → Rise (n ∷ [])
one_rises n i j d before within = absurd (omega arith)

at_most_one : (fails : Bool) (n : ℕ) → Rise (cond fails (n ∷ []) [])
at_most_one true n = one_rises n
at_most_one false n = λ i j d before within. absurd (omega arith)

refusing_rises : {P : Type 0} (node : Edge → ℕ) (result : Result (List P) Refusal) → Rise (refusing node result)
refusing_rises node (Ok ports) = λ i j d before within. absurd (omega arith)
refusing_rises node (Err refused) = one_rises (node refused.edge)

-- ---- numbers

-- each check has a lower number than all checks behind it
abbrev numbers_rise : List Check → Bool
numbers_rise [] = true
numbers_rise (c ∷ checks) = list_all (λ later. nat_lt c.number later.number) checks && numbers_rise checks

below_all : (c : Check) (checks : List Check) → list_all (λ later. nat_lt c.number later.number) checks ≡ true → All (Precedes c) checks
below_all c [] h = All-nil (Precedes c)
below_all c (later ∷ checks) h =
    let parts = both (nat_lt c.number later.number) (list_all (λ d. nat_lt c.number d.number) checks) h in
    let lower : c.number < later.number = ltb-true c.number later.number parts.0 in
    All-cons (Precedes c) later checks (inl lower) (below_all c checks parts.1)

precede : (checks : List Check) → numbers_rise checks ≡ true → AllPairs Precedes checks
precede [] h = λ i j d before within. absurd (omega arith)
precede (c ∷ checks) h =
    let parts = both (list_all (λ later. nat_lt c.number later.number) checks) (numbers_rise checks) h in
    AllPairs-cons Precedes c checks (below_all c checks parts.0) (precede checks parts.1)

-- ---- the checks 5 to 18

numbers : (rules : List StatedRule) (design : Design) → numbers_rise (design_checks rules design) ≡ true
unfolding design_checks
numbers rules design = refl

graph_subjects : (rules : List StatedRule) (design : Design) → All HasRisingSubjects (graph_checks rules design)
graph_subjects rules design =
    let counts = design_counts rules design in
    All-from_recursion HasRisingSubjects (graph_checks rules design) (
      places_rise (λ number (node : NodeEntry). kind_is_unruled rules node.kind) 0 design.nodes,
      (
        places_rise (λ number (b : BindEntry). bind_is_turned design.nodes b) 0 design.binds,
        (
          places_rise (λ number (node : NodeEntry). not (is_listed (canonical_order design) number)) 0 design.nodes,
          (
            places_rise (λ number (c : Counted). is_none c.number) 0 counts,
            (
              places_rise (node_is_unfilled rules design.nodes counts) 0 design.nodes,
              (at_most_one (nat_lt most_edges (total counts)) (total counts), tt),
            ),
          ),
        ),
      ),
    )

rule_subjects : (rules : List StatedRule) (design : Design) (edges : List Edge) → All HasRisingSubjects (rule_checks rules design edges)
rule_subjects rules design edges =
    All-from_recursion HasRisingSubjects (rule_checks rules design edges)
    (refusing_rises (λ edge. edge.from) (downs rules design edges), (refusing_rises (λ edge. edge.to) (ups rules design edges), tt))

edge_subjects : (downs : List DownPort) (ups : List UpPort) → All HasRisingSubjects (edge_checks downs ups)
edge_subjects downs ups =
    All-from_recursion HasRisingSubjects (edge_checks downs ups) (
      places_rise (λ number (down : DownPort). masters_are_wrong down.masters) 0 downs,
      (
        places_rise (λ number (up : UpPort). edge_overlaps up) 0 ups,
        (places_rise (λ number (up : UpPort). edge_is_misaligned up) 0 ups, tt),
      ),
    )

fit_subjects : (rules : List StatedRule) (nodes : List NodeEntry) (edges : List Edge) (downs : List DownPort) (ups : List UpPort) → All HasRisingSubjects (fit_checks rules nodes edges downs ups)
fit_subjects rules nodes edges downs ups =
    let heavy = weight rules nodes edges downs ups in
    All-from_recursion HasRisingSubjects (fit_checks rules nodes edges downs ups) (
      places_rise (λ node (entry : NodeEntry). nexus_differs rules nodes edges ups node) 0 nodes,
      (
        places_rise (λ node (entry : NodeEntry). kind_misfits rules node entry.kind edges downs ups) 0 nodes,
        (at_most_one (nat_lt most_weight heavy) heavy, tt),
      ),
    )

port_subjects : (rules : List StatedRule) (design : Design) (edges : List Edge) → All HasRisingSubjects (port_checks rules design edges)
port_subjects rules design edges =
    let solution = solution_of rules design edges in
    let first_two = rule_checks rules design edges ++ edge_checks solution.down solution.up in
    All-append HasRisingSubjects first_two (fit_checks rules design.nodes edges solution.down solution.up)
    (All-append HasRisingSubjects (rule_checks rules design edges) (edge_checks solution.down solution.up) (rule_subjects rules design edges) (edge_subjects solution.down solution.up))
    (fit_subjects rules design.nodes edges solution.down solution.up)

subjects : (rules : List StatedRule) (design : Design) → All HasRisingSubjects (design_checks rules design)
unfolding design_checks
subjects rules design =
    All-append HasRisingSubjects (graph_checks rules design) (port_checks rules design (edges_in rules design))
    (graph_subjects rules design) (port_subjects rules design (edges_in rules design))

pub in_order : (rules : List StatedRule) (design : Design) → AreInOrder (design_checks rules design)
in_order rules design = record { ordered = precede (design_checks rules design) (numbers rules design); rising = subjects rules design }

pub check_order : CheckOrderLaw
check_order =
    record {
      ordered = in_order;
      some = λ rules design failure. first_law.some (design_checks rules design) failure (in_order rules design);
      none = λ rules design. first_law.none (design_checks rules design);
    }
