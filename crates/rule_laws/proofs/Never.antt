-- No rule refuses on the way up where none did on the way down.
use Rattle.std.proofs.Common.{◌≡◌, ℕ, List, [], ◌∷◌, length, replicate, Some, Result, Ok, Err, refl, sym, ap, ◌∙◌, subst, arith, inl, inr}
use Rattle.std.specs.Prelude.{slice_get, slice_set, All}
use Rattle.std.proofs.lemmas.List.{length-replicate, length-set}
use Rattle.tl_params.specs.Operations.{is_nexus}
use Rattle.tl_params.specs.declared.ports.DownPort.{DownPort}
use Rattle.tl_params.specs.declared.ports.UpPort.{UpPort}
use Rattle.dip_graph.specs.Edges.{HasNodes, edges_to, edges_from}
use Rattle.dip_graph.specs.Kinds.{kind_at, ruled_kind_at}
use Rattle.dip_graph.specs.Orders.{canonical_order}
use Rattle.dip_graph.specs.declared.design.NodeKind.TheVariants.{Sink, Ruled}
use Rattle.dip_graph.specs.declared.design.NodeEntry.{NodeEntry}
use Rattle.dip_graph.specs.declared.design.Design.{Design}
use Rattle.dip_graph.specs.declared.edges.Edge.{Edge}
use Rattle.dip_rule.specs.Stated.{StatedRule, down_by, up_by, is_nexus_kind}
use Rattle.dip_negotiate.specs.declared.steps.Step.{Step}
use Rattle.dip_negotiate.specs.Passes.{Pass, Refusal, go_on, picked, run, stated}
use Rattle.dip_negotiate.specs.Places.{source_end, sink_end, asked, steps_up}
use Rattle.dip_negotiate.specs.Negotiation.{down_at, down_pass, downs, no_slaves, up_at, up_pass, ups}
use Rattle.dip_negotiate.proofs.Runs.{run_stopped}
use Rattle.dip_negotiate.proofs.Taken.{IsStep, step_right}
use Rattle.dip_negotiate.proofs.Law.{covers_up, negotiation}
use Rattle.dip_checks.specs.Checks.{edges_in, ports_of, refusing}
use Rattle.tl_rules.specs.Standard.{standard}
use Rattle.rule_laws.specs.RuleRefusals.{IsSeenTogether, RefusesArguments, RefusesOnlyArguments}
use Rattle.rule_laws.specs.DesignRefusals.{NeverRefusedUp}
use Rattle.rule_laws.proofs.Refusing.{at_rule, each_refuses_up}
use Rattle.rule_laws.proofs.Earlier.{GraphPasses, agreed, before_twelve, item_at, not_twelve}
use Rattle.rule_laws.proofs.Pairing.{edge_of_place, here, joined}
use Rattle.rule_laws.proofs.Ruling.{EndsAt, IsRuled, asked_length, asks_side, ends, known_kind, negotiable, nexus_is, numbered_from, numbered_to, sides_up, some_out}

-- a pass keeps the number of ports
pub run_long : {P : Type 0} (pass : Pass P) (ports final : List P) (steps : List Step) → run pass ports steps ≡ Ok final → length final ≡ length ports
run_long pass ports final [] e = let q : ports ≡ final = same e in ap length (sym q)
  where
    same : ◌≡◌ {A = Result (List _) Refusal} (Ok ports) (Ok final) → ports ≡ final
    same e = cc
run_long {P} pass ports final (step ∷ steps) e = at (stated pass ports step.edge) e (λ port. run_long pass (slice_set ports step.number port) final steps)
  where
    at : (answer : Result P ℕ) → go_on step.edge answer (λ port. run pass (slice_set ports step.number port) steps) ≡ Ok final
        → ((port : P) → run pass (slice_set ports step.number port) steps ≡ Ok final → length final ≡ length (slice_set ports step.number port)) → length final ≡ length ports
    at (Ok port) e f = f port e ∙ length-set ports step.number port
    at (Err number) e f = absurd cc

-- what a ruled node states is what its rule states
pub states_from : (rules : List StatedRule) (nodes : List NodeEntry) (edges : List Edge) (edge : Edge) (node : ℕ) (r : IsRuled rules nodes edges node) (ports : List DownPort) → edge.from ≡ node
    → stated (down_pass rules nodes edges) ports edge ≡ r.rule.down r.args (picked ports (joined sink_end node (is_nexus r.rule.template) (source_end edge) 0 edges))
states_from rules nodes edges edge node r ports e =
    ap (λ o. down_at rules edge.from edge.from_port o (picked ports (asked rules nodes edges source_end sink_end edge))) (ap (kind_at nodes) e ∙ known_kind nodes node r.entry (Ruled r.name r.args) r.is r.kind)
    ∙ ap (λ o. down_by o r.args (picked ports (asked rules nodes edges source_end sink_end edge))) r.found
    ∙ ap (λ b. r.rule.down r.args (picked ports (joined sink_end node b (source_end edge) 0 edges))) (ap (λ n. is_nexus_kind rules (ruled_kind_at nodes n)) e ∙ nexus_is rules nodes edges node r)

pub states_to : (rules : List StatedRule) (nodes : List NodeEntry) (edges : List Edge) (edge : Edge) (node : ℕ) (r : IsRuled rules nodes edges node) (ports : List UpPort) → edge.to ≡ node
    → stated (up_pass rules nodes edges) ports edge ≡ r.rule.up r.args (picked ports (joined source_end node (is_nexus r.rule.template) (sink_end edge) 0 edges))
states_to rules nodes edges edge node r ports e =
    ap (λ o. up_at rules edge.to edge.to_port o (picked ports (asked rules nodes edges sink_end source_end edge))) (ap (kind_at nodes) e ∙ known_kind nodes node r.entry (Ruled r.name r.args) r.is r.kind)
    ∙ ap (λ o. up_by o r.args (picked ports (asked rules nodes edges sink_end source_end edge))) r.found
    ∙ ap (λ b. r.rule.up r.args (picked ports (joined source_end node b (sink_end edge) 0 edges))) (ap (λ n. is_nexus_kind rules (ruled_kind_at nodes n)) e ∙ nexus_is rules nodes edges node r)

not_both : {P Q : Type 0} (answer : Result P ℕ) (port : P) (number : ℕ) → answer ≡ Ok port → answer ≡ Err number → Q
not_both answer port number a b = absurd cc

module _ (design : Design) (named : All (HasNodes design.nodes) design.binds) (g : GraphPasses standard design) (down : List DownPort) (taken : downs standard design (edges_in standard design) ≡ Ok down) where
  abbrev edges : List Edge
  edges = edges_in standard design

  -- a rule that is asked takes its arguments
  takes_arguments : (node : ℕ) (r : IsRuled standard design.nodes edges node) → RefusesArguments r.rule r.args → ⊥
  takes_arguments node r refuses =
      let out = item_at (here source_end node 0 edges) 0 (some_out (is_nexus r.rule.template) (length (edges_to node edges)) (length (edges_from node edges)) r.sides) in
      let e = edge_of_place source_end node 0 0 edges (numbered_from standard design named g node) 0 out.0 out.1 in
      let holds = (negotiation.down standard design edges (negotiable standard design named g) down taken).solves.holds e.behind e.edge e.is in
      not_both (stated (down_pass standard design.nodes edges) down e.edge) holds.port 1 holds.is (states_from standard design.nodes edges e.edge node r down e.at ∙ refuses.down _)

  never_up : (refused : Refusal) → ups standard design edges ≡ Err refused → ⊥
  never_up refused e =
      let s = run_stopped (up_pass standard design.nodes edges) [] (steps_up (canonical_order design) edges) (replicate (length edges) no_slaves) refused e in
      let long : length s.last ≡ length edges = run_long (up_pass standard design.nodes edges) (replicate (length edges) no_slaves) s.last s.front s.gone ∙ length-replicate (length edges) no_slaves in
      let covers = covers_up design edges (negotiable standard design named g) in
      let is = covers.sound s.number refused.edge
      (subst (λ ss. IsStep s.number refused.edge ss) (sym s.split) (step_right s.number refused.edge s.front (record { number = s.number; edge = refused.edge } ∷ s.back) (inl (refl, refl)))) in
      at s.number refused.edge is s.last long s.refuses (ends standard design named g s.number refused.edge is)
    where
      at : (k : ℕ) (edge : Edge) → slice_get edges k ≡ Some edge → (ports : List UpPort) → length ports ≡ length edges → stated (up_pass standard design.nodes edges) ports edge ≡ Err refused.number
          → EndsAt standard design.nodes edges edge → ⊥
      at k edge is ports long refuses (inl sink) =
          let (entry, beat, sets, supports, i, q) = sink in
          absurd (not_both (stated (up_pass standard design.nodes edges) ports edge) _ refused.number
          (ap (λ o. up_at standard edge.to edge.to_port o (picked ports (asked standard design.nodes edges sink_end source_end edge))) (known_kind design.nodes edge.to entry (Sink beat sets supports) i q))
          refuses)
      at k edge is ports long refuses (inr r) =
          let nexus = is_nexus r.rule.template in
          let sides = sides_up nexus (length (edges_to edge.to edges)) (length (edges_from edge.to edges)) r.sides in
          let asks = joined source_end edge.to nexus (sink_end edge) 0 edges in
          let together = asks_side sink_end source_end edge.to edges (numbered_to standard design named g edge.to) (numbered_from standard design named g edge.to) k edge is refl nexus sides.0 sides.1 in
          let many = asked_length nexus source_end edge.to (sink_end edge) edges ports long in
          let law : RefusesOnlyArguments r.rule = at_rule RefusesOnlyArguments standard r.name r.rule each_refuses_up r.found in
          let wrong = law.refused r.args (picked ports asks) refused.number (subst (λ n. IsSeenTogether nexus n) (sym many) together) (sym (states_to standard design.nodes edges edge edge.to r ports refl) ∙ refuses) in
          takes_arguments edge.to r wrong.1

  none_up : refusing (λ edge. edge.to) (ups standard design edges) ≡ []
  none_up = at (ups standard design edges) refl
    where
      at : (r : Result (List UpPort) Refusal) → ups standard design edges ≡ r → refusing (λ edge. edge.to) r ≡ []
      at (Ok ports) e = refl
      at (Err refused) e = absurd (never_up refused e)

pub never_refused_up : NeverRefusedUp
never_refused_up design named failure h is =
    let b = before_twelve standard design failure h (omega arith) in
    not_twelve standard design failure b is
    (none_up design named b.graph (ports_of (downs standard design (edges_in standard design))) (agreed (λ edge. edge.from) (downs standard design (edges_in standard design)) b.down))
