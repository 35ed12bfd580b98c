-- What is refused first on the way down: arguments, or a crossbar's inputs with too many ids.
use Rattle.std.proofs.Common.{◌≡◌, ℕ, zero, suc, ◌+◌, ◌<◌, ◌≤◌, ltb, Bool, true, false, cond, ◌||◌, ◌&&◌, ◌==◌, List, [], ◌∷◌, ◌++◌, length, Option, Some, Result, Ok, Err, refl, sym, ap, ◌∙◌, subst, arith, ◌⊎◌, inl, inr}
use Rattle.std.specs.Prelude.{slice_get, All}
use Rattle.std.specs.List.{list_all}
use Rattle.std.proofs.Common.{lt-ltb}
use Rattle.std.proofs.lemmas.Bool.{eqb-true, eq-eqb}
use Rattle.dip_lists.proofs.Tests.{both}
use Rattle.dip_negotiate.specs.declared.steps.End.{End}
use Rattle.std.proofs.lemmas.Option.{get_or_from_slice_get, slice_get_within}
use Rattle.std.proofs.lemmas.List.Elements.{All-nil, All-cons, All-head}
use Rattle.dip_lists.specs.First.{failure_of, first, places}
use Rattle.tl_params.specs.Operations.{is_nexus}
use Rattle.tl_params.specs.declared.ops.Ops.{Ops}
use Rattle.tl_params.specs.declared.ops.Template.{Template}
use Rattle.tl_params.specs.declared.ops.Template.TheVariants.{Buffer, Width, Fragmenter, Shrinker, Xbar}
use Rattle.tl_params.specs.declared.ports.DownPort.{DownPort}
use Rattle.dip_graph.specs.Edges.{edges_to, edges_from}
use Rattle.dip_graph.specs.Orders.{canonical_order}
use Rattle.dip_graph.specs.WellStated.{IsStatedKind, IsWellStated}
use Rattle.dip_graph.specs.declared.design.NodeKind.TheVariants.{Source}
use Rattle.dip_graph.specs.declared.design.NodeEntry.{NodeEntry}
use Rattle.dip_graph.specs.declared.design.Design.{Design}
use Rattle.dip_graph.specs.declared.edges.Edge.{Edge}
use Rattle.dip_stars.specs.Edges.{design_counts}
use Rattle.dip_stars.proofs.Few.{few_edges}
use Rattle.dip_negotiate.specs.declared.steps.Step.{Step}
use Rattle.dip_negotiate.specs.Passes.{beside, Holds, HoldAt, Pass, picked, Refusal, stated}
use Rattle.dip_negotiate.specs.Places.{asked, belongs, source_end, sink_end, steps_down}
use Rattle.dip_negotiate.specs.Negotiation.{down_at, down_pass, downs, source_port}
use Rattle.dip_negotiate.specs.Demands.{IsClosed, IsOneOf, IsPortOf, PortDependsOn}
use Rattle.dip_negotiate.specs.Turns.{InTurn}
use Rattle.dip_negotiate.proofs.Law.{negotiation}
use Rattle.dip_negotiate.proofs.Only.{agree, dependent}
use Rattle.dip_negotiate.proofs.Turned.{down_in_turn}
use Rattle.dip_checks.specs.Checks.{edges_in, refusing}
use Rattle.tl_rules.specs.Crossbars.{are_usable, is_usable}
use Rattle.tl_rules.specs.Standard.{standard}
use Rattle.rule_laws.specs.RuleRefusals.{AreUnusable, IsSeenTogether, RefusesArguments, RefusesArgumentsOrPorts}
use Rattle.rule_laws.specs.DesignRefusals.{EachIsRefusedDown, IsRefusedDown, NeedsTooManyIds}
use Rattle.rule_laws.proofs.Refusing.{at_rule, each_refuses_down}
use Rattle.rule_laws.proofs.Earlier.{before_eleven, GraphPasses, eleven}
use Rattle.rule_laws.proofs.Fed.{each_feeds, IsFed, one_unusable, RuleFeeds, too_many}
use Rattle.rule_laws.proofs.Never.{states_from}
use Rattle.rule_laws.proofs.Pairing.{joined}
use Rattle.rule_laws.proofs.Ruling.{BeginsAt, IsRuled, asks_side, begins, known_kind, negotiable, nexus_is, numbered_from, numbered_to, picked_length, sides_down}

-- ---- lists

same_some : {A : Type 0} (x y : A) → ◌≡◌ {A = Option A} (Some x) (Some y) → x ≡ y
same_some x y e = cc

not_both : {P Q : Type 0} (answer : Result P ℕ) (port : P) (number : ℕ) → answer ≡ Ok port → answer ≡ Err number → Q
not_both answer port number a b = absurd cc

joined_front : {A : Type 0} (front back : List A) (q : ℕ) (x : A) → slice_get (front ++ back) q ≡ Some x → q < length front → slice_get front q ≡ Some x
joined_front [] back q x e l = absurd (omega arith)
joined_front (y ∷ front) back zero x e l = e
joined_front (y ∷ front) back (suc q) x e l = joined_front front back q x e (omega arith)

joined_next : {A : Type 0} (front back : List A) (x : A) → slice_get (front ++ x ∷ back) (length front) ≡ Some x
joined_next [] back x = refl
joined_next (y ∷ front) back x = joined_next front back x

hold_at : {P : Type 0} (pass : Pass P) (ports : List P) (steps : List Step) (q : ℕ) (s : Step) → HoldAt pass ports steps → slice_get steps q ≡ Some s → Holds pass ports s.number s.edge
hold_at pass ports [] q s h e = absurd cc
hold_at pass ports (t ∷ steps) zero s h e = subst (λ (x : Step). Holds pass ports x.number x.edge) (same_some t s e) h.0
hold_at pass ports (t ∷ steps) (suc q) s h e = hold_at pass ports steps q s h.1 e

-- the edge with this number is one of the steps
is_taken : List Step → ℕ → Bool
is_taken [] k = false
is_taken (s ∷ steps) k = (s.number == k) || is_taken steps k

taken_step : (steps : List Step) (k : ℕ) → is_taken steps k ≡ true → (q : ℕ) × (s : Step) × (slice_get steps q ≡ Some s) × (s.number ≡ k)
unfolding is_taken
taken_step [] k h = absurd cc
taken_step (s ∷ steps) k h = at (s.number == k) refl h (λ g. taken_step steps k g)
  where
    at : (b : Bool) → (s.number == k) ≡ b → (b || is_taken steps k) ≡ true → (is_taken steps k ≡ true → (q : ℕ) × (t : Step) × (slice_get steps q ≡ Some t) × (t.number ≡ k))
        → (q : ℕ) × (t : Step) × (slice_get (s ∷ steps) q ≡ Some t) × (t.number ≡ k)
    at true e h f = (0, s, refl, eqb-true s.number k e)
    at false e h f = let g = f h in (suc g.0, g.1, g.2, g.3)

step_taken : (steps : List Step) (q : ℕ) (s : Step) → slice_get steps q ≡ Some s → is_taken steps s.number ≡ true
unfolding is_taken
step_taken [] q s e = absurd cc
step_taken (t ∷ steps) zero s e = ap (λ b. b || is_taken steps s.number) (eq-eqb t.number s.number (ap (λ (x : Step). x.number) (same_some t s e)))
step_taken (t ∷ steps) (suc q) s e = at (t.number == s.number) (step_taken steps q s e)
  where
    at : (b : Bool) → is_taken steps s.number ≡ true → (b || is_taken steps s.number) ≡ true
    at true h = refl
    at false h = h

-- what is picked has what each of its ports has
picked_all : {P : Type 0} (Has : P → Type 0) (ports : List P) (ys : List ℕ) → ((y : ℕ) → IsOneOf y ys → (p : P) × (slice_get ports y ≡ Some p) × Has p) → All Has (picked ports ys)
picked_all Has ports [] h = All-nil Has
picked_all Has ports (y ∷ ys) h =
    let p = h y (inl refl) in
    subst (λ o. All Has (beside o (picked ports ys))) (sym p.1) (All-cons Has p.0 (picked ports ys) p.2 (picked_all Has ports ys (λ z i. h z (inr i))))

-- a port of those that are picked that fails a test
record Failing {P : Type 0} (Has : P → Type 0) (test : P → Bool) (ports : List P) (ys : List ℕ) : Type 0 where
  y : ℕ
  port : P
  listed : IsOneOf y ys
  is : slice_get ports y ≡ Some port
  has : Has port
  fails : test port ≡ false

picked_failing : {P : Type 0} (Has : P → Type 0) (test : P → Bool) (ports : List P) (ys : List ℕ) → ((y : ℕ) → IsOneOf y ys → (p : P) × (slice_get ports y ≡ Some p) × Has p)
    → list_all test (picked ports ys) ≡ false → Failing Has test ports ys
picked_failing Has test ports [] h e = absurd cc
picked_failing {P} Has test ports (y ∷ ys) h e =
    let p = h y (inl refl) in
    at p.0 p.1 p.2 (test p.0) refl (subst (λ o. list_all test (beside o (picked ports ys)) ≡ false) p.1 e) (λ g. picked_failing Has test ports ys (λ z i. h z (inr i)) g)
  where
    at : (p : P) → slice_get ports y ≡ Some p → Has p → (b : Bool) → test p ≡ b → (test p && list_all test (picked ports ys)) ≡ false
        → (list_all test (picked ports ys) ≡ false → Failing Has test ports ys) → Failing Has test ports (y ∷ ys)
    at p is has false q e f = record { y = y; port = p; listed = inl refl; is = is; has = has; fails = q }
    at p is has true q e f =
        let g = f (ap (λ b. b && list_all test (picked ports ys)) (sym q) ∙ e) in
        record { y = g.y; port = g.port; listed = inr g.listed; is = g.is; has = g.has; fails = g.fails }

places_few : {A : Type 0} (test : ℕ → A → Bool) (from : ℕ) (xs : List A) → length (places test from xs) ≤ length xs
places_few test from [] = omega arith
places_few test from (x ∷ xs) = at (test from x) (places_few test (from + 1) xs)
  where
    at : (b : Bool) → length (places test (from + 1) xs) ≤ length xs → length (cond b (from ∷ places test (from + 1) xs) (places test (from + 1) xs)) ≤ suc (length xs)
    at true h = omega (arith, h)
    at false h = omega (arith, h)

-- what is asked at a node has its other end there
joined_here : (nexus : Bool) (far : Edge → End) (node : ℕ) (own : End) (from : ℕ) (edges : List Edge) (y : ℕ) → own.node ≡ node → IsOneOf y (joined far node nexus own from edges)
    → (j : ℕ) × (edge : Edge) × (y ≡ from + j) × (slice_get edges j ≡ Some edge) × ((far edge).node ≡ node)
joined_here nexus far node own from [] y h i = absurd i
joined_here nexus far node own from (e ∷ edges) y h i = at (belongs nexus own (far e)) refl i (λ k. joined_here nexus far node own (from + 1) edges y h k)
  where
    later : ((j : ℕ) × (edge : Edge) × (y ≡ from + 1 + j) × (slice_get edges j ≡ Some edge) × ((far edge).node ≡ node))
        → (j : ℕ) × (edge : Edge) × (y ≡ from + j) × (slice_get (e ∷ edges) j ≡ Some edge) × ((far edge).node ≡ node)
    later f = let z : y ≡ from + suc f.0 = omega (arith, f.2) in (suc f.0, f.1, z, f.3, f.4)

    at : (b : Bool) → belongs nexus own (far e) ≡ b → IsOneOf y (cond b (from ∷ joined far node nexus own (from + 1) edges) (joined far node nexus own (from + 1) edges))
        → (IsOneOf y (joined far node nexus own (from + 1) edges) → (j : ℕ) × (edge : Edge) × (y ≡ from + 1 + j) × (slice_get edges j ≡ Some edge) × ((far edge).node ≡ node))
        → (j : ℕ) × (edge : Edge) × (y ≡ from + j) × (slice_get (e ∷ edges) j ≡ Some edge) × ((far edge).node ≡ node)
    at true q (inl k) f =
        let z : y ≡ from + 0 = omega (arith, k) in
        (0, e, z, refl, sym (eqb-true own.node (far e).node (both (own.node == (far e).node) (nexus || (own.port == (far e).port)) q).0) ∙ h)
    at true q (inr k) f = later (f k)
    at false q k f = later (f k)

-- ---- before the first refusal

module _ (design : Design) (w : IsWellStated design) (g : GraphPasses standard design) (refused : Refusal) (stops : downs standard design (edges_in standard design) ≡ Err refused) where
  abbrev edges : List Edge
  edges = edges_in standard design

  abbrev pass : Pass DownPort
  pass = down_pass standard design.nodes (edges_in standard design)

  abbrev steps : List Step
  steps = steps_down (canonical_order design) (edges_in standard design)

  turns : InTurn pass edges steps
  turns = down_in_turn standard design edges (negotiable standard design w.bound g) steps refl

  -- the steps before it, whose equations hold of some ports
  record IsBefore : Type 0 where
    front : List Step
    ports : List DownPort
    number : ℕ
    here : slice_get steps (length front) ≡ Some (record { number = number; edge = refused.edge })
    within : (q : ℕ) (s : Step) → q < length front → slice_get steps q ≡ Some s → slice_get front q ≡ Some s
    inside : (q : ℕ) (s : Step) → slice_get front q ≡ Some s → slice_get steps q ≡ Some s
    holds : (q : ℕ) (s : Step) → slice_get front q ≡ Some s → Holds pass ports s.number s.edge
    refuses : stated pass ports refused.edge ≡ Err refused.number

  inside_front : (front back : List Step) (q : ℕ) (s : Step) → slice_get front q ≡ Some s → slice_get (front ++ back) q ≡ Some s
  inside_front [] back q s e = absurd cc
  inside_front (t ∷ front) back zero s e = e
  inside_front (t ∷ front) back (suc q) s e = inside_front front back q s e

  before : IsBefore
  before =
      let f = negotiation.down_refused standard design edges (negotiable standard design w.bound g) refused stops in
      let last : Step = record { number = f.number; edge = refused.edge } in
      record {
        front = f.front;
        ports = f.ports;
        number = f.number;
        here = ap (λ ss. slice_get ss (length f.front)) f.split ∙ joined_next f.front f.back last;
        within = λ q s l e. joined_front f.front (last ∷ f.back) q s (ap (λ ss. slice_get ss q) (sym f.split) ∙ e) l;
        inside = λ q s e. ap (λ ss. slice_get ss q) f.split ∙ inside_front f.front (last ∷ f.back) q s e;
        holds = λ q s e. hold_at pass f.ports f.front q s f.before e;
        refuses = f.refuses f.ports f.before;
      }

  -- ---- each port before it has masters with ids

  abbrev FedAt : List DownPort → ℕ → Type 0
  FedAt ports y = (port : DownPort) × (slice_get ports y ≡ Some port) × IsFed port

  stated_kind : (node : ℕ) (entry : NodeEntry) → slice_get design.nodes node ≡ Some entry → IsStatedKind entry.kind
  stated_kind node entry is = subst (λ (e : NodeEntry). IsStatedKind e.kind) (get_or_from_slice_get design.nodes node entry entry is)
      (w.nodes node entry (slice_get_within design.nodes node entry is)).2

  source_fed : (node port ids : ℕ) (emits : Ops) → 1 ≤ ids → IsFed (source_port node port ids emits)
  source_fed node port ids emits l = record { some = omega arith; ids = alone (ltb 0 ids) (lt-ltb 0 ids l) }
    where
      alone : (b : Bool) → b ≡ true → (b && true) ≡ true
      alone b h = rw h refl

  same_port : (a b : DownPort) → ◌≡◌ {A = Result DownPort ℕ} (Ok a) (Ok b) → a ≡ b
  same_port a b e = cc

  -- what an edge's node states of such ports is one
  states_fed : (k : ℕ) (edge : Edge) (ports : List DownPort) (port : DownPort) → slice_get edges k ≡ Some edge → ((y : ℕ) → IsOneOf y (pass.asks edge) → FedAt ports y)
      → stated pass ports edge ≡ Ok port → IsFed port
  states_fed k edge ports port is fed e = at (begins standard design w.bound g k edge is)
    where
      at : BeginsAt standard design.nodes edges edge → IsFed port
      at (inl source) =
          let (entry, count, ids, emits, i, q) = source in
          let k : IsStatedKind (Source count ids emits) = subst (λ kind. IsStatedKind kind) q (stated_kind edge.from entry i) in
          subst IsFed (same_port (source_port edge.from edge.from_port ids emits) port
          (ap (λ o. down_at standard edge.from edge.from_port o (picked ports (asked standard design.nodes edges source_end sink_end edge))) (sym (known_kind design.nodes edge.from entry (Source count ids emits) i q)) ∙ e))
          (source_fed edge.from edge.from_port ids emits k.1.0)
      at (inr r) =
          let all : All IsFed (picked ports (pass.asks edge)) = picked_all IsFed ports (pass.asks edge) fed in
          at_rule RuleFeeds standard r.name r.rule each_feeds r.found r.args (picked ports (joined sink_end edge.from (is_nexus r.rule.template) (source_end edge) 0 edges)) port
          (subst (λ b. All IsFed (picked ports (joined sink_end edge.from b (source_end edge) 0 edges))) (nexus_is standard design.nodes edges edge.from r) all)
          (sym (states_from standard design.nodes edges edge edge.from r ports refl) ∙ e)

  module _ (b : IsBefore) where
    fed_below : (n q : ℕ) (s : Step) → q < n → slice_get b.front q ≡ Some s → FedAt b.ports s.number
    fed_below zero q s l is = absurd (omega arith)
    fed_below (suc n) q s l is = at (λ r t m it. fed_below n r t m it)
      where
        at : ((r : ℕ) (t : Step) → r < n → slice_get b.front r ≡ Some t → FedAt b.ports t.number) → FedAt b.ports s.number
        at f =
            let h = b.holds q s is in
            let i = b.inside q s is in (
              h.port,
              h.here,
              states_fed s.number s.edge b.ports h.port (turns.sound q s i)
                  (λ y j. let g = turns.behind q s i y j in subst (FedAt b.ports) g.4 (f g.0 g.1 (less g.0 g.2) (b.within g.0 g.1 (lower g.0 g.2) g.3))) h.is,
            )
          where
            less : (r : ℕ) → r < q → r < n
            less r m = omega arith

            in_front : q < length b.front
            in_front = slice_get_within b.front q s is

            lower : (r : ℕ) → r < q → r < length b.front
            lower r m = let k = in_front in omega arith

    fed : (q : ℕ) (s : Step) → slice_get b.front q ≡ Some s → FedAt b.ports s.number
    fed q s is = fed_below (q + 1) q s (omega arith) is

    -- ---- and is the port of its edge

    closed : IsClosed pass edges (is_taken b.front)
    closed k edge is h y j =
        let t = taken_step b.front k h in
        let i = b.inside t.0 t.1 t.2 in
        let same : t.1.edge ≡ edge = same_some t.1.edge edge (sym (turns.sound t.0 t.1 i) ∙ ap (slice_get edges) t.3 ∙ is) in
        let f = turns.behind t.0 t.1 i y (subst (λ (e : Edge). IsOneOf y (pass.asks e)) (sym same) j) in
        subst (λ n. is_taken b.front n ≡ true) f.4
        (step_taken b.front f.0 f.1 (b.within f.0 f.1 (less f.0 t.0 f.2 (slice_get_within b.front t.0 t.1 t.2)) f.3))
      where
        less : (r q : ℕ) → r < q → q < length b.front → r < length b.front
        less r q m l = omega arith

    solves : (i : ℕ) → is_taken b.front i ≡ true → (k : ℕ) (edge : Edge) → slice_get edges k ≡ Some edge → PortDependsOn pass edges i k → Holds pass b.ports k edge
    solves i h k edge is d =
        let t = taken_step b.front k (d (is_taken b.front) closed h) in
        let same : t.1.edge ≡ edge = same_some t.1.edge edge (sym (turns.sound t.0 t.1 (b.inside t.0 t.1 t.2)) ∙ ap (slice_get edges) t.3 ∙ is) in
        subst (λ (e : Edge). Holds pass b.ports k e) same (subst (λ n. Holds pass b.ports n t.1.edge) t.3 (b.holds t.0 t.1 t.2))

    port_of : (i : ℕ) (port : DownPort) → is_taken b.front i ≡ true → slice_get b.ports i ≡ Some port → IsPortOf pass edges i port
    port_of i port h is = record {
      ports = b.ports;
      only = record {
        solves = λ k edge e d. solves i h k edge e d;
        only = λ others s k edge e d. agree pass edges steps turns (PortDependsOn pass edges i) (dependent pass edges steps turns i) others b.ports s (λ m x xe o. solves i h m x xe o) k edge e d;
      };
      here = is;
    }

    -- ---- at the refusal

    edge_is : slice_get edges b.number ≡ Some refused.edge
    edge_is = turns.sound (length b.front) (record { number = b.number; edge = refused.edge }) b.here

    -- what it asks is taken before
    asked_step : (y : ℕ) → IsOneOf y (pass.asks refused.edge) → (q : ℕ) × (s : Step) × (slice_get b.front q ≡ Some s) × (s.number ≡ y)
    asked_step y j =
        let f = turns.behind (length b.front) (record { number = b.number; edge = refused.edge }) b.here y j in
        (f.0, f.1, b.within f.0 f.1 f.2 f.3, f.4)

    asked_taken : (y : ℕ) → IsOneOf y (pass.asks refused.edge) → is_taken b.front y ≡ true
    asked_taken y j = let s = asked_step y j in subst (λ n. is_taken b.front n ≡ true) s.3 (step_taken b.front s.0 s.1 s.2)

    asked_fed : (y : ℕ) → IsOneOf y (pass.asks refused.edge) → FedAt b.ports y
    asked_fed y j = let s = asked_step y j in subst (FedAt b.ports) s.3 (fed s.0 s.1 s.2)

    abbrev node : ℕ
    node = refused.edge.from

    module _ (r : IsRuled standard design.nodes edges refused.edge.from) where
      abbrev asks : List ℕ
      asks = joined sink_end refused.edge.from (is_nexus r.rule.template) (source_end refused.edge) 0 edges

      asks_same : asked standard design.nodes edges source_end sink_end refused.edge ≡ asks
      asks_same = ap (λ b. joined sink_end refused.edge.from b (source_end refused.edge) 0 edges) (nexus_is standard design.nodes edges refused.edge.from r)

      fed_asks : (y : ℕ) → IsOneOf y asks → FedAt b.ports y
      fed_asks y j = asked_fed y (subst (λ ys. IsOneOf y ys) (sym asks_same) j)

      together : IsSeenTogether (is_nexus r.rule.template) (length asks)
      together =
          let s = sides_down (is_nexus r.rule.template) (length (edges_to node edges)) (length (edges_from node edges)) r.sides in
          asks_side source_end sink_end node edges (numbered_from standard design w.bound g node) (numbered_to standard design w.bound g node) b.number refused.edge edge_is refl (is_nexus r.rule.template) s.0 s.1

      long : length (picked b.ports asks) ≡ length asks
      long = picked_length b.ports asks (λ y i. let f = fed_asks y i in slice_get_within b.ports y f.0 f.1)

      few : length asks ≤ 1024
      few =
          let l = few_edges (design_counts standard design) (ap first g.few) in
          let p = places_few (λ number edge. belongs (is_nexus r.rule.template) (source_end refused.edge) (sink_end edge)) 0 edges in
          omega arith

      -- inputs of a crossbar that it can't use
      crossbar : 1 ≤ length asks → are_usable (picked b.ports asks) ≡ false → NeedsTooManyIds design edges node
      crossbar some e =
          let f = picked_failing IsFed is_usable b.ports asks fed_asks
          (one_unusable (picked b.ports asks) (subst (λ n. 1 ≤ n) (sym long) some) (subst (λ n. n ≤ 1024) (sym long) few) e) in
          let i = joined_here (is_nexus r.rule.template) sink_end node (source_end refused.edge) 0 edges f.y refl f.listed in
          let z : f.y ≡ i.0 = i.2 ∙ from_none i.0 in
          record {
            number = f.y;
            edge = i.1;
            is = ap (slice_get edges) z ∙ i.3;
            to = i.4;
            port = f.port;
            down = port_of f.y f.port (asked_taken f.y (subst (λ ys. IsOneOf f.y ys) (sym asks_same) f.listed)) f.is;
            many = too_many f.port f.has f.fails;
          }
        where
          from_none : (j : ℕ) → 0 + j ≡ j
          from_none j = omega arith

      no_masters_left : (port : DownPort) → All IsFed (picked b.ports asks) → picked b.ports asks ≡ port ∷ [] → port.masters ≡ [] → ⊥
      no_masters_left port all e none =
          let fed : IsFed port = All-head IsFed port [] (subst (All IsFed) e all) in
          let some = fed.some in
          let l = ap length none in
          absurd (omega (arith, l))

      unusable : (template : Template) → r.rule.template ≡ template → AreUnusable template (picked b.ports asks) → (r.rule.template ≡ Xbar) × NeedsTooManyIds design edges node
      unusable Buffer t h = absurd h
      unusable Width t h = absurd h
      unusable Fragmenter t h = absurd h
      unusable Shrinker t h = absurd (no_masters_left h.0 (picked_all IsFed b.ports asks fed_asks) h.1 h.2)
      unusable Xbar t h = (t, crossbar (subst (λ x. IsSeenTogether (is_nexus x) (length asks)) t together) h)

      why : RefusesArguments r.rule r.args ⊎ ((r.rule.template ≡ Xbar) × NeedsTooManyIds design edges node)
      why =
          let law : RefusesArgumentsOrPorts r.rule = at_rule RefusesArgumentsOrPorts standard r.name r.rule each_refuses_down r.found in
          elim (law.refused r.args (picked b.ports asks) refused.number (subst (λ n. IsSeenTogether (is_nexus r.rule.template) n) (sym long) together)
          (sym (states_from standard design.nodes edges refused.edge node r b.ports refl) ∙ b.refuses)) [
            | inl a ↦ inl a.1
            | inr u ↦ inr (unusable r.rule.template refl u.1)
          ]

      refused_down : IsRefusedDown design edges node
      refused_down = record {
        rule = r.rule;
        args = r.args;
        has = record { entry = r.entry; kind = r.name; is = r.is; ruled = r.kind; found = r.found };
        refuses = why;
      }

    at_refusal : IsRefusedDown design edges refused.edge.from
    at_refusal = at (begins standard design w.bound g b.number refused.edge edge_is)
      where
        at : BeginsAt standard design.nodes edges refused.edge → IsRefusedDown design edges refused.edge.from
        at (inl source) =
            let (entry, count, ids, emits, i, q) = source in
            not_both (stated pass b.ports refused.edge) (source_port node refused.edge.from_port ids emits) refused.number
            (ap (λ o. down_at standard node refused.edge.from_port o (picked b.ports (asked standard design.nodes edges source_end sink_end refused.edge))) (known_kind design.nodes node entry (Source count ids emits) i q))
            b.refuses
        at (inr r) = refused_down r

  pub first_refused_down : IsRefusedDown design (edges_in standard design) refused.edge.from
  first_refused_down = at_refusal before

pub each_is_refused_down : EachIsRefusedDown
each_is_refused_down design w node h =
    let b = before_eleven standard design (failure_of 11 node) h (omega arith) in
    at b.0 (downs standard design (edges_in standard design)) refl (eleven standard design (failure_of 11 node) refl b.1)
  where
    at : GraphPasses standard design → (r : Result (List DownPort) Refusal) → downs standard design (edges_in standard design) ≡ r → first (refusing (λ edge. edge.from) r) ≡ Some node
        → IsRefusedDown design (edges_in standard design) node
    at g (Ok ports) e f = absurd cc
    at g (Err refused) e f = subst (IsRefusedDown design (edges_in standard design)) (same_some refused.edge.from node f) (first_refused_down design w g refused e)
