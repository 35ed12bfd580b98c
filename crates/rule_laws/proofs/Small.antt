-- What doesn't fit its ports is a fragmenter with small pieces.
use Rattle.std.proofs.Common.{◌≡◌, ℕ, zero, suc, ◌+◌, ◌<◌, Bool, true, false, not, cond, ◌&&◌, List, [], ◌∷◌, length, map, Option, Some, Result, Ok, refl, sym, ap, ◌∙◌, subst, arith, ◌⊎◌, inl, inr}
use Rattle.std.specs.Prelude.{slice_get, unwrap_or, nat_lt, All}
use Rattle.std.specs.Option.{option_map}
use Rattle.std.proofs.Common.{lt-ltb}
use Rattle.std.proofs.lemmas.Option.{get_or_from_slice_get, slice_get_within}
use Rattle.std.proofs.lemmas.List.Elements.{All-nil, All-cons}
use Rattle.dip_lists.specs.First.{failure_of}
use Rattle.tl_params.specs.Operations.{is_nexus}
use Rattle.tl_params.specs.Carried.{all_zip}
use Rattle.tl_params.specs.declared.ports.DownPort.{DownPort}
use Rattle.tl_params.specs.declared.ports.UpPort.{UpPort}
use Rattle.dip_graph.specs.Edges.{edges_to, edges_from}
use Rattle.dip_graph.specs.Orders.{canonical_order}
use Rattle.dip_graph.specs.WellStated.{IsStatedKind, IsWellStated}
use Rattle.dip_graph.specs.declared.design.NodeKind.{NodeKind}
use Rattle.dip_graph.specs.declared.design.NodeKind.TheVariants.{Source, Sink, Ruled}
use Rattle.dip_graph.specs.declared.design.NodeEntry.{NodeEntry}
use Rattle.dip_graph.specs.declared.design.Design.{Design}
use Rattle.dip_graph.specs.declared.edges.Edge.{Edge}
use Rattle.dip_rule.specs.Stated.{template_of}
use Rattle.dip_stars.specs.Filled.{HasBothSides}
use Rattle.dip_negotiate.specs.declared.steps.Step.{Step}
use Rattle.dip_negotiate.specs.declared.steps.End.{End}
use Rattle.dip_negotiate.specs.Passes.{beside, OnlySolves, Pass, picked, stated}
use Rattle.dip_negotiate.specs.Places.{asked, source_end, sink_end, steps_up}
use Rattle.dip_negotiate.specs.Negotiation.{down_pass, downs, sink_port, up_at, up_pass, ups}
use Rattle.dip_negotiate.specs.Demands.{IsOneOf}
use Rattle.dip_negotiate.specs.Turns.{InTurn}
use Rattle.dip_negotiate.proofs.Law.{negotiation}
use Rattle.dip_negotiate.proofs.Turned.{up_in_turn}
use Rattle.dip_checks.specs.Checks.{edges_in, kind_misfits, ports_of, template_misfits}
use Rattle.tl_rules.specs.Fits.{adapter_fits, are_edges, fits, inputs_fit, outputs_fit, port_down, port_up, ports_at}
use Rattle.tl_rules.specs.Standard.{standard}
use Rattle.rule_laws.specs.DesignRefusals.{EachHasSmallPieces, HasSmallPieces}
use Rattle.rule_laws.proofs.Refusing.{at_rule}
use Rattle.rule_laws.proofs.Earlier.{agreed, before_twelve, first_place, GraphPasses, item_at, seventeen}
use Rattle.rule_laws.proofs.Agreeing.{ArePiecesSmall, each_fits, each_keeps_widths, IsNarrow, RuleFits, RuleKeepsWidths}
use Rattle.rule_laws.proofs.Never.{states_from, states_to}
use Rattle.rule_laws.proofs.Pairing.{at_nexus, edge_of_place, IsHere, joined}
use Rattle.rule_laws.proofs.Ruling.{asks_one, EndsAt, ends, IsRuled, known_kind, negotiable, nexus_is, numbered_from, numbered_to, ruled}

never : {Q : Type 0} → true ≡ false → Q
never z = absurd cc

same_some : {A : Type 0} (x y : A) → ◌≡◌ {A = Option A} (Some x) (Some y) → x ≡ y
same_some x y e = cc

same_ok : {P : Type 0} (x y : P) → ◌≡◌ {A = Result P ℕ} (Ok x) (Ok y) → x ≡ y
same_ok x y e = cc

and_both : (a b : Bool) → a ≡ true → b ≡ true → (a && b) ≡ true
and_both a b p q = rw (p, q) refl

-- ---- lists by numbers

down_is : (ports : List DownPort) (y : ℕ) (port : DownPort) → slice_get ports y ≡ Some port → port_down ports y ≡ port
down_is ports y port e = ap (λ o. unwrap_or o (record { masters = [] })) e

up_is : (ports : List UpPort) (y : ℕ) (port : UpPort) → slice_get ports y ≡ Some port → port_up ports y ≡ port
up_is ports y port e = ap (λ o. unwrap_or o (record { slaves = []; beat = 0 })) e

edges_exist : (down : List DownPort) (up : List UpPort) (ys : List ℕ) → ((y : ℕ) → IsOneOf y ys → (y < length down) × (y < length up)) → are_edges down up ys ≡ true
edges_exist down up [] h = refl
edges_exist down up (y ∷ ys) h =
    let l = h y (inl refl) in
    and_both (nat_lt y (length down) && nat_lt y (length up)) (are_edges down up ys) (and_both (nat_lt y (length down)) (nat_lt y (length up)) (lt-ltb y (length down) l.0) (lt-ltb y (length up) l.1))
    (edges_exist down up ys (λ z i. h z (inr i)))

-- the ports of edges by their numbers are those that are picked
module _ {P : Type 0} (port : List P → ℕ → P) (port_is : (ports : List P) (y : ℕ) (p : P) → slice_get ports y ≡ Some p → port ports y ≡ p) (ports : List P) where
  by_number : (ys : List ℕ) → ((y : ℕ) → IsOneOf y ys → y < length ports) → map (port ports) ys ≡ picked ports ys
  by_number [] h = refl
  by_number (y ∷ ys) h =
      let p = item_at ports y (h y (inl refl)) in
      ap (λ x. x ∷ map (port ports) ys) (port_is ports y p.0 p.1) ∙ ap (λ xs. p.0 ∷ xs) (by_number ys (λ z i. h z (inr i))) ∙ ap (λ o. beside o (picked ports ys)) (sym p.1)

  -- where they are all the same
  all_same : {Q : Type 0} (others : List Q) (one : P) (ys : List ℕ) → ((y : ℕ) → IsOneOf y ys → (y < length others) × (port ports y ≡ one)) → map (port ports) ys ≡ map (λ _. one) (picked others ys)
  all_same others one [] h = refl
  all_same others one (y ∷ ys) h =
      let l = h y (inl refl) in
      let p = item_at others y l.0 in
      ap (λ x. x ∷ map (port ports) ys) l.1 ∙ ap (λ xs. one ∷ xs) (all_same others one ys (λ z i. h z (inr i))) ∙ ap (λ o. map (λ _. one) (beside o (picked others ys))) (sym p.1)

-- two lists with as many items whose items don't all fit
record Misfits {A B : Type 0} (test : A → B → Bool) (xs : List A) (ys : List B) : Type 0 where
  place : ℕ
  left : A
  right : B
  left_is : slice_get xs place ≡ Some left
  right_is : slice_get ys place ≡ Some right
  fails : test left right ≡ false

misfits : {A B : Type 0} (test : A → B → Bool) (xs : List A) (ys : List B) → length xs ≡ length ys → all_zip test xs ys ≡ false → Misfits test xs ys
misfits test [] [] long h = absurd cc
misfits test [] (y ∷ ys) long h = absurd (omega (arith, long))
misfits test (x ∷ xs) [] long h = absurd (omega (arith, long))
misfits test (x ∷ xs) (y ∷ ys) long h = at (test x y) refl h (λ g. misfits test xs ys (omega (arith, long)) g)
  where
    at : (b : Bool) → test x y ≡ b → (b && all_zip test xs ys) ≡ false → (all_zip test xs ys ≡ false → Misfits test xs ys) → Misfits test (x ∷ xs) (y ∷ ys)
    at false q h f = record { place = 0; left = x; right = y; left_is = refl; right_is = refl; fails = q }
    at true q h f = let g = f h in record { place = suc g.place; left = g.left; right = g.right; left_is = g.left_is; right_is = g.right_is; fails = g.fails }

one_of_place : (xs : List ℕ) (i y : ℕ) → slice_get xs i ≡ Some y → IsOneOf y xs
one_of_place [] i y e = absurd cc
one_of_place (x ∷ xs) zero y e = inl (sym (same_some x y e))
one_of_place (x ∷ xs) (suc i) y e = inr (one_of_place xs i y e)

place_of_one : (xs : List ℕ) (y : ℕ) → IsOneOf y xs → (i : ℕ) × (slice_get xs i ≡ Some y)
place_of_one [] y h = absurd h
place_of_one (x ∷ xs) y (inl e) = (0, ap Some (sym e))
place_of_one (x ∷ xs) y (inr i) = let f = place_of_one xs y i in (suc f.0, f.1)

picked_narrow : (ports : List UpPort) (ys : List ℕ) → ((y : ℕ) → IsOneOf y ys → (port : UpPort) × (slice_get ports y ≡ Some port) × IsNarrow port) → All IsNarrow (picked ports ys)
picked_narrow ports [] h = All-nil IsNarrow
picked_narrow ports (y ∷ ys) h =
    let p = h y (inl refl) in
    subst (λ o. All IsNarrow (beside o (picked ports ys))) (sym p.1) (All-cons IsNarrow p.0 (picked ports ys) p.2 (picked_narrow ports ys (λ z i. h z (inr i))))

module _ (design : Design) (w : IsWellStated design) (g : GraphPasses standard design) (down : List DownPort) (up : List UpPort)
    (down_only : OnlySolves (down_pass standard design.nodes (edges_in standard design)) (edges_in standard design) down)
    (up_only : OnlySolves (up_pass standard design.nodes (edges_in standard design)) (edges_in standard design) up) where
  abbrev edges : List Edge
  edges = edges_in standard design

  abbrev steps : List Step
  steps = steps_up (canonical_order design) (edges_in standard design)

  abbrev pass_up : Pass UpPort
  pass_up = up_pass standard design.nodes (edges_in standard design)

  turns : InTurn pass_up edges steps
  turns = up_in_turn standard design edges (negotiable standard design w.bound g) steps refl

  -- ---- all buses have widths that buses may have

  abbrev NarrowAt : ℕ → Type 0
  NarrowAt y = (port : UpPort) × (slice_get up y ≡ Some port) × IsNarrow port

  stated_kind : (node : ℕ) (entry : NodeEntry) → slice_get design.nodes node ≡ Some entry → IsStatedKind entry.kind
  stated_kind node entry is = subst (λ (e : NodeEntry). IsStatedKind e.kind) (get_or_from_slice_get design.nodes node entry entry is)
      (w.nodes node entry (slice_get_within design.nodes node entry is)).2

  states_narrow : (k : ℕ) (edge : Edge) (port : UpPort) → slice_get edges k ≡ Some edge → ((y : ℕ) → IsOneOf y (pass_up.asks edge) → NarrowAt y) → stated pass_up up edge ≡ Ok port → IsNarrow port
  states_narrow k edge port is narrow e = at (ends standard design w.bound g k edge is)
    where
      at : EndsAt standard design.nodes edges edge → IsNarrow port
      at (inl sink) =
          let (entry, beat, sets, supports, i, q) = sink in
          let k : IsStatedKind (Sink beat sets supports) = subst (λ kind. IsStatedKind kind) q (stated_kind edge.to entry i) in
          subst IsNarrow (same_ok (sink_port edge.to edge.to_port beat sets supports) port
          (ap (λ o. up_at standard edge.to edge.to_port o (picked up (asked standard design.nodes edges sink_end source_end edge))) (sym (known_kind design.nodes edge.to entry (Sink beat sets supports) i q)) ∙ e))
          k.0
      at (inr r) =
          at_rule RuleKeepsWidths standard r.name r.rule each_keeps_widths r.found r.args (picked up (joined source_end edge.to (is_nexus r.rule.template) (sink_end edge) 0 edges)) port
          (subst (λ b. All IsNarrow (picked up (joined source_end edge.to b (sink_end edge) 0 edges))) (nexus_is standard design.nodes edges edge.to r) (picked_narrow up (pass_up.asks edge) narrow))
          (sym (states_to standard design.nodes edges edge edge.to r up refl) ∙ e)

  narrow_below : (n q : ℕ) (s : Step) → q < n → slice_get steps q ≡ Some s → NarrowAt s.number
  narrow_below zero q s l is = absurd (omega arith)
  narrow_below (suc n) q s l is = at (λ r t m it. narrow_below n r t m it)
    where
      at : ((r : ℕ) (t : Step) → r < n → slice_get steps r ≡ Some t → NarrowAt t.number) → NarrowAt s.number
      at f =
          let i = turns.sound q s is in
          let h = up_only.solves.holds s.number s.edge i in
          (h.port, h.here, states_narrow s.number s.edge h.port i (λ y j. let b = turns.behind q s is y j in subst NarrowAt b.4 (f b.0 b.1 (less b.0 b.2) b.3)) h.is)
        where
          less : (r : ℕ) → r < q → r < n
          less r m = omega arith

  narrow : (k : ℕ) (edge : Edge) → slice_get edges k ≡ Some edge → NarrowAt k
  narrow k edge is = let t = turns.whole k edge is in narrow_below (t.0 + 1) t.0 (record { number = k; edge = edge }) (omega arith) t.1

  -- ---- at one node

  module _ (node : ℕ) (r : IsRuled standard design.nodes (edges_in standard design) node) where
    abbrev ins : List ℕ
    ins = edges_to node (edges_in standard design)

    abbrev outs : List ℕ
    outs = edges_from node (edges_in standard design)

    law : RuleFits r.rule
    law = at_rule RuleFits standard r.name r.rule each_fits r.found

    in_at : (i y : ℕ) → slice_get ins i ≡ Some y → IsHere sink_end node 0 0 edges i y
    in_at i y e = edge_of_place sink_end node 0 0 edges (numbered_to standard design w.bound g node) i y e

    out_at : (i y : ℕ) → slice_get outs i ≡ Some y → IsHere source_end node 0 0 edges i y
    out_at i y e = edge_of_place source_end node 0 0 edges (numbered_from standard design w.bound g node) i y e

    edge_here : (side : Edge → End) (i y : ℕ) (h : IsHere side node 0 0 edges i y) → slice_get edges y ≡ Some h.edge
    edge_here side i y h = ap (slice_get edges) (h.number ∙ from_none h.behind) ∙ h.is
      where
        from_none : (j : ℕ) → 0 + j ≡ j
        from_none j = omega arith

    within : (y : ℕ) (edge : Edge) → slice_get edges y ≡ Some edge → (y < length down) × (y < length up)
    within y edge e =
        let l = slice_get_within edges y edge e in
        (subst (λ n. y < n) (sym down_only.solves.long) l, subst (λ n. y < n) (sym up_only.solves.long) l)

    ins_within : (y : ℕ) → IsOneOf y ins → (y < length down) × (y < length up)
    ins_within y i = let p = place_of_one ins y i in let h = in_at p.0 y p.1 in within y h.edge (edge_here sink_end p.0 y h)

    outs_within : (y : ℕ) → IsOneOf y outs → (y < length down) × (y < length up)
    outs_within y i = let p = place_of_one outs y i in let h = out_at p.0 y p.1 in within y h.edge (edge_here source_end p.0 y h)

    -- what is stated at the node, where an edge is at it
    ruled_from : (edge : Edge) → edge.from ≡ node → (asks : List ℕ) → joined sink_end node (is_nexus r.rule.template) (source_end edge) 0 edges ≡ asks
        → stated (down_pass standard design.nodes edges) down edge ≡ r.rule.down r.args (picked down asks)
    ruled_from edge e asks q = states_from standard design.nodes edges edge node r down e ∙ ap (λ ys. r.rule.down r.args (picked down ys)) q

    ruled_to : (edge : Edge) → edge.to ≡ node → (asks : List ℕ) → joined source_end node (is_nexus r.rule.template) (sink_end edge) 0 edges ≡ asks
        → stated (up_pass standard design.nodes edges) up edge ≡ r.rule.up r.args (picked up asks)
    ruled_to edge e asks q = states_to standard design.nodes edges edge node r up e ∙ ap (λ ys. r.rule.up r.args (picked up ys)) q

    -- ---- an adapter: in edge and out edge at the same place

    pair : is_nexus r.rule.template ≡ false → (i above below : ℕ) → slice_get ins i ≡ Some above → slice_get outs i ≡ Some below
        → (adapter_fits r.rule.template r.args (ports_at down up above) (ports_at down up below) ≡ true) ⊎ ArePiecesSmall r.rule.template r.args (port_up up below)
    pair single i above below a b =
        let same = pairs_same single in
        let ea = in_at i above a in
        let eb = out_at i below b in
        let ia = edge_here sink_end i above ea in
        let ib = edge_here source_end i below eb in
        let asks_down = asks_one source_end sink_end node edges (numbered_from standard design w.bound g node) (numbered_to standard design w.bound g node) below eb.edge ib eb.at same in
        let asks_up = asks_one sink_end source_end node edges (numbered_to standard design w.bound g node) (numbered_from standard design w.bound g node) above ea.edge ia ea.at (sym same) in
        let place_down : asks_down.place ≡ i = sym asks_down.port ∙ eb.on ∙ from_none i in
        let place_up : asks_up.place ≡ i = sym asks_up.port ∙ ea.on ∙ from_none i in
        let other_down : asks_down.other ≡ above = same_some asks_down.other above (sym asks_down.far_is ∙ ap (slice_get ins) place_down ∙ a) in
        let other_up : asks_up.other ≡ below = same_some asks_up.other below (sym asks_up.far_is ∙ ap (slice_get outs) place_up ∙ b) in
        let hd = down_only.solves.holds below eb.edge ib in
        let hu = up_only.solves.holds above ea.edge ia in
        let n = narrow below eb.edge ib in
        law.pair single r.args (port_down down above) (port_down down below) (port_up up below) (port_up up above)
        (ap (r.rule.down r.args) (sym (alone_down above (within above ea.edge ia).0))
        ∙ sym (ruled_from eb.edge eb.at (above ∷ []) (single_down eb.edge single ∙ asks_down.asks ∙ ap (λ y. y ∷ []) other_down))
        ∙ hd.is ∙ ap Ok (sym (down_is down below hd.port hd.here)))
        (ap (r.rule.up r.args) (sym (alone_up below (within below eb.edge ib).1))
        ∙ sym (ruled_to ea.edge ea.at (below ∷ []) (single_up ea.edge single ∙ asks_up.asks ∙ ap (λ y. y ∷ []) other_up))
        ∙ hu.is ∙ ap Ok (sym (up_is up above hu.port hu.here)))
        (subst IsNarrow (sym (up_is up below n.0 n.1)) n.2)
      where
        from_none : (j : ℕ) → 0 + j ≡ j
        from_none j = omega arith

        pairs_same : is_nexus r.rule.template ≡ false → length ins ≡ length outs
        pairs_same single = (subst (λ b. HasBothSides b (length ins) (length outs)) single r.sides).0

        single_down : (edge : Edge) → is_nexus r.rule.template ≡ false → joined sink_end node (is_nexus r.rule.template) (source_end edge) 0 edges ≡ joined sink_end node false (source_end edge) 0 edges
        single_down edge q = ap (λ b. joined sink_end node b (source_end edge) 0 edges) q

        single_up : (edge : Edge) → is_nexus r.rule.template ≡ false → joined source_end node (is_nexus r.rule.template) (sink_end edge) 0 edges ≡ joined source_end node false (sink_end edge) 0 edges
        single_up edge q = ap (λ b. joined source_end node b (sink_end edge) 0 edges) q

        alone_down : (y : ℕ) → y < length down → picked down (y ∷ []) ≡ port_down down y ∷ []
        alone_down y l = let p = item_at down y l in ap (λ o. beside o []) p.1 ∙ ap (λ x. x ∷ []) (sym (down_is down y p.0 p.1))

        alone_up : (y : ℕ) → y < length up → picked up (y ∷ []) ≡ port_up up y ∷ []
        alone_up y l = let p = item_at up y l in ap (λ o. beside o []) p.1 ∙ ap (λ x. x ∷ []) (sym (up_is up y p.0 p.1))

    -- ---- a nexus: the same goes up all in edges, and down all out edges

    nexus_fits : is_nexus r.rule.template ≡ true → (inputs_fit (map (port_up up) ins) (map (port_up up) outs) && outputs_fit (map (port_down down) ins) (map (port_down down) outs)) ≡ true
    nexus_fits nexus =
        let some = subst (λ b. HasBothSides b (length ins) (length outs)) nexus r.sides in
        let i = item_at ins 0 some.0 in
        let o = item_at outs 0 some.1 in
        let above = up_at_in i.0 (one_of_place ins 0 i.0 i.1) in
        let below = down_at_out o.0 (one_of_place outs 0 o.0 o.1) in
        let fit = law.nexus nexus r.args (picked down ins) below.0 (picked up outs) above.0 below.2 above.2 in
        let shown : map (port_up up) ins ≡ map (λ _. above.0) (picked down ins) =
        all_same port_up up_is up down above.0 ins (λ y m. let a = up_at_in y m in ((ins_within y m).0, a.1 ∙ same_ok a.0 above.0 (sym a.2 ∙ above.2))) in
        let taken : map (port_down down) outs ≡ map (λ _. below.0) (picked up outs) =
        all_same port_down down_is down up below.0 outs (λ y m. let b = down_at_out y m in ((outs_within y m).1, b.1 ∙ same_ok b.0 below.0 (sym b.2 ∙ below.2))) in
        let seen_up : map (port_up up) outs ≡ picked up outs = by_number port_up up_is up outs (λ y m. (outs_within y m).1) in
        let seen_down : map (port_down down) ins ≡ picked down ins = by_number port_down down_is down ins (λ y m. (ins_within y m).0) in
        ap (λ us. inputs_fit us (map (port_up up) outs) && outputs_fit (map (port_down down) ins) (map (port_down down) outs)) shown
        ∙ ap (λ us. inputs_fit (map (λ _. above.0) (picked down ins)) us && outputs_fit (map (port_down down) ins) (map (port_down down) outs)) seen_up
        ∙ ap (λ ds. inputs_fit (map (λ _. above.0) (picked down ins)) (picked up outs) && outputs_fit ds (map (port_down down) outs)) seen_down
        ∙ ap (λ ds. inputs_fit (map (λ _. above.0) (picked down ins)) (picked up outs) && outputs_fit (picked down ins) ds) taken
        ∙ fit
      where
        up_at_in : (y : ℕ) → IsOneOf y ins → (port : UpPort) × (port_up up y ≡ port) × (r.rule.up r.args (picked up outs) ≡ Ok port)
        up_at_in y m =
            let p = place_of_one ins y m in
            let h = in_at p.0 y p.1 in
            let is = edge_here sink_end p.0 y h in
            let s = up_only.solves.holds y h.edge is in
            (s.port, up_is up y s.port s.here, sym (ruled_to h.edge h.at outs (ap (λ b. joined source_end node b (sink_end h.edge) 0 edges) nexus ∙ at_nexus source_end node (sink_end h.edge) h.at 0 edges)) ∙ s.is)

        down_at_out : (y : ℕ) → IsOneOf y outs → (port : DownPort) × (port_down down y ≡ port) × (r.rule.down r.args (picked down ins) ≡ Ok port)
        down_at_out y m =
            let p = place_of_one outs y m in
            let h = out_at p.0 y p.1 in
            let is = edge_here source_end p.0 y h in
            let s = down_only.solves.holds y h.edge is in
            (s.port, down_is down y s.port s.here, sym (ruled_from h.edge h.at ins (ap (λ b. joined sink_end node b (source_end h.edge) 0 edges) nexus ∙ at_nexus sink_end node (source_end h.edge) h.at 0 edges)) ∙ s.is)

    -- ---- what doesn't fit

    small : fits r.rule.template r.args ins outs down up ≡ false → HasSmallPieces design (edges_in standard design) up node
    small h = at (is_nexus r.rule.template) refl (out_of_edges h)
      where
        out_of_edges : fits r.rule.template r.args ins outs down up ≡ false
            → cond (is_nexus r.rule.template)
            (inputs_fit (map (port_up up) ins) (map (port_up up) outs) && outputs_fit (map (port_down down) ins) (map (port_down down) outs))
            (all_zip (λ above below. adapter_fits r.rule.template r.args (ports_at down up above) (ports_at down up below)) ins outs) ≡ false
        out_of_edges h = rw (edges_exist down up ins ins_within, edges_exist down up outs outs_within) at h

        at : (b : Bool) → is_nexus r.rule.template ≡ b
            → cond b (inputs_fit (map (port_up up) ins) (map (port_up up) outs) && outputs_fit (map (port_down down) ins) (map (port_down down) outs))
            (all_zip (λ above below. adapter_fits r.rule.template r.args (ports_at down up above) (ports_at down up below)) ins outs) ≡ false
            → HasSmallPieces design (edges_in standard design) up node
        at true q h = never (sym (nexus_fits q) ∙ h)
        at false q h =
            let m = misfits (λ above below. adapter_fits r.rule.template r.args (ports_at down up above) (ports_at down up below)) ins outs
            (subst (λ b. HasBothSides b (length ins) (length outs)) q r.sides).0 h in
            elim (pair q m.place m.left m.right m.left_is m.right_is) [
              | inl t ↦ never (sym t ∙ m.fails)
              | inr s ↦ (let e = out_at m.place m.right m.right_is in
                  let is = edge_here source_end m.place m.right e in
                  let n = narrow m.right e.edge is in
                  record {
                    rule = r.rule;
                    args = r.args;
                    has = record { entry = r.entry; kind = r.name; is = r.is; ruled = r.kind; found = r.found };
                    template = s.0;
                    fragments = s.1;
                    taken = s.2;
                    number = m.right;
                    edge = e.edge;
                    is = is;
                    from = e.at;
                    port = n.0;
                    up = n.1;
                    small = subst (λ (p : UpPort). s.1.piece < p.beat) (up_is up m.right n.0 n.1) s.3;
                  })
            ]

  -- the node that doesn't fit
  misfitting : (node : ℕ) (entry : NodeEntry) → slice_get design.nodes node ≡ Some entry → (kind : NodeKind) → entry.kind ≡ kind → kind_misfits standard node kind (edges_in standard design) down up ≡ true
      → HasSmallPieces design (edges_in standard design) up node
  misfitting node entry is (Source ports ids emits) k h = absurd cc
  misfitting node entry is (Sink beat ports supports) k h = absurd cc
  misfitting node entry is (Ruled name args) k h =
      let r = ruled standard design w.bound g node entry name args is k in
      let same : entry ≡ r.entry = same_some entry r.entry (sym is ∙ r.is) in
      let kinds : Ruled name args ≡ Ruled r.name r.args = sym k ∙ ap (λ (e : NodeEntry). e.kind) same ∙ r.kind in
      let n : name ≡ r.name = cc in
      let a : args ≡ r.args = cc in
      let t : template_of standard name ≡ Some r.rule.template = ap (template_of standard) n ∙ ap (λ o. option_map (λ rule. rule.template) o) r.found in
      small node r (not_true _ (subst (λ xs. not (fits r.rule.template xs (edges_to node edges) (edges_from node edges) down up) ≡ true) a
      (subst (λ o. template_misfits o args node edges down up ≡ true) t h)))
    where
      not_true : (b : Bool) → not b ≡ true → b ≡ false
      not_true true h = absurd cc
      not_true false h = refl

pub each_has_small_pieces : EachHasSmallPieces
each_has_small_pieces design w node h =
    let b = before_twelve standard design (failure_of 17 node) h (omega arith) in
    let s = seventeen standard design (failure_of 17 node) refl b in
    let n = negotiable standard design w.bound b.graph in
    let down_only = negotiation.down standard design (edges_in standard design) n (ports_of (downs standard design (edges_in standard design))) (agreed (λ edge. edge.from) (downs standard design (edges_in standard design)) b.down) in
    let up_only = negotiation.up standard design (edges_in standard design) n (ports_of (ups standard design (edges_in standard design))) (agreed (λ edge. edge.to) (ups standard design (edges_in standard design)) s.0) in
    let p = first_place _ 0 design.nodes node s.1 in
    let z : node ≡ p.behind = p.number ∙ from_none p.behind in
    misfitting design w b.graph (ports_of (downs standard design (edges_in standard design))) (ports_of (ups standard design (edges_in standard design))) down_only up_only node p.item
    (ap (slice_get design.nodes) z ∙ p.is) p.item.kind refl p.passes
  where
    from_none : (j : ℕ) → 0 + j ≡ j
    from_none j = omega arith
