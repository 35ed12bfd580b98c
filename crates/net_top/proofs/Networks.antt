-- A whole builder's netlist is the network of its plan.
use Rattle.std.proofs.Common.{◌≡◌, ℕ, zero, suc, ◌+◌, ◌<◌, ◌==◌, true, false, List, [], ◌∷◌, ◌++◌, length, map, flat_map, get_or, Option, Some, refl, sym, ap, ◌∙◌, subst, arith, slice_get}
use Rattle.std.proofs.lemmas.List.{map-append}
use Rattle.std.proofs.lemmas.Option.{slice_get_within, get_or_from_slice_get}
use Rattle.tl_edge.specs.declared.plan.Plan.{Plan}
use Rattle.tl_edge.specs.declared.plan.PlanPort.{PlanPort}
use Rattle.tl_edge.specs.Plans.{edge_at}
use Rattle.tl_edge.specs.Plans.Giver.{Source}
use Rattle.tl_edge.specs.Plans.Taker.{Sink}
use Rattle.tl_edge.specs.SoundPlans.{IsSound}
use Rattle.tl_edge.proofs.Ways.{ends_law}
use Rattle.flow_core.specs.Network.{State, network_at_start}
use Rattle.flow_choice.specs.declared.offers.Offers.{Offers}
use Rattle.flow_choice.specs.Choosing.{state_after_cycle}
use Rattle.net_cells.specs.declared.netlist.Netlist.{Netlist}
use Rattle.net_cells.specs.declared.netlist.OutPort.{OutPort}
use Rattle.net_cells.specs.declared.netlist.Port.{Port}
use Rattle.net_cells.specs.Rules.{width_at, widths}
use Rattle.net_cells.specs.Values.{AreValues, IsRun, IsRunFrom, first_registers, next_registers}
use Rattle.net_build.specs.declared.types.Wire.{Wire}
use Rattle.net_build.specs.Bits.{wire_values}
use Rattle.net_build.specs.Built.{Built, IsWire}
use Rattle.net_build.specs.Numbering.{KeepsValues, at_wires, finished, net_of, out_of}
use Rattle.net_build.specs.Registers.{AreWires}
use Rattle.net_build.specs.Values.{HasInputs, Solves}
use Rattle.net_build.proofs.Nets.{keeps_widths}
use Rattle.net_build.proofs.Places.{get_mapped}
use Rattle.net_ports.specs.Implementing.{AreOffered, AreOffersAt, Implements, input_values, shown_values, outputs_by_cycle, outputs_of, sink_shows, sink_values, source_shows, source_values}
use Rattle.net_ports.specs.Ports.{HasPorts, shown_port, sink_outputs, source_outputs}
use Rattle.net_ports.specs.Rows.{values_from, widths_of_ports}
use Rattle.net_parts.specs.Law.{WiredLaw}
use Rattle.net_parts.specs.Stands.{AreCycles, IsCalm, Offer, ShowAll, ShowEach}
use Rattle.net_parts.specs.Wired.{IsWired, Occurs, wires_of_edges, wires_of_leaf, wires_of_port}
use Rattle.net_parts.proofs.Weaker.{leaf_weaker}
use Rattle.net_top.specs.declared.types.Laid.{Laid}
use Rattle.net_faces.specs.declared.types.PortWires.{PortWires}
use Rattle.net_faces.specs.declared.types.Shown.{Shown}
use Rattle.net_queue.specs.Leaves.{IsLeaf, ins_at, outs_at}
use Rattle.net_kinds.specs.Kinds.{MachinesLaw, fits_at, machine_at}
use Rattle.net_faces.specs.PortRows.{sink_row, source_row}
use Rattle.net_faces.specs.Showing.{all_shown}
use Rattle.net_top.specs.Whole.{IsWhole, wiring}
use Rattle.net_top.proofs.Offering.{sink_values_long, sinks_told, source_values_long, sources_told, values_all, values_back, values_behind, values_front}
use Rattle.net_top.proofs.Sights.{rows_shown, rows_values, sink_sight, source_sight}

some_in : {A : Type 0} (xs : List A) (k : ℕ) → k < length xs → (x : A) × (slice_get xs k ≡ Some x)
some_in [] k l = absurd (omega (arith, l))
some_in (x ∷ xs) zero l = (x, refl)
some_in (x ∷ xs) (suc k) l = some_in xs k (omega (arith, l))

-- ---- the wires are joined

module _ (b : Built) (plan : Plan) (ports : PortWires) (laid : Laid) (shown : Shown) (sound : IsSound plan) (whole : IsWhole b plan ports laid shown) where
  -- each leaf's wires are its machine
  leaf_wired : MachinesLaw → (leaf : ℕ) → leaf < length plan.leaves
      → IsLeaf b (wires_of_edges laid.edges (ins_at plan leaf)) (wires_of_edges laid.edges (outs_at plan leaf)) (wires_of_leaf laid.leaves leaf) (machine_at plan leaf) (Occurs plan leaf)
  leaf_wired kinds leaf l =
      leaf_weaker b (machine_at plan leaf) (fits_at plan leaf) (Occurs plan leaf) (λ s x o. kinds.fits plan leaf s x sound l o) (wires_of_edges laid.edges (ins_at plan leaf)) (wires_of_edges laid.edges (outs_at plan leaf)) (wires_of_leaf laid.leaves leaf) (whole.leaves.each leaf l).machine

  pub are_wired : MachinesLaw → IsWired b plan (machine_at plan) (wiring ports laid)
  are_wired kinds = record {
    closed = λ edge giver taker g t. whole.closed.each edge giver taker (ends_law.given plan edge giver sound g) g t;
    leaf = leaf_wired kinds;
    shaped = λ leaf l. (whole.leaves.each leaf l).shaped;
    source = λ port at e. (whole.source_ends.each port at e).passes;
    sink = λ port at e. (whole.sink_ends.each port at e).passes;
  }

  -- ---- what ports offer

  source_items : (k : ℕ) → k < length ports.sources → length (wires_of_port ports.sources k).put.items ≡ 7
  source_items k l = let x = some_in plan.sources k (omega (arith, l, whole.sources.long)) in (whole.sources.each k x.0 x.1).long

  sink_items : (k : ℕ) → k < length ports.sinks → length (wires_of_port ports.sinks k).put.items ≡ 5
  sink_items k l = let x = some_in plan.sinks k (omega (arith, l, whole.sinks.long)) in (whole.sinks.each k x.0 x.1).long

  offer_of : (offers : Offers) (v : ℕ → ℕ) → AreOffersAt plan offers → HasInputs b (input_values offers) v → Offer (wiring ports laid) offers v
  offer_of offers v good ins =
      let xs = source_values offers.enter offers.take_d in
      let ys = sink_values offers.take_a offers.reply in
      let one = flat_map source_row ports.sources in
      let two = flat_map sink_row ports.sinks in
      let e1 : length offers.enter ≡ length ports.sources = good.enter_long ∙ sym whole.sources.long in
      let e2 : length offers.take_d ≡ length ports.sources = good.take_d_long ∙ sym whole.sources.long in
      let e3 : length offers.take_a ≡ length ports.sinks = good.take_a_long ∙ sym whole.sinks.long in
      let e4 : length offers.reply ≡ length ports.sinks = good.reply_long ∙ sym whole.sinks.long in
      let l1 = source_values_long v ports.sources offers.enter offers.take_d e1 e2 source_items in
      let l2 = sink_values_long v ports.sinks offers.reply offers.take_a e4 e3 sink_items in
      let r1 : wire_values v one ≡ xs =
      whole.read_sources.at (input_values offers) v ins ∙ values_behind 0 (xs ++ ys) 0 (length one) ∙ ap (values_from (xs ++ ys) 0) l1 ∙ values_front xs ys in
      let far : 1 + length one ≡ length xs + 1 = omega (arith, l1) in
      let r2 : wire_values v two ≡ ys =
      whole.read_sinks.at (input_values offers) v ins
      ∙ ap (λ (n : ℕ). values_from (0 ∷ (xs ++ ys)) n (length two)) far
      ∙ values_behind 0 (xs ++ ys) (length xs) (length two)
      ∙ values_back xs ys (length two) ∙ ap (values_from ys 0) l2 ∙ values_all ys in
      let s = sources_told v ports.sources offers.enter offers.take_d e1 e2 source_items r1 in
      let k = sinks_told v ports.sinks offers.reply offers.take_a e4 e3 sink_items r2 in
      record {
        enter = λ port l. (s port (omega (arith, l, e1))).put;
        take_d = λ port l. (s port (omega (arith, l, e2))).take;
        take_a = λ port l. (k port (omega (arith, l, e3))).take;
        reply = λ port l. (k port (omega (arith, l, e4))).put;
      }

  -- ---- what the outputs show

  source_there : (port : ℕ) (at : PlanPort) → slice_get plan.sources port ≡ Some at → at.edge < length plan.edges
  source_there port at e = ends_law.given plan at.edge (Source port) sound (at, e, refl)

  sink_there : (port : ℕ) (at : PlanPort) → slice_get plan.sinks port ≡ Some at → at.edge < length plan.edges
  sink_there port at e = ends_law.taken plan at.edge (Sink port) sound (at, e, refl)

  sights : (v : ℕ → ℕ) (s : State) → Solves b v → s.plan ≡ plan → ShowAll plan (wiring ports laid) v s → map (λ (o : OutPort). v o.net) b.outputs ≡ shown_values s
  sights v s sol its shows =
      ap (map (λ (o : OutPort). v o.net)) whole.outputs
      ∙ map-append (λ (o : OutPort). v o.net) (all_shown (source_outputs plan) plan.sources shown.sources) (all_shown (sink_outputs plan) plan.sinks shown.sinks)
      ∙ ap (λ (xs : List ℕ). xs ++ map (λ (o : OutPort). v o.net) (all_shown (sink_outputs plan) plan.sinks shown.sinks))
      (rows_values v (source_outputs plan) (source_shows s) plan.sources shown.sources whole.source_rows.long
      (λ k at e. let r = whole.source_rows.each k at e in (r.long, source_sight b plan (wiring ports laid) v s sol shows (edge_at plan at.edge) at _ (source_there k at e) (whole.wide at.edge (source_there k at e)).1 r)))
      ∙ ap (λ (xs : List ℕ). flat_map (source_shows s) plan.sources ++ xs)
      (rows_values v (sink_outputs plan) (sink_shows s) plan.sinks shown.sinks whole.sink_rows.long
      (λ k at e. let r = whole.sink_rows.each k at e in (r.long, sink_sight b plan (wiring ports laid) v s sol shows (edge_at plan at.edge) at _ (sink_there k at e) (whole.wide at.edge (sink_there k at e)).0 r)))
      ∙ ap (λ (p : Plan). flat_map (source_shows s) p.sources ++ flat_map (sink_shows s) p.sinks) (sym its)

  -- ---- its netlist

  module _ (n : Netlist) (is : n ≡ finished b) (keeps : KeepsValues n b) where
    shown_is : (v : ℕ → ℕ) (outs : List OutPort) → map (λ (o : OutPort). v o.net) (map (out_of (net_of b.made)) outs) ≡ map (λ (o : OutPort). at_wires b v o.net) outs
    shown_is v [] = refl
    shown_is v (o ∷ outs) = ap (λ (xs : List ℕ). at_wires b v o.net ∷ xs) (shown_is v outs)

    outputs_are : (v : ℕ → ℕ) → outputs_of n v ≡ map (λ (o : OutPort). at_wires b v o.net) b.outputs
    outputs_are v = ap (λ (m : Netlist). outputs_of m v) is ∙ shown_is v b.outputs

    wide_net : (w : Wire) (width : ℕ) → IsWire b w → w.width ≡ width → width_at (widths n) (net_of b.made w.number) ≡ width
    wide_net w width h e = ap (λ (m : Netlist). width_at (widths m) (net_of b.made w.number)) is ∙ (keeps_widths b w.number w.width h.has).1 ∙ e

    port_shown : (ports : List Port) (row : List Wire) → AreWires b (widths_of_ports ports) row → (k : ℕ) (p : Port) (w : Wire) → slice_get ports k ≡ Some p → slice_get row k ≡ Some w
        → shown_port n (out_of (net_of b.made) (record { name = p.name; net = w.number })) ≡ p
    port_shown ports row h k p w e g =
        let x = h.each k w (slice_get_within row k w g) in
        let r : get_or row k w ≡ w = get_or_from_slice_get row k w w g in
        let d : get_or (widths_of_ports ports) k 0 ≡ p.width = get_or_from_slice_get (widths_of_ports ports) k p.width 0 (get_mapped (λ (port : Port). port.width) ports k p e) in
        ap (λ (width : ℕ). record { name = p.name; width = width }) (wide_net w p.width (subst (IsWire b) r x.0) (ap (λ (y : Wire). y.width) (sym r) ∙ x.1 ∙ d))

    mapped_twice : (outs : List OutPort) → map (shown_port n) (map (out_of (net_of b.made)) outs) ≡ map (λ (o : OutPort). shown_port n (out_of (net_of b.made) o)) outs
    mapped_twice [] = refl
    mapped_twice (o ∷ outs) = ap (λ (xs : List Port). shown_port n (out_of (net_of b.made) o) ∷ xs) (mapped_twice outs)

    pub has_ports : HasPorts plan n
    has_ports = record {
      name = ap (λ (m : Netlist). m.name) is ∙ whole.name;
      inputs = ap (λ (m : Netlist). m.inputs) is ∙ whole.inputs;
      outputs =
          ap (λ (m : Netlist). map (shown_port n) m.outputs) is ∙ mapped_twice b.outputs
          ∙ ap (map (λ (o : OutPort). shown_port n (out_of (net_of b.made) o))) whole.outputs
          ∙ map-append (λ (o : OutPort). shown_port n (out_of (net_of b.made) o)) (all_shown (source_outputs plan) plan.sources shown.sources) (all_shown (sink_outputs plan) plan.sinks shown.sinks)
          ∙ ap (λ (xs : List Port). xs ++ map (λ (o : OutPort). shown_port n (out_of (net_of b.made) o)) (all_shown (sink_outputs plan) plan.sinks shown.sinks))
          (rows_shown (λ (o : OutPort). shown_port n (out_of (net_of b.made) o)) (source_outputs plan) plan.sources shown.sources whole.source_rows.long
          (λ k at e. let r = whole.source_rows.each k at e in (r.long, port_shown (source_outputs plan at) _ r.wide)))
          ∙ ap (λ (xs : List Port). flat_map (source_outputs plan) plan.sources ++ xs)
          (rows_shown (λ (o : OutPort). shown_port n (out_of (net_of b.made) o)) (sink_outputs plan) plan.sinks shown.sinks whole.sink_rows.long
          (λ k at e. let r = whole.sink_rows.each k at e in (r.long, port_shown (sink_outputs plan at) _ r.wide)));
    }

    -- ---- runs

    calm_of : (offers : Offers) (registers : List ℕ) (v : ℕ → ℕ) → length (input_values offers) ≡ length n.inputs → AreValues n (input_values offers ++ registers) v → IsCalm b (at_wires b v)
    calm_of offers registers v l a = record {
      solves = keeps.solves (input_values offers ++ registers) v a;
      calm = ap (λ (x : ℕ). x == 1) (keeps.reads (input_values offers) registers v l a).reset;
    }

    cycles_of : (s : State) (offers : Offers) (cycles : List Offers) (registers : List ℕ) (v : ℕ → ℕ) (vs : List (ℕ → ℕ)) → AreOffered plan s (offers ∷ cycles) → IsRunFrom n registers (map input_values (offers ∷ cycles)) (v ∷ vs)
        → AreCycles b (wiring ports laid) (offers ∷ cycles) (map (at_wires b) (v ∷ vs))
    cycles_of s offers [] registers v [] good r =
        (calm_of offers registers v r.0 r.1, offer_of offers (at_wires b v) good.0 (keeps.reads (input_values offers) registers v r.0 r.1))
    cycles_of s offers [] registers v (u ∷ vs) good r = absurd r.2
    cycles_of s offers (later ∷ cycles) registers v [] good r = absurd r.2
    cycles_of s offers (later ∷ cycles) registers v (u ∷ vs) good r = (
      calm_of offers registers v r.0 r.1,
      offer_of offers (at_wires b v) good.0 (keeps.reads (input_values offers) registers v r.0 r.1),
      keeps.ticks (input_values later) v u r.2.0 r.2.1,
      cycles_of (state_after_cycle s offers) later cycles (next_registers n v) u vs good.2 r.2,
    )

    shows_each : (s : State) (offers : Offers) (cycles : List Offers) (registers : List ℕ) (v : ℕ → ℕ) (vs : List (ℕ → ℕ)) → AreOffered plan s (offers ∷ cycles) → IsRunFrom n registers (map input_values (offers ∷ cycles)) (v ∷ vs)
        → ShowEach plan (wiring ports laid) s (offers ∷ cycles) (map (at_wires b) (v ∷ vs)) → map (outputs_of n) (v ∷ vs) ≡ outputs_by_cycle s (offers ∷ cycles)
    shows_each s offers [] registers v [] good r e =
        ap (λ (x : List ℕ). x ∷ []) (outputs_are v ∙ sights (at_wires b v) s (keeps.solves _ v r.1) good.1.shape.plan e.0)
    shows_each s offers [] registers v (u ∷ vs) good r e = absurd r.2
    shows_each s offers (later ∷ cycles) registers v [] good r e = absurd r.2
    shows_each s offers (later ∷ cycles) registers v (u ∷ vs) good r e =
        ap (λ (x : List ℕ). x ∷ map (outputs_of n) (u ∷ vs)) (outputs_are v ∙ sights (at_wires b v) s (keeps.solves _ v r.1) good.1.shape.plan e.0)
        ∙ ap (λ (xs : List (List ℕ)). shown_values s ∷ xs) (shows_each (state_after_cycle s offers) later cycles (next_registers n v) u vs good.2 r.2 e.1)

    module _ (law : WiredLaw) (kinds : MachinesLaw) where
      runs : (cycles : List Offers) (values : List (ℕ → ℕ)) → AreOffered plan (network_at_start plan) cycles → IsRun n (map input_values cycles) values → map (outputs_of n) values ≡ outputs_by_cycle (network_at_start plan) cycles
      runs [] [] good r = refl
      runs [] (v ∷ vs) good r = absurd r
      runs (offers ∷ cycles) [] good r = absurd r
      runs (offers ∷ cycles) (v ∷ vs) good r =
          shows_each (network_at_start plan) offers cycles (first_registers n) v vs good r
          (law b plan (machine_at plan) (wiring ports laid) offers cycles (at_wires b v) (map (at_wires b) vs) sound (are_wired kinds) (kinds.machines plan sound) good
          (keeps.starts (input_values offers) v r.0 r.1)
          (cycles_of (network_at_start plan) offers cycles (first_registers n) v vs good r))

      pub implements : Implements plan n
      implements = record { ports = has_ports; runs = runs }
