-- The parts of a whole netlist, made one after another, are a whole builder.
use Rattle.std.proofs.Common.{◌≡◌, ℕ, ◌+◌, List, [], ◌∷◌, ◌++◌, length, flat_map, ap, ◌∙◌, subst}
use Rattle.std.specs.Prelude.{codes}
use Rattle.tl_edge.specs.declared.plan.Plan.{Plan}
use Rattle.tl_edge.specs.declared.plan.PlanPort.{PlanPort}
use Rattle.tl_edge.specs.SoundPlans.{IsSound}
use Rattle.net_build.specs.Built.{Built, begun, inputs, undriven}
use Rattle.net_build.specs.Registers.{DrivesAll, numbers}
use Rattle.net_build.specs.Values.{Adds, Later, Opens}
use Rattle.net_build.proofs.Steps.{later_later}
use Rattle.net_queue.specs.declared.types.EdgeWires.{EdgeWires}
use Rattle.net_queue.specs.declared.types.LeafWires.{LeafWires}
use Rattle.net_ports.specs.Ports.{port_inputs, reset_input, sink_outputs, source_outputs}
use Rattle.net_ports.specs.Rows.{AddsInputs, AddsOutputs}
use Rattle.net_ports.proofs.RowSteps.{read_later}
use Rattle.net_parts.specs.declared.types.EndWires.{EndWires}
use Rattle.net_leaves.specs.LeafWiring.{AreLeavesInWires}
use Rattle.net_leaves.specs.OpenEdges.{AreOpenEdges, all_registers}
use Rattle.net_leaves.proofs.Later.{edges_long, leaves_later}
use Rattle.net_ends.specs.Ends.{AreSinkEnds, AreSourceEnds, sink_widths, source_widths}
use Rattle.net_ends.proofs.Later.{offers_later, sink_ends_later, source_ends_later}
use Rattle.net_joins.specs.Closing.{AreClosed, ArePutInto}
use Rattle.net_joins.proofs.Later.{closed_later}
use Rattle.net_faces.specs.declared.types.PortWires.{PortWires}
use Rattle.net_faces.specs.declared.types.Shown.{Shown}
use Rattle.net_faces.specs.PortRows.{sink_row, source_row}
use Rattle.net_faces.specs.Showing.{AreSinkRows, AreSourceRows, all_shown}
use Rattle.net_faces.proofs.Later.{sink_rows_later, source_rows_later}
use Rattle.net_top.specs.declared.types.Laid.{Laid}
use Rattle.net_top.specs.Laying.{AreFaces, IsLaid}
use Rattle.net_top.specs.Whole.{IsWhole}

-- ---- what passes at ports can be put into the queues

pub sources_put : (b : Built) (ports : List PlanPort) (edges : List EdgeWires) (offered gated : List EndWires) → AreSourceEnds b ports edges offered gated → ArePutInto b (λ (e : EdgeWires). e.a) edges ports gated
sources_put b ports edges offered gated h = record {
  long = h.long;
  put = λ port at e. (h.each port at e).into;
  take = λ port at e. (h.each port at e).take;
}

pub sinks_put : (b : Built) (ports : List PlanPort) (edges : List EdgeWires) (offered gated : List EndWires) → AreSinkEnds b ports edges offered gated → ArePutInto b (λ (e : EdgeWires). e.d) edges ports gated
sinks_put b ports edges offered gated h = record {
  long = h.long;
  put = λ port at e. (h.each port at e).into;
  take = λ port at e. (h.each port at e).take;
}

-- ---- what stays

pub faces_later : (old new : Built) (plan : Plan) (ports : PortWires) → Later old new → AreFaces old plan ports → AreFaces new plan ports
faces_later old new plan ports l h = record {
  sources = offers_later old new (source_widths plan) plan.sources ports.sources l h.sources;
  sinks = offers_later old new (sink_widths plan) plan.sinks ports.sinks l h.sinks;
  read_sources = read_later old new 1 (flat_map source_row ports.sources) l h.read_sources;
  read_sinks = read_later old new (1 + length (flat_map source_row ports.sources)) (flat_map sink_row ports.sinks) l h.read_sinks;
}

pub laid_later : (old new : Built) (plan : Plan) (ports : PortWires) (laid : Laid) → Later old new → IsLaid old plan ports laid → IsLaid new plan ports laid
laid_later old new plan ports laid l h = record {
  leaves = leaves_later old new plan laid.edges (length plan.leaves) laid.leaves l h.leaves;
  sources = source_ends_later old new plan.sources laid.edges ports.sources laid.sources l h.sources;
  sinks = sink_ends_later old new plan.sinks laid.edges ports.sinks laid.sinks l h.sinks;
}

-- queues, leaves and gates, made one after another
pub laid_of : (b2 b3 b4 : Built) (plan : Plan) (ports : PortWires) (laid : Laid) (one two three : List EdgeWires) (offered replied : List EndWires) → one ≡ laid.edges → two ≡ laid.edges → three ≡ laid.edges → offered ≡ ports.sources → replied ≡ ports.sinks
    → Adds b2 b3 → Adds b3 b4 → AreLeavesInWires b2 plan one (length plan.leaves) laid.leaves → AreSourceEnds b3 plan.sources two offered laid.sources → AreSinkEnds b4 plan.sinks three replied laid.sinks → IsLaid b4 plan ports laid
laid_of b2 b3 b4 plan ports laid one two three offered replied e1 e2 e3 e4 e5 a c l s k = record {
  leaves = leaves_later b2 b4 plan laid.edges (length plan.leaves) laid.leaves (later_later b2 b3 b4 a.later c.later) (subst (λ (es : List EdgeWires). AreLeavesInWires b2 plan es (length plan.leaves) laid.leaves) e1 l);
  sources = source_ends_later b3 b4 plan.sources laid.edges ports.sources laid.sources c.later
      (subst (λ (es : List EdgeWires). AreSourceEnds b3 plan.sources es ports.sources laid.sources) e2 (subst (λ (os : List EndWires). AreSourceEnds b3 plan.sources two os laid.sources) e4 s));
  sinks = subst (λ (es : List EdgeWires). AreSinkEnds b4 plan.sinks es ports.sinks laid.sinks) e3 (subst (λ (os : List EndWires). AreSinkEnds b4 plan.sinks three os laid.sinks) e5 k);
}

pub closed_of : (b : Built) (plan : Plan) (laid : Laid) (edges : List EdgeWires) (leaves : List LeafWires) (sources sinks : List EndWires) → edges ≡ laid.edges → leaves ≡ laid.leaves → sources ≡ laid.sources → sinks ≡ laid.sinks
    → AreClosed b plan edges leaves sources sinks (length plan.edges) → AreClosed b plan laid.edges laid.leaves laid.sources laid.sinks (length plan.edges)
closed_of b plan laid edges leaves sources sinks e l s k h =
    subst (λ (es : List EdgeWires). AreClosed b plan es laid.leaves laid.sources laid.sinks (length plan.edges)) e
    (subst (λ (ls : List LeafWires). AreClosed b plan edges ls laid.sources laid.sinks (length plan.edges)) l
    (subst (λ (ss : List EndWires). AreClosed b plan edges leaves ss laid.sinks (length plan.edges)) s
    (subst (λ (ks : List EndWires). AreClosed b plan edges leaves sources ks (length plan.edges)) k h)))

-- ---- the whole

module _ (plan : Plan) (ports : PortWires) (laid : Laid) (shown : Shown) (b0 b1 b2 b3 : Built)
    (begins : b0 ≡ begun (codes "m_" ++ plan.name)) (enters : AddsInputs b0 b1 (port_inputs plan)) (opens : Opens b1 b2 (numbers (all_registers laid.edges)))
    (reads : Adds b2 b3) where
  pub begun_inputs : inputs b0 ≡ reset_input ∷ []
  begun_inputs = ap inputs begins

  pub begun_outputs : b0.outputs ≡ []
  begun_outputs = ap (λ (b : Built). b.outputs) begins

  pub waiting : undriven b3 ≡ numbers (all_registers laid.edges)
  waiting = reads.undriven ∙ opens.undriven ∙ ap (λ (ns : List ℕ). ns ++ numbers (all_registers laid.edges)) (enters.undriven ∙ ap undriven begins)

  pub their_inputs : inputs b3 ≡ reset_input ∷ port_inputs plan
  their_inputs = reads.inputs ∙ opens.inputs ∙ enters.inputs ∙ ap (λ (ps : List _). ps ++ port_inputs plan) begun_inputs

  pub no_outputs : b3.outputs ≡ []
  no_outputs = reads.outputs ∙ opens.outputs ∙ enters.outputs ∙ begun_outputs

  their_name : b3.name ≡ codes "m_" ++ plan.name
  their_name = reads.later.name ∙ opens.later.name ∙ enters.later.name ∙ ap (λ (b : Built). b.name) begins

  module _ (sound : IsSound plan) (b4 b5 : Built) (rs : List ℕ) (faces : AreFaces b1 plan ports) (edges : AreOpenEdges b2 plan laid.edges) (lies : IsLaid b2 plan ports laid)
      (source_rows : AreSourceRows b3 plan laid.edges shown.sources) (sink_rows : AreSinkRows b3 plan laid.edges shown.sinks)
      (drives : DrivesAll b3 b4 rs) (none : undriven b4 ≡ []) (closed : AreClosed b4 plan laid.edges laid.leaves laid.sources laid.sinks (length plan.edges))
      (shows : AddsOutputs b4 b5 (all_shown (source_outputs plan) plan.sources shown.sources ++ all_shown (sink_outputs plan) plan.sinks shown.sinks)) where
    from3 : Later b3 b5
    from3 = later_later b3 b4 b5 drives.later shows.later

    from2 : Later b2 b5
    from2 = later_later b2 b3 b5 reads.later from3

    from1 : Later b1 b5
    from1 = later_later b1 b2 b5 opens.later from2

    pub none_waits : undriven b5 ≡ []
    none_waits = shows.undriven ∙ none

    pub whole : IsWhole b5 plan ports laid shown
    whole =
        let f = faces_later b1 b5 plan ports from1 faces in
        let l = laid_later b2 b5 plan ports laid from2 lies in
        record {
          name = from3.name ∙ their_name;
          inputs = shows.inputs ∙ drives.inputs ∙ their_inputs;
          outputs = shows.outputs ∙ ap (λ (os : List _). os ++ (all_shown (source_outputs plan) plan.sources shown.sources ++ all_shown (sink_outputs plan) plan.sinks shown.sinks)) (drives.outputs ∙ no_outputs);
          undriven = none_waits;
          read_sources = f.read_sources;
          read_sinks = f.read_sinks;
          sources = f.sources;
          sinks = f.sinks;
          source_rows = source_rows_later b3 b5 plan laid.edges shown.sources from3 source_rows;
          sink_rows = sink_rows_later b3 b5 plan laid.edges shown.sinks from3 sink_rows;
          wide = edges_long b2 plan laid.edges sound edges;
          leaves = l.leaves;
          source_ends = l.sources;
          sink_ends = l.sinks;
          closed = closed_later b4 b5 plan laid.edges laid.leaves laid.sources laid.sinks (length plan.edges) shows.later closed;
        }
