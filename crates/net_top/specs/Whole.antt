-- A whole netlist as a builder holds it. Only what isn't public beyond this repository's netlists cites it.
use Rattle.std.specs.Prelude.{◌≡◌, ◌<◌, ℕ, [], ◌∷◌, ◌++◌, ◌+◌, codes, flat_map, length}
use Rattle.tl_edge.specs.declared.plan.Plan.{Plan}
use Rattle.net_build.specs.Built.{Built, inputs, undriven}
use Rattle.net_ports.specs.Ports.{port_inputs, reset_input, sink_outputs, source_outputs}
use Rattle.net_ports.specs.Rows.{AreRead}
use Rattle.net_parts.specs.Wired.{Wiring, wires_of_edge}
use Rattle.net_top.specs.declared.types.Laid.{Laid}
use Rattle.net_faces.specs.declared.types.PortWires.{PortWires}
use Rattle.net_faces.specs.declared.types.Shown.{Shown}
use Rattle.net_joins.specs.Closing.{AreClosed}
use Rattle.net_ends.specs.Ends.{AreOfferEnds, AreSinkEnds, AreSourceEnds, sink_widths, source_widths}
use Rattle.net_faces.specs.PortRows.{sink_row, source_row}
use Rattle.net_leaves.specs.LeafWiring.{AreLeavesInWires}
use Rattle.net_faces.specs.Showing.{AreSinkRows, AreSourceRows, all_shown}

-- all wires, for what is said of them together
abbrev pub wiring : PortWires → Laid → Wiring
wiring ports laid = record {
  edges = laid.edges;
  leaves = laid.leaves;
  sources = ports.sources;
  sinks = ports.sinks;
  source_ends = laid.sources;
  sink_ends = laid.sinks;
}

-- a whole builder: nothing is left to be driven
pub record IsWhole (b : Built) (plan : Plan) (ports : PortWires) (laid : Laid) (shown : Shown) : Type 0 where
  pub name : b.name ≡ codes "m_" ++ plan.name
  pub inputs : inputs b ≡ reset_input ∷ port_inputs plan
  pub outputs : b.outputs
      ≡ all_shown (source_outputs plan) plan.sources shown.sources
      ++ all_shown (sink_outputs plan) plan.sinks shown.sinks
  pub undriven : undriven b ≡ []
  pub read_sources : AreRead b 1 (flat_map source_row ports.sources)
  pub read_sinks : AreRead b (1 + length (flat_map source_row ports.sources)) (flat_map sink_row ports.sinks)
  pub sources : AreOfferEnds b (source_widths plan) plan.sources ports.sources
  pub sinks : AreOfferEnds b (sink_widths plan) plan.sinks ports.sinks
  pub source_rows : AreSourceRows b plan laid.edges shown.sources
  pub sink_rows : AreSinkRows b plan laid.edges shown.sinks
  pub wide : (edge : ℕ) → edge < length plan.edges
      → (length (wires_of_edge laid.edges edge).a.head ≡ 7) × (length (wires_of_edge laid.edges edge).d.head ≡ 5)
  pub leaves : AreLeavesInWires b plan laid.edges (length plan.leaves) laid.leaves
  pub source_ends : AreSourceEnds b plan.sources laid.edges ports.sources laid.sources
  pub sink_ends : AreSinkEnds b plan.sinks laid.edges ports.sinks laid.sinks
  pub closed : AreClosed b plan laid.edges laid.leaves laid.sources laid.sinks (length plan.edges)
