-- What was made of a netlist so far. Only what isn't public cites it.
use Rattle.std.specs.Prelude.{◌+◌, flat_map, length}
use Rattle.tl_edge.specs.declared.plan.Plan.{Plan}
use Rattle.net_build.specs.Built.{Built}
use Rattle.net_ports.specs.Rows.{AreRead}
use Rattle.net_ends.specs.Ends.{AreOfferEnds, AreSinkEnds, AreSourceEnds, sink_widths, source_widths}
use Rattle.net_faces.specs.declared.types.PortWires.{PortWires}
use Rattle.net_faces.specs.PortRows.{sink_row, source_row}
use Rattle.net_leaves.specs.LeafWiring.{AreLeavesInWires}
use Rattle.net_top.specs.declared.types.Laid.{Laid}

-- the inputs of all ports are there, and are read in the order of the ports
pub record AreFaces (b : Built) (plan : Plan) (ports : PortWires) : Type 0 where
  pub sources : AreOfferEnds b (source_widths plan) plan.sources ports.sources
  pub sinks : AreOfferEnds b (sink_widths plan) plan.sinks ports.sinks
  pub read_sources : AreRead b 1 (flat_map source_row ports.sources)
  pub read_sinks : AreRead b (1 + length (flat_map source_row ports.sources)) (flat_map sink_row ports.sinks)

-- the leaves are there, between the queues of their edges, and what passes at the ports
pub record IsLaid (b : Built) (plan : Plan) (ports : PortWires) (laid : Laid) : Type 0 where
  pub leaves : AreLeavesInWires b plan laid.edges (length plan.leaves) laid.leaves
  pub sources : AreSourceEnds b plan.sources laid.edges ports.sources laid.sources
  pub sinks : AreSinkEnds b plan.sinks laid.edges ports.sinks laid.sinks
