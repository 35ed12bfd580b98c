use Rattle.std.proofs.Common.{take}
use Rattle.std.specs.Prelude.{flat_map}
use Rattle.net_ports.specs.Ports.{sink_inputs}
use Rattle.net_ends.specs.Ends.{AreOfferEnds, sink_widths}
use Rattle.net_faces.specs.PortRows.{sink_row}
use Rattle.net_faces.specs.Steps.{ReadsInputs}
use Rattle.net_faces.proofs.inputs.open_sinks.Given as goal

abbrev pub invariant-loop-at : goal.invariant-loop-at
invariant-loop-at l = record {
  reads : ReadsInputs l.fn.builder l.builder (flat_map (sink_inputs l.plan) (take l.at-index l.plan.sinks)) (flat_map sink_row l.ends);
  ends : AreOfferEnds l.builder (sink_widths l.plan) (take l.at-index l.plan.sinks) l.ends;
}
