use Rattle.std.proofs.Common.{take}
use Rattle.std.specs.Prelude.{flat_map}
use Rattle.net_ports.specs.Ports.{source_inputs}
use Rattle.net_ends.specs.Ends.{AreOfferEnds, source_widths}
use Rattle.net_faces.specs.PortRows.{source_row}
use Rattle.net_faces.specs.Steps.{ReadsInputs}
use Rattle.net_faces.proofs.inputs.open_sources.Given as goal

abbrev pub invariant-loop-at : goal.invariant-loop-at
invariant-loop-at l = record {
  reads : ReadsInputs l.fn.builder l.builder (flat_map (source_inputs l.plan) (take l.at-index l.plan.sources)) (flat_map source_row l.ends);
  ends : AreOfferEnds l.builder (source_widths l.plan) (take l.at-index l.plan.sources) l.ends;
}
