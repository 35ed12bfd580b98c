-- What ports offer and what of it passes stay what they are as a builder grows.
use Rattle.std.proofs.Common.{ℕ, List}
use Rattle.tl_edge.specs.declared.plan.PlanPort.{PlanPort}
use Rattle.net_build.specs.Built.{Built}
use Rattle.net_build.specs.Values.{Later}
use Rattle.net_build.proofs.OpenedLists.{widths_later}
use Rattle.net_build.proofs.Steps.{bit_later, tells_later}
use Rattle.net_queue.specs.declared.types.EdgeWires.{EdgeWires}
use Rattle.net_queue.specs.declared.types.Queue.{Queue}
use Rattle.net_parts.specs.declared.types.EndWires.{EndWires}
use Rattle.net_parts.specs.Wired.{wires_of_edge, wires_of_port}
use Rattle.net_leaves.proofs.Later.{put_later}
use Rattle.net_ends.specs.Ends.{AreOfferEnds, AreSinkEnds, AreSourceEnds, IsEnd, IsGated}

pub end_later : (old new : Built) (widths : List ℕ) (port : EndWires) → Later old new → IsEnd old widths port → IsEnd new widths port
end_later old new widths port g h = record {
  valid = bit_later old new port.put.valid g h.valid;
  take = bit_later old new port.take g h.take;
  long = h.long;
  items = widths_later old new widths port.put.items g h.items;
}

pub offers_later : (old new : Built) (widths : PlanPort → List ℕ) (ports : List PlanPort) (ends : List EndWires) → Later old new → AreOfferEnds old widths ports ends → AreOfferEnds new widths ports ends
offers_later old new widths ports ends g h = record {
  long = h.long;
  each = λ port at is. end_later old new (widths at) (wires_of_port ends port) g (h.each port at is);
}

pub gated_later : (old new : Built) (onto from : Queue) (offered gated : EndWires) → Later old new → IsGated old onto from offered gated → IsGated new onto from offered gated
gated_later old new onto from offered gated g h = record {
  passes = record {
    put = tells_later old new gated.put.valid _ g h.passes.put;
    items = h.passes.items;
    take = tells_later old new gated.take _ g h.passes.take;
  };
  into = put_later old new onto gated.put g h.into;
  take = bit_later old new gated.take g h.take;
}

pub source_ends_later : (old new : Built) (ports : List PlanPort) (edges : List EdgeWires) (offered gated : List EndWires) → Later old new → AreSourceEnds old ports edges offered gated → AreSourceEnds new ports edges offered gated
source_ends_later old new ports edges offered gated g h = record {
  long = h.long;
  each = λ port at is. gated_later old new (wires_of_edge edges at.edge).a (wires_of_edge edges at.edge).d (wires_of_port offered port) (wires_of_port gated port) g (h.each port at is);
}

pub sink_ends_later : (old new : Built) (ports : List PlanPort) (edges : List EdgeWires) (offered gated : List EndWires) → Later old new → AreSinkEnds old ports edges offered gated → AreSinkEnds new ports edges offered gated
sink_ends_later old new ports edges offered gated g h = record {
  long = h.long;
  each = λ port at is. gated_later old new (wires_of_edge edges at.edge).d (wires_of_edge edges at.edge).a (wires_of_port offered port) (wires_of_port gated port) g (h.each port at is);
}
