-- A whole builder's netlist is the network of its plan. Only what isn't public beyond this repository's netlists
-- cites it.
use Rattle.std.specs.Prelude.{◌≡◌}
use Rattle.tl_edge.specs.declared.plan.Plan.{Plan}
use Rattle.tl_edge.specs.SoundPlans.{IsSound}
use Rattle.net_cells.specs.declared.netlist.Netlist.{Netlist}
use Rattle.net_build.specs.Built.{Built}
use Rattle.net_build.specs.Numbering.{KeepsValues, finished}
use Rattle.net_ports.specs.Implementing.{Implements}
use Rattle.net_top.specs.declared.types.Laid.{Laid}
use Rattle.net_faces.specs.declared.types.PortWires.{PortWires}
use Rattle.net_faces.specs.declared.types.Shown.{Shown}
use Rattle.net_top.specs.Whole.{IsWhole}

-- a finished netlist in which each wire keeps its value implements the plan of its wires
abbrev pub WholeLaw : Type 0
WholeLaw =
    (b : Built) (plan : Plan) (ports : PortWires) (laid : Laid) (shown : Shown) (netlist : Netlist) → IsSound plan
    → IsWhole b plan ports laid shown → netlist ≡ finished b → KeepsValues netlist b → Implements plan netlist
