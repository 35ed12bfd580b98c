-- The ports of the netlist of a plan: their names, their widths and their order.
use Rattle.std.specs.Prelude.{◌≡◌, ℕ, List, [], ◌∷◌, ◌++◌, codes, decimal, flat_map, map}
use Rattle.tl_edge.specs.declared.bundle.Bundle.{Bundle}
use Rattle.tl_edge.specs.declared.plan.PlanPort.{PlanPort}
use Rattle.tl_edge.specs.declared.plan.Plan.{Plan}
use Rattle.tl_edge.specs.Plans.{edge_at}
use Rattle.tl_edge.specs.Wires.{a_widths, d_widths}
use Rattle.net_cells.specs.declared.netlist.Netlist.{Netlist}
use Rattle.net_cells.specs.declared.netlist.OutPort.{OutPort}
use Rattle.net_cells.specs.declared.netlist.Port.{Port}
use Rattle.net_cells.specs.Rules.{width_at, widths}
use Rattle.net_ports.specs.declared.field.Field.{Field}
use Rattle.net_ports.specs.declared.field.Field.TheVariants.{AReady, AValid, DReady, DValid}
use Rattle.net_ports.specs.Fields.{field_name, a_beat_fields, d_beat_fields}

-- `p`, the node's name, the port and the field, joined by `_`
abbrev pub wire_name : PlanPort → Field → List ℕ
wire_name at field = codes "p_" ++ (at.name ++ (codes "_" ++ (decimal at.port ++ (codes "_" ++ field_name field))))

-- a wire at a port, of so many bits
abbrev pub wire_at : PlanPort → Field → ℕ → Port
wire_at at field width = record { name = wire_name at field; width = width }

-- the wires of some fields, each with its width
abbrev pub wires_at : PlanPort → List Field → List ℕ → List Port
wires_at at [] widths = []
wires_at at (field ∷ fields) [] = []
wires_at at (field ∷ fields) (width ∷ widths) = wire_at at field width ∷ wires_at at fields widths

-- a request: whether there is one, and the fields of its beat
abbrev pub request_wires : Bundle → PlanPort → List Port
request_wires bundle at = wire_at at AValid 1 ∷ wires_at at a_beat_fields (a_widths bundle)

-- a response
abbrev pub response_wires : Bundle → PlanPort → List Port
response_wires bundle at = wire_at at DValid 1 ∷ wires_at at d_beat_fields (d_widths bundle)

-- a request, and whether a response is taken or has room
abbrev pub request_row : Bundle → PlanPort → List Port
request_row bundle at = request_wires bundle at ++ wire_at at DReady 1 ∷ []

-- whether a request is taken or has room, and a response
abbrev pub response_row : Bundle → PlanPort → List Port
response_row bundle at = wire_at at AReady 1 ∷ response_wires bundle at

-- the widths of the wires at a port's edge
abbrev pub bundle_at : Plan → PlanPort → Bundle
bundle_at plan at = (edge_at plan at.edge).bundle

-- a source port's inputs: the request that it offers, and whether it takes a response
abbrev pub source_inputs : Plan → PlanPort → List Port
source_inputs plan at = request_row (bundle_at plan at) at

-- a sink port's inputs: whether it takes a request, and the response that it offers
abbrev pub sink_inputs : Plan → PlanPort → List Port
sink_inputs plan at = response_row (bundle_at plan at) at

-- a source port's outputs: whether there is room for a request, and the response that waits there
abbrev pub source_outputs : Plan → PlanPort → List Port
source_outputs plan at = response_row (bundle_at plan at) at

-- a sink port's outputs: the request that waits there, and whether there is room for a response
abbrev pub sink_outputs : Plan → PlanPort → List Port
sink_outputs plan at = request_row (bundle_at plan at) at

-- the inputs of a plan's ports: of the source ports in order, then of the sink ports
abbrev pub port_inputs : Plan → List Port
port_inputs plan = flat_map (source_inputs plan) plan.sources ++ flat_map (sink_inputs plan) plan.sinks

-- their outputs, in the same order
abbrev pub port_outputs : Plan → List Port
port_outputs plan = flat_map (source_outputs plan) plan.sources ++ flat_map (sink_outputs plan) plan.sinks

-- the input of one bit that empties all registers
abbrev pub reset_input : Port
reset_input = record { name = codes "reset"; width = 1 }

-- an output of a netlist, by its name and the width of its net
abbrev pub shown_port : Netlist → OutPort → Port
shown_port netlist shown = record { name = shown.name; width = width_at (widths netlist) shown.net }

-- A netlist has the name of a plan, `reset`, and the inputs and outputs of the plan's ports, and no others.
pub record HasPorts (plan : Plan) (netlist : Netlist) : Type 0 where
  pub name : netlist.name ≡ codes "m_" ++ plan.name
  pub inputs : netlist.inputs ≡ reset_input ∷ port_inputs plan
  pub outputs : map (shown_port netlist) netlist.outputs ≡ port_outputs plan
