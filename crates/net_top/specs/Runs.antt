-- That the netlist of a plan has the runs of which it is said what they show, and shows the same after each reset.
use Rattle.std.specs.Prelude.{◌≡◌, ℕ, List, length, map, All, Some, slice_get}
use Rattle.tl_edge.specs.declared.beat.ABeat.{ABeat}
use Rattle.tl_edge.specs.declared.beat.DBeat.{DBeat}
use Rattle.tl_edge.specs.declared.beat.Tag.{Tag}
use Rattle.tl_edge.specs.declared.plan.PlanPort.{PlanPort}
use Rattle.tl_edge.specs.declared.plan.Plan.{Plan}
use Rattle.tl_edge.specs.Plans.{edge_at}
use Rattle.tl_edge.specs.Wires.{FitWires, a_fields, a_widths, d_fields, d_widths}
use Rattle.flow_core.specs.Network.{network_at_start}
use Rattle.flow_choice.specs.declared.offers.Offers.{Offers}
use Rattle.net_cells.specs.declared.netlist.Netlist.{Netlist}
use Rattle.net_cells.specs.Loops.{HasNoLoop, HasOneRun}
use Rattle.net_cells.specs.Rules.{IsWellFormed}
use Rattle.net_cells.specs.Values.{AreValues, IsRunFrom, first_registers, next_registers}
use Rattle.net_build.specs.Numbering.{Resets}
use Rattle.net_ports.specs.Implementing.{AreOffered, Implements, input_values, outputs_by_cycle, outputs_of}
use Rattle.net_ports.specs.Ports.{HasPorts}

-- something is said of each port, and each beat that is offered fits the wires of the edge of its port
pub record FitPortWires (plan : Plan) (offers : Offers) : Type 0 where
  pub enter_long : length offers.enter ≡ length plan.sources
  pub take_d_long : length offers.take_d ≡ length plan.sources
  pub take_a_long : length offers.take_a ≡ length plan.sinks
  pub reply_long : length offers.reply ≡ length plan.sinks
  pub enters : (port : ℕ) (at : PlanPort) (beat : ABeat × Tag) → slice_get plan.sources port ≡ Some at
      → slice_get offers.enter port ≡ Some (Some beat)
      → FitWires (a_fields beat.0) (a_widths (edge_at plan at.edge).bundle)
  pub replies : (port : ℕ) (at : PlanPort) (beat : DBeat × Tag) → slice_get plan.sinks port ≡ Some at
      → slice_get offers.reply port ≡ Some (Some beat)
      → FitWires (d_fields beat.0) (d_widths (edge_at plan at.edge).bundle)

-- whatever fitting beats the ports offer, cycle by cycle, the netlist has exactly one run from the start
abbrev pub HasRuns : Plan → Netlist → Type 0
HasRuns plan netlist =
    (cycles : List Offers) → All (FitPortWires plan) cycles
    → HasOneRun netlist (first_registers netlist) (map input_values cycles)

-- so it is with each well-formed netlist without a loop that has the ports of a plan
abbrev pub RunsLaw : Type 0
RunsLaw =
    (plan : Plan) (netlist : Netlist) → IsWellFormed netlist → HasNoLoop netlist → HasPorts plan netlist
    → HasRuns plan netlist

-- After a cycle in which net 0, the reset, is 1, whatever registers and inputs held, the netlist shows what the plan's
-- network shows from its start on.
abbrev pub StartsAgain : Plan → Netlist → Type 0
StartsAgain plan netlist =
    (given : List ℕ) (v : ℕ → ℕ) (cycles : List Offers) (values : List (ℕ → ℕ)) → AreValues netlist given v
    → v 0 ≡ 1 → AreOffered plan (network_at_start plan) cycles
    → IsRunFrom netlist (next_registers netlist v) (map input_values cycles) values
    → map (outputs_of netlist) values ≡ outputs_by_cycle (network_at_start plan) cycles

-- so does each netlist that is a plan's network and whose registers are all 0 after a reset
abbrev pub ResetLaw : Type 0
ResetLaw = (plan : Plan) (netlist : Netlist) → Resets netlist → Implements plan netlist → StartsAgain plan netlist
