-- Room for what the ports offer and for the values of a netlist's inputs and outputs.
use Rattle.std.specs.Prelude.{◌≡◌, ℕ, ◌+◌, ◌*◌, ◌≤◌, length, vec_capacity}
use Rattle.net_cells.specs.declared.netlist.Netlist.{Netlist}
use Rattle.sim_run.specs.declared.buffers.Buffers.{Buffers}
use Rattle.sim_run.specs.Turning.{input_widths}

-- the room fits a netlist with so many source ports and sink ports
pub record FitsPorts (buffers : Buffers) (netlist : Netlist) (sources sinks : ℕ) : Type 0 where
  pub widths : buffers.widths.items ≡ input_widths netlist
  pub inputs : length buffers.widths.items ≡ 1 + 9 * sources + 7 * sinks
  pub room : length buffers.widths.items ≤ vec_capacity buffers.inputs
  pub shown : length buffers.outputs.items ≡ length netlist.outputs
  pub outputs : length buffers.outputs.items ≡ 7 * sources + 9 * sinks
  pub source_room : sources ≤ vec_capacity buffers.sources
  pub sink_room : sinks ≤ vec_capacity buffers.sinks
