use Rattle.std.proofs.Common.{take}
use Rattle.net_ports.specs.Ports.{sink_outputs}
use Rattle.net_ports.specs.Rows.{AddsOutputs}
use Rattle.net_faces.specs.Showing.{all_shown}
use Rattle.net_faces.proofs.outputs.show_sinks.Given as goal

abbrev pub invariant-loop-place : goal.invariant-loop-place
invariant-loop-place l = AddsOutputs l.fn.builder l.builder (all_shown (sink_outputs l.plan) (take l.place l.plan.sinks) (take l.place l.rows))
