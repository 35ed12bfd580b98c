use Rattle.std.proofs.Common.{◌∙◌, length}
use Rattle.net_build.specs.Built.{inputs}
use Rattle.net_ports.specs.Ports.{bundle_at, source_inputs}
use Rattle.net_faces.specs.PortRows.{source_row}
use Rattle.net_faces.proofs.PortSteps.{row_reads, row_wires, source_end_fits}
use Rattle.net_faces.proofs.inputs.open_source.Goals as goal

pub returns-clause-reads : goal.returns-clause-reads
returns-clause-reads c =
    row_reads c.args.builder.now c.open_row.new.builder _ (source_inputs c.args.plan.now c.args.at.now) c.in_ok-row.row (source_row c.in_ok-port.port)
    (c.as_slice.ensures ∙ c.in_ok-ports.ensures.ports) (c.in_ok-port.ensures ∙ c.as_slice-2.ensures) c.in_ok-row.ensures.adds c.in_ok-row.ensures.inputs

pub returns-clause-end : goal.returns-clause-end
returns-clause-end c =
    let row = row_wires c.open_row.new.builder (length (inputs c.args.builder.now)) _ (source_inputs c.args.plan.now c.args.at.now) c.in_ok-row.row (source_row c.in_ok-port.port)
    (c.as_slice.ensures ∙ c.in_ok-ports.ensures.ports) (c.in_ok-port.ensures ∙ c.as_slice-2.ensures) c.in_ok-row.ensures.inputs in
    source_end_fits c.open_row.new.builder (bundle_at c.args.plan.now c.args.at.now) c.in_ok-port.port row.0 row.1
