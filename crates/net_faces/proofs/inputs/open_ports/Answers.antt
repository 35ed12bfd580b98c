use Rattle.std.proofs.Common.{ap, length, subst}
use Rattle.std.specs.Prelude.{ℕ, flat_map}
use Rattle.net_ports.specs.Ports.{sink_inputs, source_inputs}
use Rattle.net_ports.specs.Rows.{AreRead}
use Rattle.net_ports.proofs.RowSteps.{adds_both_inputs, read_later}
use Rattle.net_ends.specs.Ends.{source_widths}
use Rattle.net_faces.specs.PortRows.{source_row}
use Rattle.net_faces.proofs.Naming.{may_after_inputs, may_front, may_open_all}
use Rattle.net_ends.proofs.Later.{offers_later}
use Rattle.net_faces.proofs.inputs.open_ports.Goals as goal

pub open_sources-requires-clause-apart : goal.open_sources-requires-clause-apart
open_sources-requires-clause-apart c =
    let plan = c.args.plan.now in
    may_front c.args.builder.now (flat_map (source_inputs plan) plan.sources) (flat_map (sink_inputs plan) plan.sinks)
    (may_open_all c.args.builder.now plan c.requires.sound c.requires.inputs c.requires.outputs)

pub open_sinks-requires-clause-apart : goal.open_sinks-requires-clause-apart
open_sinks-requires-clause-apart c =
    let plan = c.args.plan.now in
    may_after_inputs c.args.builder.now c.open_sources.new.builder (flat_map (source_inputs plan) plan.sources) (flat_map (sink_inputs plan) plan.sinks) c.requires.outputs c.in_ok-sources.ensures.reads.adds
    (may_open_all c.args.builder.now plan c.requires.sound c.requires.inputs c.requires.outputs)

pub returns-clause-adds : goal.returns-clause-adds
returns-clause-adds c =
    let plan = c.args.plan.now in
    adds_both_inputs c.args.builder.now c.open_sources.new.builder c.open_sinks.new.builder (flat_map (source_inputs plan) plan.sources) (flat_map (sink_inputs plan) plan.sinks)
    c.in_ok-sources.ensures.reads.adds c.in_ok-sinks.ensures.reads.adds

pub returns-clause-sources : goal.returns-clause-sources
returns-clause-sources c =
    offers_later c.open_sources.new.builder c.open_sinks.new.builder (source_widths c.args.plan.now) c.args.plan.now.sources c.in_ok-sources.sources c.in_ok-sinks.ensures.reads.adds.later c.in_ok-sources.ensures.ends

pub returns-clause-read_sources : goal.returns-clause-read_sources
returns-clause-read_sources c =
    let rows = flat_map source_row c.in_ok-sources.sources in
    read_later c.open_sources.new.builder c.open_sinks.new.builder 1 rows c.in_ok-sinks.ensures.reads.adds.later
    (subst (λ (n : ℕ). AreRead c.open_sources.new.builder n rows) (ap length c.requires.inputs) c.in_ok-sources.ensures.reads.read)
