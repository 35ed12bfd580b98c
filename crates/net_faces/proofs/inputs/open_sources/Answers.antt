use Rattle.std.proofs.Common.{◌∙◌}
use Rattle.std.specs.Prelude.{flat_map}
use Rattle.net_ports.specs.Ports.{source_inputs}
use Rattle.net_ends.specs.Ends.{source_widths}
use Rattle.net_faces.specs.PortRows.{source_row}
use Rattle.net_faces.proofs.Naming.{may_open_next}
use Rattle.net_faces.proofs.PortSteps.{ends_all, ends_begun, ends_more, item_at, reads_all, reads_begun, reads_more, source_sound}
use Rattle.net_faces.proofs.inputs.open_sources.Goals as goal

pub loop-at-init : goal.loop-at-init
loop-at-init c = record {
  reads = reads_begun c.args.builder.now source_row c.new-ends.result c.new-ends.ensures;
  ends = ends_begun c.args.builder.now (source_widths c.args.plan.now) c.new-ends.result c.new-ends.ensures;
}

pub open_source-requires-clause-port : goal.open_source-requires-clause-port
open_source-requires-clause-port c =
    let i = item_at c.args.plan.now.sources _ c.loop-at.at-index c.at-item.result c.as_slice-at-items.ensures c.loop-at-test.true c.at-item.is in
    source_sound c.args.plan.now c.loop-at.at-index c.at-item.result c.requires.sound i.2

pub open_source-requires-clause-apart : goal.open_source-requires-clause-apart
open_source-requires-clause-apart c =
    let i = item_at c.args.plan.now.sources _ c.loop-at.at-index c.at-item.result c.as_slice-at-items.ensures c.loop-at-test.true c.at-item.is in
    may_open_next c.args.builder.now c.loop-at.builder (source_inputs c.args.plan.now) c.args.plan.now.sources c.loop-at.at-index c.at-item.result i.0 i.1 c.requires.none c.loop-at.invariant.reads.adds c.requires.apart

pub open_source-requires-clause-none : goal.open_source-requires-clause-none
open_source-requires-clause-none c = c.loop-at.invariant.reads.adds.outputs ∙ c.requires.none

pub loop-at-preserved : goal.loop-at-preserved
loop-at-preserved c =
    let i = item_at c.args.plan.now.sources _ c.loop-at.at-index c.at-item.result c.as_slice-at-items.ensures c.loop-at-test.true c.at-item.is in
    let plan = c.args.plan.now in
    let step = c.in_ok-end.ensures in
    let pushed = c.in_ok-push.ensures.ok in
    record {
      reads = reads_more c.args.builder.now c.loop-at.builder _ (source_inputs plan) source_row plan.sources c.loop-at.at-index c.at-item.result c.loop-at.ends _ c.in_ok-end.end i.0 i.1 c.loop-at.invariant.reads step.reads pushed;
      ends = ends_more c.loop-at.builder _ (source_widths plan) plan.sources c.loop-at.at-index c.at-item.result c.loop-at.ends _ c.in_ok-end.end i.0 i.1 step.reads.adds.later c.loop-at.invariant.ends step.end pushed;
    }

pub returns-clause-reads : goal.returns-clause-reads
returns-clause-reads c = reads_all c.args.builder.now c.loop-at.builder (source_inputs c.args.plan.now) c.args.plan.now.sources _ c.loop-at.at-index (flat_map source_row c.loop-at.ends) c.as_slice-at-items.ensures c.loop-at-test.false c.loop-at.invariant.reads

pub returns-clause-ends : goal.returns-clause-ends
returns-clause-ends c = ends_all c.loop-at.builder (source_widths c.args.plan.now) c.args.plan.now.sources _ c.loop-at.at-index c.loop-at.ends c.as_slice-at-items.ensures c.loop-at-test.false c.loop-at.invariant.ends
