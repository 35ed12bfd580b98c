use Rattle.std.proofs.Common.{◌∙◌, ◌++◌, List, ap, subst, sym}
use Rattle.std.specs.Prelude.{flat_map}
use Rattle.net_build.specs.declared.types.Wire.{Wire}
use Rattle.net_ports.specs.Ports.{sink_outputs, source_outputs}
use Rattle.net_ports.specs.Rows.{AddsOutputs}
use Rattle.net_faces.specs.Showing.{all_shown}
use Rattle.net_faces.proofs.Naming.{adds_both_outputs, all_names, may_after_outputs, may_front, may_show_all, rows_later}
use Rattle.net_faces.proofs.outputs.show_ports.Goals as goal

pub show_sources-requires-clause-apart : goal.show_sources-requires-clause-apart
show_sources-requires-clause-apart c =
    let plan = c.args.plan.now in
    may_front c.args.builder.now (flat_map (source_outputs plan) plan.sources) (flat_map (sink_outputs plan) plan.sinks)
    (may_show_all c.args.builder.now plan c.requires.sound c.requires.inputs c.requires.outputs)

-- what the source ports show
pub show_sinks-requires-clause-apart : goal.show_sinks-requires-clause-apart
show_sinks-requires-clause-apart c =
    let plan = c.args.plan.now in
    let rows = c.args.shown.now.sources in
    let shown = all_shown (source_outputs plan) plan.sources rows in
    may_after_outputs c.args.builder.now c.show_sources.new.builder (flat_map (source_outputs plan) plan.sources) (flat_map (sink_outputs plan) plan.sinks) shown
    (subst (λ (xs : List (List Wire)). AddsOutputs c.args.builder.now c.show_sources.new.builder (all_shown (source_outputs plan) plan.sources xs)) c.as_slice.ensures c.in_ok-show_sources.ensures)
    (all_names (source_outputs plan) plan.sources rows c.requires.sources.long (λ port at e. (c.requires.sources.each port at e).0))
    (may_show_all c.args.builder.now plan c.requires.sound c.requires.inputs c.requires.outputs)

pub show_sinks-requires-clause-rows : goal.show_sinks-requires-clause-rows
show_sinks-requires-clause-rows c =
    rows_later c.args.builder.now c.show_sources.new.builder (sink_outputs c.args.plan.now) c.args.plan.now.sinks c.args.shown.now.sinks _ c.as_slice-2.ensures c.in_ok-show_sources.ensures.later c.requires.sinks

pub returns : goal.returns
returns c =
    let plan = c.args.plan.now in
    let sources = c.args.shown.now.sources in
    let sinks = c.args.shown.now.sinks in
    adds_both_outputs c.args.builder.now c.show_sources.new.builder c.show_sinks.new.builder _ _ _ c.in_ok-show_sources.ensures c.in_ok-show_sinks.ensures
    (ap (λ (xs : List (List Wire)). all_shown (source_outputs plan) plan.sources xs ++ all_shown (sink_outputs plan) plan.sinks sinks) (sym c.as_slice.ensures)
    ∙ ap (λ (xs : List (List Wire)). all_shown (source_outputs plan) plan.sources c.as_slice.result.now ++ all_shown (sink_outputs plan) plan.sinks xs) (sym c.as_slice-2.ensures))
