use Rattle.std.proofs.Common.{◌<◌, ◌∙◌, ap, arith, get_or, length, sym, subst}
use Rattle.std.specs.Prelude.{[]}
use Rattle.net_build.specs.Registers.{AreWires}
use Rattle.net_build.proofs.OpenedLists.{widths_later}
use Rattle.net_ports.specs.Ports.{source_outputs}
use Rattle.net_ports.specs.Rows.{widths_of_ports}
use Rattle.net_faces.proofs.Naming.{adds_both_outputs, may_show_next, row_at, shown_more}
use Rattle.net_faces.proofs.PortSteps.{item_at, source_sound}
use Rattle.net_faces.proofs.outputs.show_sources.Goals as goal

pub show_source-requires-clause-port : goal.show_source-requires-clause-port
show_source-requires-clause-port c =
    let i = item_at c.args.plan.now.sources _ c.loop-place.place c.index-ports-place.result c.as_slice-ports.ensures c.loop-place-test.true c.index-ports-place.is in
    source_sound c.args.plan.now c.loop-place.place c.index-ports-place.result c.requires.sound i.2

pub show_source-requires-clause-apart : goal.show_source-requires-clause-apart
show_source-requires-clause-apart c =
    let i = item_at c.args.plan.now.sources _ c.loop-place.place c.index-ports-place.result c.as_slice-ports.ensures c.loop-place-test.true c.index-ports-place.is in
    may_show_next c.args.builder.now c.loop-place.builder (source_outputs c.args.plan.now) c.args.plan.now.sources c.args.rows.now c.loop-place.place c.index-ports-place.result i.0 i.1 c.requires.rows.long
    (λ port at e. (c.requires.rows.each port at e).0) c.loop-place.invariant c.requires.apart

pub show_source-requires-clause-long : goal.show_source-requires-clause-long
show_source-requires-clause-long c =
    let i = item_at c.args.plan.now.sources _ c.loop-place.place c.index-ports-place.result c.as_slice-ports.ensures c.loop-place-test.true c.index-ports-place.is in
    let l : c.loop-place.place < length c.args.rows.now = omega (arith, i.0, c.requires.rows.long) in
    ap length (row_at c.args.rows.now c.loop-place.place c.index-rows-place.result _ c.as_slice.ensures l c.index-rows-place.is) ∙ (c.requires.rows.each c.loop-place.place c.index-ports-place.result i.2).0

pub show_source-requires-clause-wires : goal.show_source-requires-clause-wires
show_source-requires-clause-wires c =
    let i = item_at c.args.plan.now.sources _ c.loop-place.place c.index-ports-place.result c.as_slice-ports.ensures c.loop-place-test.true c.index-ports-place.is in
    let l : c.loop-place.place < length c.args.rows.now = omega (arith, i.0, c.requires.rows.long) in
    let widths = widths_of_ports (source_outputs c.args.plan.now c.index-ports-place.result) in
    subst (AreWires c.loop-place.builder widths) (sym (row_at c.args.rows.now c.loop-place.place c.index-rows-place.result _ c.as_slice.ensures l c.index-rows-place.is))
    (widths_later c.args.builder.now c.loop-place.builder widths (get_or c.args.rows.now c.loop-place.place []) c.loop-place.invariant.later (c.requires.rows.each c.loop-place.place c.index-ports-place.result i.2).1)

pub loop-place-preserved : goal.loop-place-preserved
loop-place-preserved c =
    let i = item_at c.args.plan.now.sources _ c.loop-place.place c.index-ports-place.result c.as_slice-ports.ensures c.loop-place-test.true c.index-ports-place.is in
    let l : c.loop-place.place < length c.args.rows.now = omega (arith, i.0, c.requires.rows.long) in
    adds_both_outputs c.args.builder.now c.loop-place.builder _ _ _ _ c.loop-place.invariant c.in_ok-show_source.ensures
    (shown_more (source_outputs c.args.plan.now) c.args.plan.now.sources c.args.rows.now c.loop-place.place c.index-ports-place.result c.as_slice.result.now i.0 c.requires.rows.long i.1
    (row_at c.args.rows.now c.loop-place.place c.index-rows-place.result _ c.as_slice.ensures l c.index-rows-place.is))
