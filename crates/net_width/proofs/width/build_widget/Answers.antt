use Rattle.std.proofs.Common.{List, [], ◌∷◌, sym, ◌∙◌}
use Rattle.net_queue.specs.declared.types.EdgeWires.{EdgeWires}
use Rattle.net_queue.specs.declared.types.LeafWires.{LeafWires}
use Rattle.net_queue.specs.Leaves.{AreWiresOf, IsLeaf, done_at, done_fields, view_at, view_fields}
use Rattle.net_buffer.proofs.Edges.{only_edge}
use Rattle.net_buffer.proofs.Passing.{alone}
use Rattle.net_widget.specs.Widgets.{WidgetFits}
use Rattle.net_width.specs.Between.{FitsBetween, wires_of}
use Rattle.net_width.specs.PlanWidths.{plan_widget}
use Rattle.net_width.proofs.Planned.{ends_wires, fits_between, in_edge, machine_more, of_lists, on_edge, planned, widget_queues}
use Rattle.net_width.proofs.width.build_widget.Goals as goal

pub ends_between-requires : goal.ends_between-requires
ends_between-requires c =
    let p = planned c.args.plan.now c.args.leaf c.requires.sound c.requires.leaf in
    record {
      queues = widget_queues _ c.args.plan.now c.args.leaf _ _ _ c.index-ins-0.result c.index-outs-0.result p c.ids_above-count.ensures c.bus_above-from.ensures c.bus_below-to.ensures
          (only_edge _ _ _ _ c.index-ins-0.result c.requires.ins p.one_in c.index-ins-0.is)
          (only_edge _ _ _ _ c.index-outs-0.result c.requires.outs p.one_out c.index-outs-0.is);
    }

pub returns-clause-wires : goal.returns-clause-wires
returns-clause-wires c =
    let p = planned c.args.plan.now c.args.leaf c.requires.sound c.requires.leaf in
    let b = c.ends_between.new.builder in
    of_lists (λ (ins outs : List EdgeWires) (w : LeafWires). AreWiresOf b ins outs w) c.args.ins.now c.args.outs.now c.index-ins-0.result c.index-outs-0.result c.in_ok-wires.wires c.in_ok-ends.ends
    (alone c.args.ins.now c.index-ins-0.result (c.requires.ins.long ∙ p.one_in) c.index-ins-0.is)
    (alone c.args.outs.now c.index-outs-0.result (c.requires.outs.long ∙ p.one_out) c.index-outs-0.is)
    c.in_ok-wires.ensures
    (ends_wires b c.index-ins-0.result c.index-outs-0.result c.in_ok-ends.ends c.in_ok-ends.ensures.ends)

pub returns-clause-leaf : goal.returns-clause-leaf
returns-clause-leaf c =
    let plan = c.args.plan.now in
    let leaf = c.args.leaf in
    let p = planned plan leaf c.requires.sound c.requires.leaf in
    let b = c.ends_between.new.builder in
    let above = c.index-ins-0.result in
    let below = c.index-outs-0.result in
    let e = c.in_ok-ends.ends in
    of_lists (λ (ins outs : List EdgeWires) (w : LeafWires). IsLeaf b ins outs w (plan_widget plan leaf) (WidgetFits plan leaf (plan_widget plan leaf))) c.args.ins.now c.args.outs.now above below c.in_ok-wires.wires e
    (alone c.args.ins.now above (c.requires.ins.long ∙ p.one_in) c.index-ins-0.is)
    (alone c.args.outs.now below (c.requires.outs.long ∙ p.one_out) c.index-outs-0.is)
    c.in_ok-wires.ensures
    (machine_more b (plan_widget plan leaf) (WidgetFits plan leaf (plan_widget plan leaf)) (FitsBetween (in_edge plan leaf) (on_edge plan leaf) above below)
    view_fields done_fields (view_at (above ∷ []) (below ∷ [])) (done_at (wires_of e))
    (fits_between _ _ plan leaf above below p
    (only_edge _ _ _ _ above c.requires.ins p.one_in c.index-ins-0.is)
    (only_edge _ _ _ _ below c.requires.outs p.one_out c.index-outs-0.is))
    (c.in_ok-ends.ensures.widget (in_edge plan leaf) (on_edge plan leaf) (sym c.bus_above-from.ensures) (sym c.bus_below-to.ensures) (sym c.ids_above-count.ensures)))
