use Rattle.std.proofs.Common.{◌∙◌, ◌<◌, ℕ, List, ap, length, subst, sym}
use Rattle.tl_edge.specs.declared.plan.Leaf.{Leaf}
use Rattle.tl_edge.specs.declared.plan.PlanPort.{PlanPort}
use Rattle.tl_edge.specs.Plans.{In, Sink}
use Rattle.net_build.specs.declared.types.Wire.{Wire}
use Rattle.net_queue.specs.declared.types.LeafWires.{LeafWires}
use Rattle.net_queue.specs.declared.types.Put.{Put}
use Rattle.net_joins.specs.declared.ends.Side.TheVariants.{Ins}
use Rattle.net_joins.specs.Finding.{LeafHas, PortHas}
use Rattle.net_joins.proofs.Found.{end_there, taker_is, leaf_wires_are, ins_within, port_within, some_taker}
use Rattle.net_joins.proofs.ends.taker_of.Goals as goal

pub end_at-requires-clause-puts : goal.end_at-requires-clause-puts
end_at-requires-clause-puts c =
    let at = c.in-Some.at in
    let leaves = c.args.leaves.now in
    let own = c.index-leaves-at.result in
    let h = subst (λ (ls : List Leaf). LeafHas Ins ls c.args.edge at.leaf at.place) c.as_slice.ensures c.in-Some.ensures in
    let w = ins_within c.args.plan.now leaves c.args.edge at.leaf at.place c.requires.leaves h in
    let e = leaf_wires_are leaves at.leaf own w.0 c.index-leaves-at.is in
    subst (λ (ps : List Put). at.place < length ps) (sym (c.as_slice-puts.ensures ∙ ap (λ (x : LeafWires). x.put_d) e)) w.1

pub end_at-requires-clause-takes : goal.end_at-requires-clause-takes
end_at-requires-clause-takes c =
    let at = c.in-Some.at in
    let leaves = c.args.leaves.now in
    let own = c.index-leaves-at.result in
    let h = subst (λ (ls : List Leaf). LeafHas Ins ls c.args.edge at.leaf at.place) c.as_slice.ensures c.in-Some.ensures in
    let w = ins_within c.args.plan.now leaves c.args.edge at.leaf at.place c.requires.leaves h in
    let e = leaf_wires_are leaves at.leaf own w.0 c.index-leaves-at.is in
    subst (λ (ws : List Wire). at.place < length ws) (sym (c.as_slice-takes.ensures ∙ ap (λ (x : LeafWires). x.take_a) e)) w.2

pub returns-in-Some : goal.returns-in-Some
returns-in-Some c =
    let at = c.in-Some.at in
    let plan = c.args.plan.now in
    let leaves = c.args.leaves.now in
    let own = c.index-leaves-at.result in
    let wires = c.in_ok-wires.wires in
    let h = subst (λ (ls : List Leaf). LeafHas Ins ls c.args.edge at.leaf at.place) c.as_slice.ensures c.in-Some.ensures in
    let w = ins_within plan leaves c.args.edge at.leaf at.place c.requires.leaves h in
    let e = leaf_wires_are leaves at.leaf own w.0 c.index-leaves-at.is in
    taker_is plan c.args.edge leaves c.args.sinks.now (In at.leaf at.place) wires c.requires.sound c.requires.edge h
    (end_there c.as_slice-puts.result.now _ c.as_slice-takes.result.now _ at.place wires
    (c.as_slice-puts.ensures ∙ ap (λ (x : LeafWires). x.put_d) e) (c.as_slice-takes.ensures ∙ ap (λ (x : LeafWires). x.take_a) e) c.in_ok-wires.ensures)

pub port_end-requires : goal.port_end-requires
port_end-requires c =
    let port = c.in-Some-port_with.port in
    let h = subst (λ (ps : List PlanPort). PortHas ps c.args.edge port) c.as_slice-2.ensures c.in-Some-port_with.ensures in
    port_within c.args.plan.now.sinks c.args.sinks.now c.args.edge port c.requires.sinks h

pub returns-in-Some-port_with : goal.returns-in-Some-port_with
returns-in-Some-port_with c =
    let port = c.in-Some-port_with.port in
    let h = subst (λ (ps : List PlanPort). PortHas ps c.args.edge port) c.as_slice-2.ensures c.in-Some-port_with.ensures in
    taker_is c.args.plan.now c.args.edge c.args.leaves.now c.args.sinks.now (Sink port) c.in_ok-wires-2.wires c.requires.sound c.requires.edge h c.in_ok-wires-2.ensures

pub unreachable-requires : goal.unreachable-requires
unreachable-requires c =
    some_taker c.args.plan.now c.args.edge c.requires.sound c.requires.edge
    (subst (λ (ls : List Leaf). (leaf place : ℕ) → LeafHas Ins ls c.args.edge leaf place → ⊥) c.as_slice.ensures (λ leaf place. c.in_default.ensures leaf place))
    (subst (λ (ps : List PlanPort). (port : ℕ) → PortHas ps c.args.edge port → ⊥) c.as_slice-2.ensures (λ port. c.in_default-port_with.ensures port))
