use Rattle.std.proofs.Common.{List, ◌∙◌}
use Rattle.net_queue.specs.declared.types.EdgeWires.{EdgeWires}
use Rattle.net_queue.specs.declared.types.LeafWires.{LeafWires}
use Rattle.net_queue.specs.Leaves.{AreWiresOf, IsLeaf}
use Rattle.net_buffer.proofs.Edges.{only_edge, said, wires_made}
use Rattle.net_buffer.proofs.Passing.{alone}
use Rattle.net_shrink.specs.Shrinkers.{FitsShrinker, shrinker_machine}
use Rattle.net_shrink.proofs.Planned.{may_shrink, planned, puts_fit}
use Rattle.net_shrink.proofs.Standing.{is_shrinker}
use Rattle.net_shrink.proofs.shrink.build_shrink.Goals as goal

pub shrink_between-requires : goal.shrink_between-requires
shrink_between-requires c =
    let p = planned c.args.plan.now c.args.leaf c.requires.sound c.requires.leaf in
    record {
      may = may_shrink _ c.args.plan.now c.args.leaf _ _ _ c.index-ins-0.result c.index-outs-0.result p c.new_ids-count.ensures c.bus_above-bus.ensures
          (only_edge _ _ _ _ c.index-ins-0.result c.requires.ins p.one_in c.index-ins-0.is)
          (only_edge _ _ _ _ c.index-outs-0.result c.requires.outs p.one_out c.index-outs-0.is);
    }

pub returns-clause-wires : goal.returns-clause-wires
returns-clause-wires c =
    let p = planned c.args.plan.now c.args.leaf c.requires.sound c.requires.leaf in
    let s = c.in_ok-shrunk.shrunk in
    let b = c.shrink_between.new.builder in
    said (λ (ins outs : List EdgeWires) (w : LeafWires). AreWiresOf b ins outs w) c.args.ins.now c.args.outs.now c.index-ins-0.result c.index-outs-0.result
    c.in_ok-take_a.take_a c.in_ok-take_d.take_d c.in_ok-put_a.put_a c.in_ok-put_d.put_d s.down s.up
    (alone c.args.ins.now c.index-ins-0.result (c.requires.ins.long ∙ p.one_in) c.index-ins-0.is)
    (alone c.args.outs.now c.index-outs-0.result (c.requires.outs.long ∙ p.one_out) c.index-outs-0.is)
    c.in_ok-take_a.ensures c.in_ok-take_d.ensures c.in_ok-put_a.ensures c.in_ok-put_d.ensures
    (wires_made b c.index-ins-0.result c.index-outs-0.result s.down s.up c.in_ok-shrunk.ensures.shrunk.down c.in_ok-shrunk.ensures.shrunk.up)

pub returns-clause-leaf : goal.returns-clause-leaf
returns-clause-leaf c =
    let plan = c.args.plan.now in
    let p = planned plan c.args.leaf c.requires.sound c.requires.leaf in
    let s = c.in_ok-shrunk.shrunk in
    let b = c.shrink_between.new.builder in
    let above = c.index-ins-0.result in
    let below = c.index-outs-0.result in
    said (λ (ins outs : List EdgeWires) (w : LeafWires). IsLeaf b ins outs w (shrinker_machine plan c.args.leaf) (FitsShrinker plan c.args.leaf)) c.args.ins.now c.args.outs.now above below
    c.in_ok-take_a.take_a c.in_ok-take_d.take_d c.in_ok-put_a.put_a c.in_ok-put_d.put_d s.down s.up
    (alone c.args.ins.now above (c.requires.ins.long ∙ p.one_in) c.index-ins-0.is)
    (alone c.args.outs.now below (c.requires.outs.long ∙ p.one_out) c.index-outs-0.is)
    c.in_ok-take_a.ensures c.in_ok-take_d.ensures c.in_ok-put_a.ensures c.in_ok-put_d.ensures
    (is_shrinker b plan c.args.leaf _ _ above below s c.in_ok-shrunk.ensures.shrunk
    (rw (c.new_ids-count.ensures, c.bus_above-bus.ensures) p.idle)
    (puts_fit _ _ plan c.args.leaf above below p
    (only_edge _ _ _ _ above c.requires.ins p.one_in c.index-ins-0.is)
    (only_edge _ _ _ _ below c.requires.outs p.one_out c.index-outs-0.is)))
