use Rattle.std.proofs.Common.{List, sym, ◌∙◌}
use Rattle.net_build.proofs.Steps.{adds_adds, bit_adds, tells_adds}
use Rattle.net_queue.specs.declared.types.EdgeWires.{EdgeWires}
use Rattle.net_queue.specs.declared.types.LeafWires.{LeafWires}
use Rattle.net_queue.specs.Leaves.{AreWiresOf, IsLeaf, DoneFitsAt}
use Rattle.net_queue.proofs.Alike.{alike_adds}
use Rattle.net_queue.proofs.Opening.{open_adds}
use Rattle.net_buffer.specs.Buffers.{buffer_machine}
use Rattle.net_buffer.proofs.Passing.{alone, is_buffer, one_edge}
use Rattle.net_buffer.proofs.Edges.{fits_both, keeps_adds, long_of, only_edge, said, wires_made}
use Rattle.net_buffer.proofs.buffer.build_buffer.Goals as goal

pub pass-requires-clause-open : goal.pass-requires-clause-open
pass-requires-clause-open c =
    let o = one_edge c.args.plan.now c.args.leaf c.requires.sound c.requires.leaf in
    ((only_edge _ _ _ _ c.index-ins-0.result c.requires.ins o.0 c.index-ins-0.is).a, (only_edge _ _ _ _ c.index-outs-0.result c.requires.outs o.1 c.index-outs-0.is).a)

pub pass-requires-clause-long : goal.pass-requires-clause-long
pass-requires-clause-long c =
    let o = one_edge c.args.plan.now c.args.leaf c.requires.sound c.requires.leaf in
    let i = only_edge _ _ _ _ c.index-ins-0.result c.requires.ins o.0 c.index-ins-0.is in
    let u = only_edge _ _ _ _ c.index-outs-0.result c.requires.outs o.1 c.index-outs-0.is in
    long_of c.index-ins-0.result.a.head _ i.a_widths ∙ sym (long_of c.index-outs-0.result.a.head _ u.a_widths)

pub pass-requires-2-clause-open : goal.pass-requires-2-clause-open
pass-requires-2-clause-open c =
    let o = one_edge c.args.plan.now c.args.leaf c.requires.sound c.requires.leaf in
    let g = c.in_ok-down.ensures.adds in
    (open_adds _ _ c.index-outs-0.result.d g (only_edge _ _ _ _ c.index-outs-0.result c.requires.outs o.1 c.index-outs-0.is).d, open_adds _ _ c.index-ins-0.result.d g (only_edge _ _ _ _ c.index-ins-0.result c.requires.ins o.0 c.index-ins-0.is).d)

pub pass-requires-2-clause-long : goal.pass-requires-2-clause-long
pass-requires-2-clause-long c =
    let o = one_edge c.args.plan.now c.args.leaf c.requires.sound c.requires.leaf in
    let i = only_edge _ _ _ _ c.index-ins-0.result c.requires.ins o.0 c.index-ins-0.is in
    let u = only_edge _ _ _ _ c.index-outs-0.result c.requires.outs o.1 c.index-outs-0.is in
    long_of c.index-outs-0.result.d.head _ u.d_widths ∙ sym (long_of c.index-ins-0.result.d.head _ i.d_widths)

pub returns-clause-adds : goal.returns-clause-adds
returns-clause-adds c = adds_adds _ _ _ c.in_ok-down.ensures.adds c.in_ok-up.ensures.adds

pub returns-clause-wires : goal.returns-clause-wires
returns-clause-wires c =
    let o = one_edge c.args.plan.now c.args.leaf c.requires.sound c.requires.leaf in
    let g = c.in_ok-up.ensures.adds in
    let b = c.pass-2.new.builder in
    let down = c.in_ok-down.down in
    let up = c.in_ok-up.up in
    said (λ (ins outs : List EdgeWires) (w : LeafWires). AreWiresOf b ins outs w) c.args.ins.now c.args.outs.now c.index-ins-0.result c.index-outs-0.result
    c.in_ok-take_a.take_a c.in_ok-take_d.take_d c.in_ok-put_a.put_a c.in_ok-put_d.put_d down up
    (alone c.args.ins.now c.index-ins-0.result (c.requires.ins.long ∙ o.0) c.index-ins-0.is)
    (alone c.args.outs.now c.index-outs-0.result (c.requires.outs.long ∙ o.1) c.index-outs-0.is)
    c.in_ok-take_a.ensures c.in_ok-take_d.ensures c.in_ok-put_a.ensures c.in_ok-put_d.ensures
    (wires_made b c.index-ins-0.result c.index-outs-0.result down up
    (record { valid = bit_adds _ _ down.valid g c.in_ok-down.ensures.into.valid; items = alike_adds _ _ c.index-outs-0.result.a.head down.items g c.in_ok-down.ensures.into.items })
    c.in_ok-up.ensures.into)

pub returns-clause-leaf : goal.returns-clause-leaf
returns-clause-leaf c =
    let o = one_edge c.args.plan.now c.args.leaf c.requires.sound c.requires.leaf in
    let g = c.in_ok-up.ensures.adds in
    let b = c.pass-2.new.builder in
    let down = c.in_ok-down.down in
    let up = c.in_ok-up.up in
    let above = c.index-ins-0.result in
    let below = c.index-outs-0.result in
    let fits = DoneFitsAt c.args.plan.now c.args.leaf buffer_machine in
    said (λ (ins outs : List EdgeWires) (w : LeafWires). IsLeaf b ins outs w buffer_machine fits) c.args.ins.now c.args.outs.now above below
    c.in_ok-take_a.take_a c.in_ok-take_d.take_d c.in_ok-put_a.put_a c.in_ok-put_d.put_d down up
    (alone c.args.ins.now above (c.requires.ins.long ∙ o.0) c.index-ins-0.is)
    (alone c.args.outs.now below (c.requires.outs.long ∙ o.1) c.index-outs-0.is)
    c.in_ok-take_a.ensures c.in_ok-take_d.ensures c.in_ok-put_a.ensures c.in_ok-put_d.ensures
    (is_buffer b above below down up fits
    (fits_both _ _ c.args.plan.now c.args.leaf above below o.0 o.1
    (only_edge _ _ _ _ above c.requires.ins o.0 c.index-ins-0.is)
    (only_edge _ _ _ _ below c.requires.outs o.1 c.index-outs-0.is))
    (tells_adds _ _ down.valid _ g c.in_ok-down.ensures.tells)
    c.in_ok-up.ensures.tells
    (keeps_adds _ _ above.a.head _ down.items g c.in_ok-down.ensures.keeps)
    c.in_ok-up.ensures.keeps)
