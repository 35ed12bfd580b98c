use Rattle.std.proofs.Common.{◌<◌, refl, length, ap, ◌∙◌, arith}
use Rattle.net_leaves.proofs.Between.{between, ins_are, ins_within, leaf_is, leaf_made, outs_are, outs_within, row_is}
use Rattle.net_leaves.proofs.leaves.build_leaf.Goals as goal

pub edges_by-requires : goal.edges_by-requires
edges_by-requires c =
    let l : c.args.leaf < length c.as_slice-leaves.result.now = omega (arith, c.requires.within, ap length c.as_slice-leaves.ensures) in
    let at = c.index-leaves-leaf.result in
    let is = leaf_is c.args.plan.now c.args.leaf at c.as_slice-leaves.result.now c.as_slice-leaves.ensures l c.index-leaves-leaf.is in
    ins_within c.args.plan.now c.args.leaf at (length c.args.edges.now) c.as_slice.result.now c.requires.sound is c.requires.edges.long c.as_slice.ensures

pub edges_by-requires-2 : goal.edges_by-requires-2
edges_by-requires-2 c =
    let l : c.args.leaf < length c.as_slice-leaves.result.now = omega (arith, c.requires.within, ap length c.as_slice-leaves.ensures) in
    let at = c.index-leaves-leaf.result in
    let is = leaf_is c.args.plan.now c.args.leaf at c.as_slice-leaves.result.now c.as_slice-leaves.ensures l c.index-leaves-leaf.is in
    outs_within c.args.plan.now c.args.leaf at (length c.args.edges.now) c.as_slice-2.result.now c.requires.sound is c.requires.edges.long c.as_slice-2.ensures

pub build_template-requires-clause-leaf : goal.build_template-requires-clause-leaf
build_template-requires-clause-leaf c =
    let l : c.args.leaf < length c.as_slice-leaves.result.now = omega (arith, c.requires.within, ap length c.as_slice-leaves.ensures) in
    let at = c.index-leaves-leaf.result in
    record { at = at; is = leaf_is c.args.plan.now c.args.leaf at c.as_slice-leaves.result.now c.as_slice-leaves.ensures l c.index-leaves-leaf.is; kind = refl }

pub build_template-requires-clause-ins : goal.build_template-requires-clause-ins
build_template-requires-clause-ins c =
    let l : c.args.leaf < length c.as_slice-leaves.result.now = omega (arith, c.requires.within, ap length c.as_slice-leaves.ensures) in
    let at = c.index-leaves-leaf.result in
    let is = leaf_is c.args.plan.now c.args.leaf at c.as_slice-leaves.result.now c.as_slice-leaves.ensures l c.index-leaves-leaf.is in
    let own = ins_are c.args.plan.now c.args.leaf at is in
    between _ c.args.plan.now c.args.edges.now _ at.ins c.as_slice-above.result.now c.requires.edges own
    (ins_within c.args.plan.now c.args.leaf at (length c.args.plan.now.edges) at.ins c.requires.sound is refl refl)
    (row_is c.args.edges.now c.as_slice-above.result.now c.as_slice.result.now _ at.ins (c.as_slice-above.ensures ∙ c.in_ok-ins.ensures) c.as_slice.ensures own)

pub build_template-requires-clause-outs : goal.build_template-requires-clause-outs
build_template-requires-clause-outs c =
    let l : c.args.leaf < length c.as_slice-leaves.result.now = omega (arith, c.requires.within, ap length c.as_slice-leaves.ensures) in
    let at = c.index-leaves-leaf.result in
    let is = leaf_is c.args.plan.now c.args.leaf at c.as_slice-leaves.result.now c.as_slice-leaves.ensures l c.index-leaves-leaf.is in
    let own = outs_are c.args.plan.now c.args.leaf at is in
    between _ c.args.plan.now c.args.edges.now _ at.outs c.as_slice-below.result.now c.requires.edges own
    (outs_within c.args.plan.now c.args.leaf at (length c.args.plan.now.edges) at.outs c.requires.sound is refl refl)
    (row_is c.args.edges.now c.as_slice-below.result.now c.as_slice-2.result.now _ at.outs (c.as_slice-below.ensures ∙ c.in_ok-outs.ensures) c.as_slice-2.ensures own)

pub returns-clause-leaf : goal.returns-clause-leaf
returns-clause-leaf c =
    let l : c.args.leaf < length c.as_slice-leaves.result.now = omega (arith, c.requires.within, ap length c.as_slice-leaves.ensures) in
    let at = c.index-leaves-leaf.result in
    let is = leaf_is c.args.plan.now c.args.leaf at c.as_slice-leaves.result.now c.as_slice-leaves.ensures l c.index-leaves-leaf.is in
    leaf_made _ c.args.plan.now c.args.edges.now c.args.leaf c.as_slice-above.result.now c.as_slice-below.result.now c.in_ok-wires.wires
    (row_is c.args.edges.now c.as_slice-above.result.now c.as_slice.result.now _ at.ins (c.as_slice-above.ensures ∙ c.in_ok-ins.ensures) c.as_slice.ensures (ins_are c.args.plan.now c.args.leaf at is))
    (row_is c.args.edges.now c.as_slice-below.result.now c.as_slice-2.result.now _ at.outs (c.as_slice-below.ensures ∙ c.in_ok-outs.ensures) c.as_slice-2.ensures (outs_are c.args.plan.now c.args.leaf at is))
    c.in_ok-wires.ensures.wires c.in_ok-wires.ensures.leaf
