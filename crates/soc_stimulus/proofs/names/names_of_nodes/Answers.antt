use Rattle.std.proofs.Common.{◌∙◌, ◌∷◌, [], ◌++◌, take, refl, sym, ap}
use Rattle.tl_params.proofs.Finding.{item_at}
use Rattle.soc_stimulus.specs.Ports.{names_of_nodes}
use Rattle.soc_stimulus.proofs.Naming.{new_name, names_more}
use Rattle.soc_stimulus.proofs.names.names_of_nodes.Goals as goal

pub add-requires : goal.add-requires
add-requires c =
    let nodes = c.args.nodes.now in
    let there = item_at nodes nodes c.loop-node.node-index c.node-item.result refl c.loop-node-test.true c.node-item.is in
    rw (c.loop-node.invariant, c.as_str.ensures.text) (new_name nodes c.loop-node.node-index c.node-item.result c.requires there)

pub loop-node-preserved : goal.loop-node-preserved
loop-node-preserved c =
    let nodes = c.args.nodes.now in
    let there = item_at nodes nodes c.loop-node.node-index c.node-item.result refl c.loop-node-test.true c.node-item.is in
    c.in_ok-add.ensures.ok
    ∙ ap (λ earlier. earlier ++ c.as_str.result.now ∷ []) c.loop-node.invariant
    ∙ ap (λ name. names_of_nodes (take c.loop-node.node-index nodes) ++ name ∷ []) c.as_str.ensures.text
    ∙ sym (names_more nodes c.loop-node.node-index c.node-item.result there)
