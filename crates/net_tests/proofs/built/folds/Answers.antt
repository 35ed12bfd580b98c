use Rattle.net_build.proofs.Steps.{bit_adds, bit_later, bit_made, later_later}
use Rattle.net_tests.proofs.built.folds.Goals as goal

pub add_parts-requires-clause-wires : goal.add_parts-requires-clause-wires
add_parts-requires-clause-wires c =
    let l = later_later _ _ _ c.in_ok-y.ensures.adds.later c.in_ok-z.ensures.adds.later in
    let x = c.in_ok-x.ensures.wire in
    (bit_later _ _ c.in_ok-x.x l (bit_made _ c.in_ok-x.x x.0 x.1), c.in_ok-z.ensures.wire.0)

pub add_folds-requires : goal.add_folds-requires
add_folds-requires c =
    let l = later_later _ _ _ c.in_ok-y.ensures.adds.later c.in_ok-z.ensures.adds.later in
    let a = c.in_ok-add_parts.ensures.adds in
    let x = c.in_ok-x.ensures.wire in
    let y = c.in_ok-y.ensures.wire in (
      bit_adds _ _ c.in_ok-x.x a (bit_later _ _ c.in_ok-x.x l (bit_made _ c.in_ok-x.x x.0 x.1)),
      bit_adds _ _ c.in_ok-y.y a (bit_later _ _ c.in_ok-y.y c.in_ok-z.ensures.adds.later (bit_made _ c.in_ok-y.y y.0 y.1)),
    )
