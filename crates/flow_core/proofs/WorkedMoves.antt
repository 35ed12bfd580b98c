-- The worked examples of moves, computed.
use Rattle.std.proofs.Common.{refl}
use Rattle.std.specs.Int.Count.{ones}
use Rattle.tl_edge.specs.Bundles.{halvings}
use Rattle.flow_core.specs.Carried.{carries_a, carries_d}
use Rattle.flow_core.specs.ExampleMoves.{MovesExample, CuttingExample}

pub moves_example : MovesExample
unfolding carries_a carries_d
moves_example = record {
  starts = refl;
  enters = λ x tag. refl;
  may_enter = λ x tag. refl;
  too_wide = λ tag. refl;
  no_lane = λ tag. refl;
  no_such_id = λ tag. refl;
  too_large = λ tag. refl;
  unaligned = λ tag. refl;
  no_address = λ tag. refl;
  full = λ x y tag. refl;
  no_port = λ beat tag. refl;
  forwards = λ x y z. refl;
  may_forward = λ x y z. refl;
  no_room = λ x y z. refl;
  no_head = refl;
  no_leaf = λ x. refl;
  no_id = λ x. refl;
  no_absorb = λ x. refl;
  leaves = λ x y. refl;
  may_leave = λ x y. refl;
  nothing_leaves = refl;
  replies = λ tag. refl;
  may_reply = λ tag. refl;
  reply_too_wide = λ tag. refl;
  reply_to_no_id = λ tag. refl;
  reply_too_large = λ tag. refl;
  back = λ x y. refl;
  may_go_back = λ x. refl;
  returns = λ x. refl;
  may_return = λ x. refl;
}

pub cutting_example : CuttingExample
unfolding halvings ones
cutting_example = record {
  first = refl;
  second = refl;
  may_send = refl;
  absorbs = λ tag. refl;
  may_absorb = λ tag x y. refl;
  no_forward = λ tag. refl;
  back = refl;
}
