-- Worked examples of what has passed ports: a put of 16 bytes goes through a buffer and is answered.
use Rattle.std.specs.Prelude.{◌≡◌, List, [], ◌∷◌}
use Rattle.tl_params.specs.declared.ops.Template.TheVariants.{Buffer}
use Rattle.tl_edge.specs.declared.beat.Tag.{Tag}
use Rattle.flow_core.specs.declared.moves.Move.{Move}
use Rattle.flow_core.specs.declared.moves.Move.TheVariants.{Enter, Leave, Reply, Return, ForwardA, ForwardD}
use Rattle.flow_core.specs.Network.{network_at_start}
use Rattle.flow_core.specs.ExampleBeats.{put_16, get, put_16_done}
use Rattle.flow_core.specs.ExampleMoves.{one_leaf}
use Rattle.flow_choice.specs.Orderly.{all_entered, all_replied, all_left, all_returned, whole}

-- request 3 of port 0
abbrev pub third : Tag
third = record { port = 0; index = 3; piece = 0 }

-- both beats of the put go through, and its answer comes back
abbrev pub there_and_back : List Move
there_and_back =
    Enter 0 (put_16 1 7) third ∷ ForwardA 0 0 0 0 ∷ Leave 0 ∷ Enter 0 (put_16 1 8) third ∷ ForwardA 0 0 0 0 ∷ Leave 0
    ∷ Reply 0 (put_16_done 1) third ∷ ForwardD 0 0 0 ∷ Return 0 ∷ []

-- what entered, left, was replied and returned; a request is whole with its last beat, and at once where it has one
pub record PassedExample : Type 0 where
  pub enters : all_entered 0 there_and_back ≡ (put_16 1 7, third) ∷ (put_16 1 8, third) ∷ []
  pub elsewhere : all_entered 1 there_and_back ≡ []
  pub leaves : all_left 0 (network_at_start (one_leaf Buffer [])) there_and_back
      ≡ (put_16 1 7, third) ∷ (put_16 1 8, third) ∷ []
  pub replies : all_replied 0 there_and_back ≡ (put_16_done 1, third) ∷ []
  pub returns : all_returned 0 (network_at_start (one_leaf Buffer [])) there_and_back ≡ (put_16_done 1, third) ∷ []
  pub one_beat : whole 8 ((put_16 1 7, third) ∷ []) ≡ []
  pub both : whole 8 ((put_16 1 7, third) ∷ (put_16 1 8, third) ∷ []) ≡ (put_16 1 7, third) ∷ []
  pub single : whole 8 ((put_16 1 7, third) ∷ (put_16 1 8, third) ∷ (get 3 0 0x80000000 0xff, third) ∷ [])
      ≡ (put_16 1 7, third) ∷ (get 3 0 0x80000000 0xff, third) ∷ []
