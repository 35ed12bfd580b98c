-- The chosen moves in other words: which they are, of those that may be made.
use Rattle.std.specs.Prelude.{ℕ, ◌≡◌, ◌+◌, ◌<◌, ◌≤◌, ◌↔◌, cond, nat_lt, Contains, Some, slice_get, true, IsTrue}
use Rattle.tl_params.specs.declared.ops.Policy.{Policy}
use Rattle.tl_params.specs.declared.ops.Policy.TheVariants.{Lowest, Round}
use Rattle.flow_core.specs.declared.moves.Move.{Move}
use Rattle.flow_core.specs.declared.moves.Move.TheVariants.{Enter, Leave, Reply, Return, AbsorbA, AbsorbD, ForwardA, ForwardD}
use Rattle.flow_core.specs.Network.{State, is_enabled}
use Rattle.flow_core.specs.Turns.{leaf_state, output_turn, input_turn, next_id}
use Rattle.flow_choice.specs.declared.offers.Offers.{Offers}
use Rattle.flow_choice.specs.Choosing.{input_count, output_count, chosen_moves}

-- when a number's turn comes among so many: its own under the one policy, and under the other those below the one whose
-- turn is next come a round later
abbrev pub turn_of_number : Policy → ℕ → ℕ → ℕ → ℕ
turn_of_number Lowest next count number = number
turn_of_number Round next count number = cond (nat_lt number next) (count + number) number

-- of some moves by their numbers, so many, the one with a number comes in turn before all others that may be made
pub record IsFirst (state : State) (move : ℕ → Move) (next count number : ℕ) : Type 0 where
  pub below : number < count
  pub first : (other : ℕ) → other < count → IsTrue (is_enabled state (move other))
      → turn_of_number state.plan.policy next count number ≤ turn_of_number state.plan.policy next count other

-- a move is asked for: at a port what enters or is replied is offered there, and the port takes what leaves or returns;
-- to an output of a leaf it goes with the new id from the first input in turn, and to an input from the first output in
-- turn
abbrev pub IsAsked : State → Offers → Move → Type 0
IsAsked state offers (Enter port beat tag) = slice_get offers.enter port ≡ Some (Some (beat, tag))
IsAsked state offers (Leave port) = slice_get offers.take_a port ≡ Some true
IsAsked state offers (Reply port beat tag) = slice_get offers.reply port ≡ Some (Some (beat, tag))
IsAsked state offers (Return port) = slice_get offers.take_d port ≡ Some true
IsAsked state offers (AbsorbA leaf) = Unit {0}
IsAsked state offers (AbsorbD leaf) = Unit {0}
IsAsked state offers (ForwardA leaf input output id) =
    (id ≡ next_id (leaf_state state leaf))
    × IsFirst state (λ from. ForwardA leaf from output id) (output_turn (leaf_state state leaf) output)
    (input_count state.plan leaf) input
IsAsked state offers (ForwardD leaf input output) =
    IsFirst state (λ from. ForwardD leaf input from) (input_turn (leaf_state state leaf) input)
    (output_count state.plan leaf) output

-- exactly those moves are chosen that may be made and are asked for, whatever the state
abbrev pub ChosenLaw : Type 0
ChosenLaw =
    (state : State) (offers : Offers) (move : Move)
    → Contains (chosen_moves state offers) move ↔ (IsTrue (is_enabled state move) × IsAsked state offers move)
