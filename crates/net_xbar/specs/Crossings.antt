-- One cycle of a leaf with any number of in and out edges, by the acts that the network states of it and the order in
-- which it serves them.
use Rattle.std.specs.Prelude.{ℕ, Bool, false, List, [], ◌∷◌, length, map, find, Option, None, is_some, slice_index_or}
use Rattle.std.specs.List.{list_any, range_with_len}
use Rattle.std.specs.Option.{option_and_then, option_map_or}
use Rattle.tl_params.specs.declared.ops.Policy.{Policy}
use Rattle.tl_edge.specs.declared.beat.ABeat.{ABeat}
use Rattle.tl_edge.specs.declared.beat.DBeat.{DBeat}
use Rattle.flow_choice.specs.Turns.{in_turn}
use Rattle.flow_core.specs.Acts.{Act}
use Rattle.flow_core.specs.Leaves.{LeafState, down, down_alone, up, up_alone}
use Rattle.flow_core.specs.Turns.{input_turn, output_turn}
use Rattle.net_choice.specs.Choice.{is_number}
use Rattle.net_queue.specs.Adapters.{act_by, put_by, state_by}
use Rattle.net_queue.specs.Leaves.{LeafDone, LeafView}
use Rattle.net_queue.specs.Machines.{Machine}

-- on channel A from an input to an output
abbrev pub act_down : LeafState → LeafView → ℕ → ℕ → Option (Act ABeat LeafState)
act_down leaf x output input =
    act_by (down_alone leaf 0 input output) (down leaf 0 input output) (slice_index_or x.heads_a input None)
    (slice_index_or x.room_a output false)

-- on channel D from an output to an input
abbrev pub act_up : LeafState → LeafView → ℕ → ℕ → Option (Act DBeat LeafState)
act_up leaf x input output =
    act_by (up_alone leaf input output) (up leaf input output) (slice_index_or x.heads_d output None)
    (slice_index_or x.room_d input false)

-- to an output: from the first input in turn from which a beat may go there
abbrev pub first_to_output : Policy → LeafState → LeafView → ℕ → Option ℕ
first_to_output policy leaf x output =
    find (λ input. is_some (act_down leaf x output input))
    (in_turn policy (output_turn leaf output) (length x.heads_a))

-- to an input: from the first output in turn from which a beat may go there
abbrev pub first_to_input : Policy → LeafState → LeafView → ℕ → Option ℕ
first_to_input policy leaf x input =
    find (λ output. is_some (act_up leaf x input output)) (in_turn policy (input_turn leaf input) (length x.heads_d))

-- ---- what is put and taken

-- one of so many goes by the first from a place
abbrev pub is_taken : (ℕ → Option ℕ) → ℕ → ℕ → Bool
is_taken first count place = list_any (λ to. is_number (first to) place) (range_with_len 0 count)

-- what the act from the first puts
abbrev pub put_of : {B : Type 0} → (ℕ → Option (Act B LeafState)) → Option ℕ → Option B
put_of act first = option_and_then (λ from. put_by (act from)) first

-- ---- the acts that can be made at the start of the cycle are made, by output, and then by input

-- the state after the act from the first, in another state than that in which it was the first
abbrev pub state_through : {B : Type 0} → LeafState → (ℕ → Option (Act B LeafState)) → Option ℕ → LeafState
state_through state act first = option_map_or (λ from. state_by state (act from)) first state

-- the state after those to some outputs
abbrev pub after_down : Policy → LeafState → LeafView → LeafState → List ℕ → LeafState
after_down policy leaf x state [] = state
after_down policy leaf x state (output ∷ outputs) =
    after_down policy leaf x (state_through state (act_down state x output) (first_to_output policy leaf x output))
    outputs

-- the state after those to some inputs
abbrev pub after_up : Policy → LeafState → LeafView → LeafState → List ℕ → LeafState
after_up policy leaf x state [] = state
after_up policy leaf x state (input ∷ inputs) =
    after_up policy leaf x (state_through state (act_up state x input) (first_to_input policy leaf x input)) inputs

-- the numbers of so many
abbrev pub each_number : {A : Type 0} → List A → List ℕ
each_number xs = range_with_len 0 (length xs)

-- a leaf that begins in a state
abbrev pub crossing : Policy → LeafState → Machine LeafState LeafView LeafDone
crossing policy idle = record {
  idle = idle;
  does = λ leaf x. record {
    take_a = map (is_taken (first_to_output policy leaf x) (length x.room_a)) (each_number x.heads_a);
    put_d = map (λ input. put_of (act_up leaf x input) (first_to_input policy leaf x input)) (each_number x.room_d);
    take_d = map (is_taken (first_to_input policy leaf x) (length x.room_d)) (each_number x.heads_d);
    put_a =
        map (λ output. put_of (act_down leaf x output) (first_to_output policy leaf x output)) (each_number x.room_a);
  };
  after = λ leaf x.
      after_up policy leaf x (after_down policy leaf x leaf (each_number x.room_a)) (each_number x.room_d);
}
