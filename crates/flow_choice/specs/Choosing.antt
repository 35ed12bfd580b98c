-- The moves of a cycle: those that may be made at its start, and of those among which there is a choice the one that
-- is chosen; as a list in their order, and what they leave.
use Rattle.std.specs.Prelude.{ℕ, Bool, false, cond, List, [], ◌∷◌, ◌++◌, length, get_or, Option, Some, None, slice_get, find, flat_map}
use Rattle.std.specs.List.{range_with_len}
use Rattle.std.specs.Option.{option_map, option_map_or, option_to_list}
use Rattle.tl_edge.specs.declared.beat.ABeat.{ABeat}
use Rattle.tl_edge.specs.declared.beat.DBeat.{DBeat}
use Rattle.tl_edge.specs.declared.beat.Tag.{Tag}
use Rattle.tl_edge.specs.declared.plan.Leaf.{Leaf}
use Rattle.tl_edge.specs.declared.plan.Plan.{Plan}
use Rattle.flow_core.specs.declared.moves.Move.{Move}
use Rattle.flow_core.specs.declared.moves.Move.TheVariants.{Enter, Leave, Reply, Return, AbsorbA, AbsorbD, ForwardA, ForwardD}
use Rattle.flow_core.specs.Network.{State, is_enabled, state_after}
use Rattle.flow_core.specs.Turns.{leaf_state, output_turn, input_turn, next_id}
use Rattle.flow_choice.specs.declared.cycle.Among.{Among}
use Rattle.flow_choice.specs.declared.cycle.Among.TheVariants.{Down, Up}
use Rattle.flow_choice.specs.declared.offers.Offers.{Offers}
use Rattle.flow_choice.specs.Turns.{in_turn}

-- a move, where it may be made
abbrev pub if_enabled : State → Move → List Move
if_enabled state move = cond (is_enabled state move) (move ∷ []) []

-- the moves of each of so many, by their numbers from 0
abbrev pub of_each : ℕ → (ℕ → List Move) → List Move
of_each count moves = flat_map moves (range_with_len 0 count)

-- ---- ports

-- an offered beat enters
abbrev pub entering : State → ℕ → Option (ABeat × Tag) → List Move
entering state port None = []
entering state port (Some beat) = if_enabled state (Enter port beat.0 beat.1)

-- an offered beat is put as a reply
abbrev pub replying : State → ℕ → Option (DBeat × Tag) → List Move
replying state port None = []
replying state port (Some beat) = if_enabled state (Reply port beat.0 beat.1)

-- a port takes, by its number; one of which nothing is said doesn't
abbrev pub flag_at : List Bool → ℕ → Bool
flag_at takes port = get_or takes port false

-- what a port takes, where it takes
abbrev pub taking : State → Move → Bool → List Move
taking state move takes = cond takes (if_enabled state move) []

-- of a source port: what enters, then what returns
abbrev pub source_moves : State → Offers → ℕ → List Move
source_moves state offers port =
    entering state port (get_or offers.enter port None)
    ++ taking state (Return port) (flag_at offers.take_d port)

-- of a sink port: what leaves, then what is replied
abbrev pub sink_moves : State → Offers → ℕ → List Move
sink_moves state offers port =
    taking state (Leave port) (flag_at offers.take_a port)
    ++ replying state port (get_or offers.reply port None)

-- ---- leaves

-- how many inputs a leaf of a plan has
abbrev pub input_count : Plan → ℕ → ℕ
input_count plan leaf = option_map_or (λ (at : Leaf). length at.ins) (slice_get plan.leaves leaf) 0

-- how many outputs
abbrev pub output_count : Plan → ℕ → ℕ
output_count plan leaf = option_map_or (λ (at : Leaf). length at.outs) (slice_get plan.leaves leaf) 0

-- a move to an output from each input, or to an input from each output, by the number of that one
abbrev pub choice_of : Among → ℕ → Move
choice_of (Down leaf output id) number = ForwardA leaf number output id
choice_of (Up leaf input) number = ForwardD leaf input number

-- the first move in turn that may be made
abbrev pub first_enabled : State → (ℕ → Move) → List ℕ → List Move
first_enabled state move turns =
    option_to_list (option_map move (find (λ number. is_enabled state (move number)) turns))

-- to an output: from the first input in turn from which a beat may go there
abbrev pub chosen_down : State → ℕ → ℕ → List Move
chosen_down state leaf output =
    first_enabled state (choice_of (Down leaf output (next_id (leaf_state state leaf))))
    (in_turn state.plan.policy (output_turn (leaf_state state leaf) output) (input_count state.plan leaf))

-- to an input: from the first output in turn from which a beat may go there
abbrev pub chosen_up : State → ℕ → ℕ → List Move
chosen_up state leaf input =
    first_enabled state (choice_of (Up leaf input))
    (in_turn state.plan.policy (input_turn (leaf_state state leaf) input) (output_count state.plan leaf))

-- of a leaf on channel A: by output; where it takes a beat without putting one, that stands first
abbrev pub leaf_moves_a : State → ℕ → List Move
leaf_moves_a state leaf =
    if_enabled state (AbsorbA leaf) ++ of_each (output_count state.plan leaf) (chosen_down state leaf)

-- of a leaf on channel D: by input
abbrev pub leaf_moves_d : State → ℕ → List Move
leaf_moves_d state leaf =
    if_enabled state (AbsorbD leaf) ++ of_each (input_count state.plan leaf) (chosen_up state leaf)

-- of a leaf: those on channel A, then those on channel D
abbrev pub leaf_moves : State → ℕ → List Move
leaf_moves state leaf = leaf_moves_a state leaf ++ leaf_moves_d state leaf

-- ---- the cycle

-- of all ports: of the source ports in order, then of the sink ports
abbrev pub port_moves : State → Offers → List Move
port_moves state offers =
    of_each (length state.plan.sources) (source_moves state offers)
    ++ of_each (length state.plan.sinks) (sink_moves state offers)

-- the chosen moves: of the ports, then of the leaves in order
abbrev pub chosen_moves : State → Offers → List Move
chosen_moves state offers =
    port_moves state offers ++ of_each (length state.plan.leaves) (leaf_moves state)

-- the state after some moves, one after another
abbrev pub state_after_moves : State → List Move → State
state_after_moves state [] = state
state_after_moves state (move ∷ moves) = state_after_moves (state_after state move) moves

-- the state at the start of the next cycle
abbrev pub state_after_cycle : State → Offers → State
state_after_cycle state offers = state_after_moves state (chosen_moves state offers)

-- the chosen moves of each of some cycles, by their offers
abbrev pub moves_by_cycle : State → List Offers → List (List Move)
moves_by_cycle state [] = []
moves_by_cycle state (offers ∷ cycles) =
    chosen_moves state offers ∷ moves_by_cycle (state_after_cycle state offers) cycles
