-- What of a leaf's state decides whom it serves next: the turns of a crossbar, and the new id at a shrinker.
use Rattle.std.specs.Prelude.{ℕ, List, length, Option, slice_get, find}
use Rattle.std.specs.List.{range_with_len}
use Rattle.std.specs.Option.{option_map_or, unwrap_or}
use Rattle.flow_core.specs.declared.locks.Gate.{Gate}
use Rattle.flow_core.specs.Shrinking.{Slots, Asking, is_free}
use Rattle.flow_core.specs.Leaves.{LeafState}
use Rattle.flow_core.specs.Leaves.LeafState.{BufferState, XbarState, ShrinkerState, WidthState, FragmenterState}
use Rattle.flow_core.specs.Tags.{Held}
use Rattle.flow_core.specs.Network.{State}

-- the state of a leaf by its number
abbrev pub leaf_state : State → ℕ → LeafState
leaf_state state leaf = option_map_or (λ (held : Held). held.leaf) (slice_get state.leaves leaf) BufferState

-- whose turn is next at a gate by its number
abbrev pub turn_of : List Gate → ℕ → ℕ
turn_of gates place = option_map_or (λ (gate : Gate). gate.next) (slice_get gates place) 0

-- which input's turn is next at an output; where there is one input alone it is that one's
abbrev pub output_turn : LeafState → ℕ → ℕ
output_turn BufferState output = 0
output_turn (XbarState bar gates) output = turn_of gates.outs output
output_turn (ShrinkerState width slots) output = 0
output_turn (WidthState widths widget) output = 0
output_turn (FragmenterState knife hand) output = 0

-- which output's turn is next at an input
abbrev pub input_turn : LeafState → ℕ → ℕ
input_turn BufferState input = 0
input_turn (XbarState bar gates) input = turn_of gates.ins input
input_turn (ShrinkerState width slots) input = 0
input_turn (WidthState widths widget) input = 0
input_turn (FragmenterState knife hand) input = 0

-- the lowest free id, 0 where none is free
abbrev pub lowest_free : List (Option ℕ) → ℕ
lowest_free olds = unwrap_or (find (is_free olds) (range_with_len 0 (length olds))) 0

-- the new id of the next beat of a request: at a shrinker that of the request in progress, else the lowest free one
abbrev pub next_id : LeafState → ℕ
next_id BufferState = 0
next_id (XbarState bar gates) = 0
next_id (ShrinkerState width slots) =
    option_map_or (λ (asking : Asking). asking.id) slots.asking (lowest_free slots.olds)
next_id (WidthState widths widget) = 0
next_id (FragmenterState knife hand) = 0
