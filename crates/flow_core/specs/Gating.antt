-- The gates of the crossbars of a network: who holds each output on channel A and each input on channel D, and whose
-- turn is next.
use Rattle.std.specs.Prelude.{ℕ, Option, Some, None, slice_get}
use Rattle.std.specs.Option.{option_and_then}
use Rattle.flow_core.specs.Crossing.{Gate, Gates}
use Rattle.flow_core.specs.Leaves.{LeafState}
use Rattle.flow_core.specs.Leaves.LeafState.{XbarState}
use Rattle.flow_core.specs.Tags.{Held}
use Rattle.flow_core.specs.Network.{State}

-- the gates of a leaf: a crossbar alone has some
abbrev pub gates_in : LeafState → Option Gates
gates_in (XbarState bar gates) = Some gates
gates_in _ = None

-- the gates of a leaf of a network, by its number
abbrev pub gates_of : State → ℕ → Option Gates
gates_of state leaf = option_and_then (λ (held : Held). gates_in held.leaf) (slice_get state.leaves leaf)

-- the gate of a crossbar's output, by the numbers of leaf and output
abbrev pub output_gate : State → ℕ → ℕ → Option Gate
output_gate state leaf output = option_and_then (λ (gates : Gates). slice_get gates.outs output) (gates_of state leaf)

-- the gate of a crossbar's input
abbrev pub input_gate : State → ℕ → ℕ → Option Gate
input_gate state leaf input = option_and_then (λ (gates : Gates). slice_get gates.ins input) (gates_of state leaf)
