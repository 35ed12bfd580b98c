-- Whose turn is next, by the gates of a network.
use Rattle.std.proofs.Common.{ℕ, ◌≡◌, Option, Some, None, refl, slice_get}
use Rattle.std.specs.Option.{option_and_then, option_map_or}
use Rattle.flow_core.specs.declared.locks.Gate.{Gate}
use Rattle.flow_core.specs.declared.locks.Gates.{Gates}
use Rattle.flow_core.specs.Leaves.{LeafState}
use Rattle.flow_core.specs.Leaves.LeafState.{BufferState, XbarState, ShrinkerState, WidthState, FragmenterState}
use Rattle.flow_core.specs.Tags.{Held}
use Rattle.flow_core.specs.Network.{State}
use Rattle.flow_core.specs.Gating.{gates_in, output_gate, input_gate}
use Rattle.flow_core.specs.Turns.{leaf_state, output_turn, input_turn}

-- the turn of a gate, 0 where there is none
abbrev pub next_of : Option Gate → ℕ
next_of gate = option_map_or (λ (gate : Gate). gate.next) gate 0

out_of : (leaf : LeafState) (o : ℕ) → next_of (option_and_then (λ (gates : Gates). slice_get gates.outs o) (gates_in leaf)) ≡ output_turn leaf o
out_of BufferState o = refl
out_of (XbarState bar gates) o = refl
out_of (ShrinkerState width slots) o = refl
out_of (WidthState widths widget) o = refl
out_of (FragmenterState knife hand) o = refl

in_of : (leaf : LeafState) (i : ℕ) → next_of (option_and_then (λ (gates : Gates). slice_get gates.ins i) (gates_in leaf)) ≡ input_turn leaf i
in_of BufferState i = refl
in_of (XbarState bar gates) i = refl
in_of (ShrinkerState width slots) i = refl
in_of (WidthState widths widget) i = refl
in_of (FragmenterState knife hand) i = refl

at_out : (held : Option Held) (o : ℕ) → next_of (option_and_then (λ (gates : Gates). slice_get gates.outs o) (option_and_then (λ (held : Held). gates_in held.leaf) held)) ≡ output_turn (option_map_or (λ (held : Held). held.leaf) held BufferState) o
at_out None o = refl
at_out (Some held) o = out_of held.leaf o

at_in : (held : Option Held) (i : ℕ) → next_of (option_and_then (λ (gates : Gates). slice_get gates.ins i) (option_and_then (λ (held : Held). gates_in held.leaf) held)) ≡ input_turn (option_map_or (λ (held : Held). held.leaf) held BufferState) i
at_in None i = refl
at_in (Some held) i = in_of held.leaf i

pub turn_at_output : (s : State) (l o next : ℕ) (gate : Option Gate) → gate ≡ output_gate s l o → next ≡ next_of gate → next ≡ output_turn (leaf_state s l) o
turn_at_output s l o next gate e f = rw (f, e) (at_out (slice_get s.leaves l) o)

pub turn_at_input : (s : State) (l i next : ℕ) (gate : Option Gate) → gate ≡ input_gate s l i → next ≡ next_of gate → next ≡ input_turn (leaf_state s l) i
turn_at_input s l i next gate e f = rw (f, e) (at_in (slice_get s.leaves l) i)
