-- The crossbar is its gates side by side.
use Rattle.std.specs.Prelude.{◌≡◌, ℕ, ◌<◌, Bool, length, Option, slice_index_or}
use Rattle.std.specs.Option.{option_and_then, option_map}
use Rattle.tl_edge.specs.Wires.{a_fields, d_fields}
use Rattle.flow_core.specs.declared.locks.Gate.{Gate}
use Rattle.flow_core.specs.declared.locks.Gates.{Gates}
use Rattle.flow_core.specs.Crossing.{Crossbar}
use Rattle.flow_core.specs.Leaves.{open_gate}
use Rattle.flow_core.specs.Leaves.LeafState.{XbarState}
use Rattle.net_choice.specs.Choice.{policy_if}
use Rattle.net_gate.specs.Gates.{gate_after, offer_at, who_passes}
use Rattle.net_queue.specs.Leaves.{LeafView}
use Rattle.net_xbar.specs.Crossings.{act_down, act_up, crossing, first_to_output, first_to_input, put_of}
use Rattle.net_xbar.specs.Ways.{input_sight, output_sight, rest_a, rest_d}

-- what is seen has a head and a room for each range, and for each list of slaves, and the state a gate for each
pub record Meets (bar : Crossbar) (gates : Gates) (x : LeafView) : Type 0 where
  pub heads_a : length x.heads_a ≡ length bar.ranges
  pub room_d : length x.room_d ≡ length bar.ranges
  pub heads_d : length x.heads_d ≡ length bar.slaves
  pub room_a : length x.room_a ≡ length bar.slaves
  pub outs : length gates.outs ≡ length bar.slaves
  pub ins : length gates.ins ≡ length bar.ranges

-- the gate of an output, and of an input
abbrev pub gate_out : Gates → ℕ → Gate
gate_out gates output = slice_index_or gates.outs output open_gate

abbrev pub gate_in : Gates → ℕ → Gate
gate_in gates input = slice_index_or gates.ins input open_gate

-- which input an output serves, and which output an input
abbrev pub served_out : Bool → Crossbar → Gates → LeafView → ℕ → Option ℕ
served_out round bar gates x output =
    who_passes round (length bar.ranges) (gate_out gates output) (output_sight bar x output)

abbrev pub served_in : Bool → Crossbar → Gates → LeafView → ℕ → Option ℕ
served_in round bar gates x input =
    who_passes round (length bar.slaves) (gate_in gates input) (input_sight bar x input)

-- the gates after a cycle, each by itself
pub record AreAfter (round : Bool) (bar : Crossbar) (gates : Gates) (x : LeafView) (next : Gates) : Type 0 where
  pub outs_long : length next.outs ≡ length gates.outs
  pub ins_long : length next.ins ≡ length gates.ins
  pub outs : (output : ℕ) → output < length gates.outs
      → gate_out next output
      ≡ gate_after (rest_a bar.width) (length bar.ranges) (gate_out gates output) (output_sight bar x output)
      (served_out round bar gates x output)
  pub ins : (input : ℕ) → input < length gates.ins
      → gate_in next input
      ≡ gate_after (rest_d bar.width) (length bar.slaves) (gate_in gates input) (input_sight bar x input)
      (served_in round bar gates x input)

-- each output goes by the head that its gate serves, puts what that offers, and each input likewise; and the state
-- after the cycle has the gates after theirs
pub record IsGatewise (round : Bool) (bar : Crossbar) (gates : Gates) (x : LeafView) : Type 0 where
  pub goes_down : (output : ℕ) → output < length gates.outs
      → first_to_output (policy_if round) (XbarState bar gates) x output ≡ served_out round bar gates x output
  pub goes_up : (input : ℕ) → input < length gates.ins
      → first_to_input (policy_if round) (XbarState bar gates) x input ≡ served_in round bar gates x input
  pub put_a : (output : ℕ) → output < length gates.outs
      → option_map a_fields
      (put_of (act_down (XbarState bar gates) x output)
      (first_to_output (policy_if round) (XbarState bar gates) x output))
      ≡ option_and_then (offer_at (output_sight bar x output)) (served_out round bar gates x output)
  pub put_d : (input : ℕ) → input < length gates.ins
      → option_map d_fields
      (put_of (act_up (XbarState bar gates) x input) (first_to_input (policy_if round) (XbarState bar gates) x input))
      ≡ option_and_then (offer_at (input_sight bar x input)) (served_in round bar gates x input)
  pub next : Gates
  pub after : (crossing (policy_if round) (XbarState bar gates)).after (XbarState bar gates) x ≡ XbarState bar next
  pub are_after : AreAfter round bar gates x next

-- so it is in every state
abbrev pub CrossingIsGatewise : Type 0
CrossingIsGatewise =
    (round : Bool) (bar : Crossbar) (gates : Gates) (x : LeafView) → Meets bar gates x → IsGatewise round bar gates x
