-- The crossbar: each beat of a request goes to the output that owns its address, each beat of a response to the input
-- in whose range its id is. A message of more beats than one locks its way until its last beat.
use Rattle.std.specs.Prelude.{ℕ, ◌+◌, ◌-◌, ◌==◌, Bool, cond, nat_lt, List, length, Option, Some, None, is_some, slice_get, slice_set}
use Rattle.std.specs.Option.{option_and_then, option_map}
use Rattle.dip_sets.specs.declared.ids.IdRange.{IdRange}
use Rattle.dip_sets.specs.Ids.{has_id}
use Rattle.tl_params.specs.declared.ports.Slave.{Slave}
use Rattle.tl_params.specs.Owners.{owner}
use Rattle.tl_edge.specs.declared.beat.ABeat.{ABeat}
use Rattle.tl_edge.specs.declared.beat.DBeat.{DBeat}
use Rattle.tl_edge.specs.Beats.{request_beats, response_beats}
use Rattle.flow_core.specs.Acts.{Act, forwards, with_a_id, with_d_id}
-- a message in progress holds a way: for whom, and how many of its beats are left
pub use Rattle.flow_core.specs.declared.locks.Lock.{Lock}
-- one output on channel A, or one input on channel D: who holds it, if any, and whose turn is next
pub use Rattle.flow_core.specs.declared.locks.Gate.{Gate}
-- the state: a gate for each output, and one for each input
pub use Rattle.flow_core.specs.declared.locks.Gates.{Gates}

-- what a crossbar goes by: the range of ids of each input, the slaves of each output, and the width of its buses
pub record Crossbar : Type 0 where
  pub ranges : List IdRange
  pub slaves : List (List Slave)
  pub width : ℕ

-- the lock of one that has so many beats to pass, after one of them
abbrev pub lock_after : ℕ → ℕ → Option Lock
lock_after who beats = cond (nat_lt 1 beats) (Some (record { by = who; left = beats - 1 })) None

-- whose turn is after one of so many
abbrev pub turn_after : ℕ → ℕ → ℕ
turn_after who count = cond (nat_lt (who + 1) count) (who + 1) 0

-- a gate after one of so many has passed a beat of a message: none passes where another holds the lock
abbrev pub passed_by : Option Lock → ℕ → ℕ → ℕ → ℕ → Option Gate
passed_by None next who count beats = Some (record { lock = lock_after who beats; next = turn_after who count })
passed_by (Some lock) next who count beats =
    cond (lock.by == who) (Some (record { lock = lock_after who lock.left; next = next })) None

-- the same of the gate at a place
abbrev pub passed_at : List Gate → ℕ → ℕ → ℕ → ℕ → Option Gate
passed_at gates place who count beats =
    option_and_then (λ (gate : Gate). passed_by gate.lock gate.next who count beats) (slice_get gates place)

-- the state with another gate at an output
abbrev pub with_out : Gates → ℕ → Gate → Gates
with_out gates output gate = record { outs = slice_set gates.outs output gate; ins = gates.ins }

-- the state with another gate at an input
abbrev pub with_in : Gates → ℕ → Gate → Gates
with_in gates input gate = record { outs = gates.outs; ins = slice_set gates.ins input gate }

-- a slave of the output owns the address
abbrev pub goes_to : Crossbar → ℕ → ℕ → Bool
goes_to bar output address = is_some (option_and_then (λ slaves. owner slaves address) (slice_get bar.slaves output))

-- a beat of a request from an input to an output, where the gate lets it pass
abbrev pub crossed_down : Crossbar → Gates → ℕ → ℕ → ABeat → IdRange → Option (Act ABeat Gates)
crossed_down bar gates input output beat range =
    option_map
    (λ gate. forwards (with_a_id (beat.source + range.start) beat) (with_out gates output gate))
    (passed_at gates.outs output input (length bar.ranges) (request_beats beat.op beat.size bar.width))

-- from an input to an output on channel A: the output owns the address and isn't held by another input; the id is
-- moved to the input's range
abbrev pub cross_down : Crossbar → Gates → ℕ → ℕ → ABeat → Option (Act ABeat Gates)
cross_down bar gates input output beat =
    cond (goes_to bar output beat.address)
    (option_and_then (crossed_down bar gates input output beat) (slice_get bar.ranges input))
    None

-- a beat of a response from an output to an input, where the gate lets it pass
abbrev pub crossed_up : Crossbar → Gates → ℕ → ℕ → DBeat → IdRange → Option (Act DBeat Gates)
crossed_up bar gates input output beat range =
    option_map
    (λ gate. forwards (with_d_id (beat.source - range.start) beat) (with_in gates input gate))
    (passed_at gates.ins input output (length bar.slaves) (response_beats beat.op beat.size bar.width))

-- from an output to an input on channel D: the id is in the input's range, and the input isn't held by another output;
-- the id is moved back
abbrev pub cross_up : Crossbar → Gates → ℕ → ℕ → DBeat → Option (Act DBeat Gates)
cross_up bar gates input output beat =
    option_and_then
    (λ (range : IdRange). cond (has_id range beat.source) (crossed_up bar gates input output beat range) None)
    (slice_get bar.ranges input)
