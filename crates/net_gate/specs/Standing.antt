-- What a gate's registers hold, and the state of the gate: the one stands for the other. No register holds whose turn
-- is next where turns don't go round, nor anything of a lock where nobody has one.
use Rattle.std.specs.Prelude.{◌≡◌, ℕ, ◌+◌, ◌<◌, ◌==◌, Bool, true, false, ◌&&◌, length, slice_index_or, Option, Some, None, is_some, if◌then◌else◌}
use Rattle.std.specs.Option.{unwrap_or}
use Rattle.flow_choice.specs.Choosing.{flag_at}
use Rattle.flow_core.specs.declared.locks.Gate.{Gate}
use Rattle.flow_core.specs.declared.locks.Lock.{Lock}
use Rattle.flow_core.specs.Crossing.{passed_by}
use Rattle.net_choice.specs.Choice.{lates_of, one_hot, pick}
use Rattle.net_choice.specs.Rows.{any_of}
use Rattle.net_gate.specs.Gates.{passes}
use Rattle.net_gate.specs.Sides.{Asked, GateSide, grants_in, side_after}

-- how many beats are left of the message that holds a gate
abbrev pub beats_left : Option Lock → ℕ
beats_left None = 0
beats_left (Some lock) = lock.left

-- those behind the last winner come late; behind the last one there is none
abbrev pub late_from : ℕ → ℕ → ℕ
late_from next count = if next == 0 then count else next

-- what the registers of a gate with so many heads hold stands for its state
pub record StandsFor (round : Bool) (count : ℕ) (s : GateSide) (gate : Gate) : Type 0 where
  pub left : s.left ≡ beats_left gate.lock
  pub locked : (lock : Lock) → gate.lock ≡ Some lock
      → ((lock.left == 0) ≡ false) × (s.mine ≡ one_hot count (Some lock.by))
  pub long : length s.mine ≡ count
  pub late : round ≡ true → s.late ≡ lates_of (late_from gate.next count) count
  pub next : gate.next < count

-- a head may pass that is offered
abbrev pub is_let : Gate → Asked → ℕ → Bool
is_let gate x who = (flag_at x.wants who && passes gate.lock who) && x.room

-- the first in turn of them
abbrev pub let_through : Bool → ℕ → Gate → Asked → Option ℕ
let_through round count gate x = pick round gate.next count (is_let gate x)

-- the gate after that
abbrev pub gate_moved : ℕ → Gate → Asked → Option ℕ → Gate
gate_moved count gate x None = gate
gate_moved count gate x (Some who) =
    unwrap_or (passed_by gate.lock gate.next who count (slice_index_or x.rests who 0 + 1)) gate

-- the registers grant the first in turn, and what they hold next stands for the gate after that
pub record GrantsGate (round : Bool) (count : ℕ) (s : GateSide) (gate : Gate) (x : Asked) : Type 0 where
  pub grants : grants_in round s x ≡ one_hot count (let_through round count gate x)
  pub some : any_of (grants_in round s x) ≡ is_some (let_through round count gate x)
  pub stands : StandsFor round count (side_after round s x) (gate_moved count gate x (let_through round count gate x))

-- so it is whenever what they hold stands for the state
abbrev pub SideIsGate : Type 0
SideIsGate =
    (round : Bool) (count : ℕ) (s : GateSide) (gate : Gate) (x : Asked) → length x.wants ≡ count
    → length x.rests ≡ count
    → StandsFor round count s gate → GrantsGate round count s gate x
