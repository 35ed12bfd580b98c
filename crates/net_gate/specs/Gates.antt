-- One gate of a crossbar as the network states it: an output on channel A, or an input on channel D.
use Rattle.std.specs.Prelude.{◌≡◌, ℕ, ◌+◌, ◌≤◌, ◌<◌, ◌==◌, Bool, true, ◌&&◌, cond, List, [], ◌∷◌, length, Option, Some, None, is_some, slice_index_or}
use Rattle.std.specs.Option.{option_and_then, unwrap_or}
use Rattle.flow_core.specs.declared.locks.Gate.{Gate}
use Rattle.flow_core.specs.declared.locks.Lock.{Lock}
use Rattle.flow_core.specs.Crossing.{passed_by}
use Rattle.flow_core.specs.Leaves.{open_gate}
use Rattle.net_build.specs.declared.types.Wire.{Wire}
use Rattle.net_build.specs.Bits.{highs, wire_values}
use Rattle.net_build.specs.Built.{Built}
use Rattle.net_build.specs.Values.{Solves, high}
use Rattle.net_choice.specs.Choice.{one_hot, pick}
use Rattle.net_gate.specs.declared.types.Serving.{Serving}
use Rattle.net_queue.specs.Machines.{Machine, IsMachine}

-- by head the fields that are offered to the gate, if any, and whether there is room
pub record Sight : Type 0 where
  pub offers : List (Option (List ℕ))
  pub room : Bool

-- which head is taken, and what is put
pub record Served : Type 0 where
  pub grants : List Bool
  pub put : Option (List ℕ)

-- what a head offers
abbrev pub offer_at : Sight → ℕ → Option (List ℕ)
offer_at x who = slice_index_or x.offers who None

-- nobody holds the gate, or the message of this head does
abbrev pub passes : Option Lock → ℕ → Bool
passes None who = true
passes (Some lock) who = lock.by == who

-- a head may pass
abbrev pub may_pass : Gate → Sight → ℕ → Bool
may_pass gate x who = (is_some (offer_at x who) && passes gate.lock who) && x.room

-- the first in turn that may
abbrev pub who_passes : Bool → ℕ → Gate → Sight → Option ℕ
who_passes round count gate x = pick round gate.next count (may_pass gate x)

-- the gate after a cycle in which one passed, or none; so many beats follow one with some fields
abbrev pub gate_after : (List ℕ → ℕ) → ℕ → Gate → Sight → Option ℕ → Gate
gate_after rest count gate x None = gate
gate_after rest count gate x (Some who) =
    unwrap_or (passed_by gate.lock gate.next who count (rest (unwrap_or (offer_at x who) []) + 1)) gate

-- a gate of so many heads
abbrev pub gate_machine : Bool → ℕ → (List ℕ → ℕ) → Machine Gate Sight Served
gate_machine round count rest = record {
  idle = open_gate;
  does = λ gate x. record {
    grants = one_hot count (who_passes round count gate x);
    put = option_and_then (offer_at x) (who_passes round count gate x);
  };
  after = λ gate x. gate_after rest count gate x (who_passes round count gate x);
}

-- no more beats than so many follow a head that is offered
abbrev pub FollowFew : (List ℕ → ℕ) → ℕ → Gate → Sight → Type 0
FollowFew rest most gate x = (who : ℕ) (items : List ℕ) → offer_at x who ≡ Some items → rest items ≤ most

-- ---- in wires

-- what wires say is offered
abbrev pub offers_at : (ℕ → ℕ) → List Wire → List (List Wire) → List (Option (List ℕ))
offers_at v [] rows = []
offers_at v (want ∷ wants) [] = []
offers_at v (want ∷ wants) (row ∷ rows) =
    cond (high v want) (Some (wire_values v row)) None ∷ offers_at v wants rows

-- what they show a gate
abbrev pub sight_at : List Wire → Wire → List (List Wire) → (ℕ → ℕ) → Sight
sight_at wants ready rows v = record { offers = offers_at v wants rows; room = high v ready }

-- what they say that it does
abbrev pub served_at : Serving → (ℕ → ℕ) → Served
served_at s v = record {
  grants = highs v s.grants;
  put = cond (high v s.valid) (Some (wire_values v s.items)) None;
}

-- where so few beats follow a head that is offered, its wire tells how many
pub record RestsAre (b : Built) (rest : List ℕ → ℕ) (most : ℕ) (wants : List Wire) (rows : List (List Wire))
    (rests : List Wire) : Type 0 where
  pub at : (v : ℕ → ℕ) (k : ℕ) (d e : Wire) → Solves b v → k < length wants → high v (slice_index_or wants k d) ≡ true
      → rest (wire_values v (slice_index_or rows k [])) ≤ most
      → v (slice_index_or rests k e).number ≡ rest (wire_values v (slice_index_or rows k []))

-- the wires are the gate, where no more beats than so many follow an offered head
abbrev pub IsGate : Built → Bool → (List ℕ → ℕ) → ℕ → List Wire → Wire → List (List Wire) → Serving → Type 0
IsGate b round rest most wants ready rows s =
    IsMachine b (gate_machine round (length wants) rest) (FollowFew rest most) (λ x. x) (λ done. done)
    (sight_at wants ready rows) (served_at s)
