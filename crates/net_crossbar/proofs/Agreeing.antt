-- Two sights of one gate: what wires show it, and what the network states that it sees, with other fields.
use Rattle.std.proofs.Common.{◌≡◌, ℕ, ◌+◌, Bool, ◌&&◌, List, [], Option, Some, None, is_some, refl, ap, ◌∙◌}
use Rattle.std.specs.Option.{option_and_then, option_map, unwrap_or}
use Rattle.flow_choice.specs.Turns.{in_turn}
use Rattle.flow_core.specs.declared.locks.Gate.{Gate}
use Rattle.flow_core.specs.Crossing.{passed_by}
use Rattle.net_choice.specs.Choice.{policy_if}
use Rattle.net_gate.specs.Gates.{Sight, gate_after, may_pass, offer_at, passes, who_passes}
use Rattle.net_gate.proofs.Serves.{find_same}

-- the same is offered, with its fields changed, and as many beats follow it
pub record Agrees (rest behind : List ℕ → ℕ) (move : List ℕ → List ℕ) (w y : Sight) : Type 0 where
  pub room : y.room ≡ w.room
  pub offers : (k : ℕ) → offer_at y k ≡ option_map move (offer_at w k)
  pub rests : (k : ℕ) → rest (unwrap_or (offer_at y k) []) ≡ behind (unwrap_or (offer_at w k) [])

some_map : {A C : Type 0} (f : A → C) (o : Option A) → is_some (option_map f o) ≡ is_some o
some_map f None = refl
some_map f (Some x) = refl

module _ (rest behind : List ℕ → ℕ) (move : List ℕ → List ℕ) (w y : Sight) (h : Agrees rest behind move w y) where
  agree_may : (gate : Gate) (who : ℕ) → may_pass gate y who ≡ may_pass gate w who
  agree_may gate who =
      ap (λ (c : Bool). (c && passes gate.lock who) && y.room) (ap is_some (h.offers who) ∙ some_map move (offer_at w who))
      ∙ ap (λ (c : Bool). (is_some (offer_at w who) && passes gate.lock who) && c) h.room

  pub agree_who : (round : Bool) (count : ℕ) (gate : Gate) → who_passes round count gate y ≡ who_passes round count gate w
  agree_who round count gate = find_same _ _ (agree_may gate) (in_turn (policy_if round) gate.next count)

  pub agree_after : (count : ℕ) (gate : Gate) (o : Option ℕ) → gate_after rest count gate y o ≡ gate_after behind count gate w o
  agree_after count gate None = refl
  agree_after count gate (Some who) = ap (λ (n : ℕ). unwrap_or (passed_by gate.lock gate.next who count (n + 1)) gate) (h.rests who)

  pub agree_put : (o : Option ℕ) → option_and_then (offer_at y) o ≡ option_map move (option_and_then (offer_at w) o)
  agree_put None = refl
  agree_put (Some who) = h.offers who
