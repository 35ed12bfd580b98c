-- Gates side by side: each is in a state that it reaches, and tells what that state does.
use Rattle.std.proofs.Common.{◌≡◌, ℕ, ◌<◌, ◌≤◌, Bool, false, List, [], length, get_or, Option, refl, sym, ap, ◌∙◌, subst}
use Rattle.std.specs.Prelude.{◌==◌}
use Rattle.std.specs.Option.{option_and_then}
use Rattle.flow_core.specs.declared.locks.Gate.{Gate}
use Rattle.flow_core.specs.Leaves.{open_gate}
use Rattle.net_build.specs.declared.types.Wire.{Wire}
use Rattle.net_build.specs.Built.{Built}
use Rattle.net_build.specs.Columns.{no_wire}
use Rattle.net_build.specs.Values.{AtStart, Solves, Ticks}
use Rattle.net_choice.specs.Choice.{one_hot}
use Rattle.net_gate.specs.declared.types.Serving.{Serving}
use Rattle.net_gate.specs.Gates.{FollowFew, IsGate, Served, Sight, gate_after, gate_machine, offer_at, served_at, sight_at, who_passes}
use Rattle.net_queue.specs.Machines.{Reached}
use Rattle.net_queue.specs.Machines.Reached.{begins, goes}

module _ (b : Built) (round : Bool) (behind : List ℕ → ℕ) (few : (items : List ℕ) → behind items ≤ 255) (count : ℕ) (wants : List (List Wire)) (readies : List Wire) (rows : List (List Wire))
    (long : (t : ℕ) → t < length wants → length (get_or wants t []) ≡ count) where
  -- what the wires show the gate of a place
  abbrev pub sight_of : ℕ → (ℕ → ℕ) → Sight
  sight_of t v = sight_at (get_or wants t []) (get_or readies t no_wire) rows v

  -- each gate is in a state that it reaches
  abbrev pub Stand : (ℕ → ℕ) → List Gate → Type 0
  Stand v gates = (t : ℕ) → t < length wants → Reached b (gate_machine round (length (get_or wants t [])) behind) (FollowFew behind 255) (λ x. x) (sight_of t) v (get_or gates t open_gate)

  pub stand_start : (v : ℕ → ℕ) (gates : List Gate) → AtStart b v → ((t : ℕ) → get_or gates t open_gate ≡ open_gate) → Stand v gates
  stand_start v gates a h t l = subst (Reached b (gate_machine round (length (get_or wants t [])) behind) (FollowFew behind 255) (λ x. x) (sight_of t) v) (sym (h t)) (begins v a)

  few_follow : (gate : Gate) (x : Sight) → FollowFew behind 255 gate x
  few_follow gate x = λ who items e. few items

  -- whom the gate of a place serves
  abbrev pub who_of : (ℕ → ℕ) → List Gate → ℕ → Option ℕ
  who_of v gates t = who_passes round count (get_or gates t open_gate) (sight_of t v)

  pub stand_next : (v u : ℕ → ℕ) (gates nexts : List Gate) → Solves b v → Ticks b v u → (v 0 == 1) ≡ false → Stand v gates
      → ((t : ℕ) → t < length wants → get_or nexts t open_gate ≡ gate_after behind count (get_or gates t open_gate) (sight_of t v) (who_of v gates t))
      → Stand u nexts
  stand_next v u gates nexts s k z h e t l =
      let gate = get_or gates t open_gate in
      subst (Reached b (gate_machine round (length (get_or wants t [])) behind) (FollowFew behind 255) (λ x. x) (sight_of t) u)
      (ap (λ (n : ℕ). gate_after behind n gate (sight_of t v) (who_passes round n gate (sight_of t v))) (long t l) ∙ sym (e t l))
      (goes v u gate (sight_of t v) (h t l) s k z refl (few_follow gate (sight_of t v)))

  abbrev done_of : List Bool → Option (List ℕ) → Served
  done_of grants put = record { grants = grants; put = put }

  pub serves : (v : ℕ → ℕ) (gates : List Gate) (t : ℕ) (s : Serving) → t < length wants → IsGate b round behind 255 (get_or wants t []) (get_or readies t no_wire) rows s → Solves b v → (v 0 == 1) ≡ false → Stand v gates
      → served_at s v ≡ done_of (one_hot count (who_of v gates t)) (option_and_then (offer_at (sight_of t v)) (who_of v gates t))
  serves v gates t s l g q z h =
      let gate = get_or gates t open_gate in
      g.does v gate (sight_of t v) (h t l) q z refl (few_follow gate (sight_of t v))
      ∙ ap (λ (n : ℕ). done_of (one_hot n (who_passes round n gate (sight_of t v))) (option_and_then (offer_at (sight_of t v)) (who_passes round n gate (sight_of t v)))) (long t l)
