-- What every move keeps is kept by every list of moves.
use Rattle.std.proofs.Common.{ℕ, zero, suc, ◌≡◌, ◌<◌, ◌≤◌, Bool, true, false, ◌&&◌, List, [], ◌∷◌, ◌++◌, length, drop, replicate, Option, Some, None, IsTrue, refl, sym, ◌∙◌, subst, arith, inl, inr, cond, nat_lt, length-append, length-drop}
use Rattle.std.specs.Option.{option_map_or}
use Rattle.std.proofs.lemmas.List.{get_or-set_same, get_or-set_other, set_past, length-set, length-map, length-replicate}
use Rattle.std.proofs.lemmas.Bool.{cases_eq, cases_lt}
use Rattle.std.proofs.lemmas.Bool.Decides.{nat_tests}
use Rattle.tl_edge.specs.declared.plan.Plan.{Plan}
use Rattle.flow_core.specs.declared.moves.Move.{Move}
use Rattle.flow_core.specs.declared.queue.Flow.{Flow}
use Rattle.flow_core.specs.Tags.{Held}
use Rattle.flow_core.specs.Queues.{queue, may_flow, has_head, has_room, has_place, taken, put_last, flowed}
use Rattle.flow_core.specs.Network.{State, Job, job, network_at_start, may_do, with_leaf, is_enabled, done, state_after, held_at_start, RunsTo}
use Rattle.flow_core.specs.Shapes.{AreQueues, IsOf, ShapeLaw}

-- the induction over moves, for any invariant
pub every_move : (P : State → Type 0) → ((state : State) (move : Move) → IsTrue (is_enabled state move) → P state → P (state_after state move))
    → (state end : State) (moves : List Move) → P state → RunsTo state moves end → P end
every_move P step state end [] p r = subst P (sym r) p
every_move P step state end (move ∷ moves) p r = every_move P step (state_after state move) end moves (step state move r.0 p) r.1

both_true : (x y : Bool) → IsTrue (x && y) → IsTrue x × IsTrue y
both_true true true h = (h, h)
both_true true false h = absurd cc
both_true false y h = absurd cc

below : (n m : ℕ) → IsTrue (nat_lt n m) → n < m
below n m h = grind (arith, nat_tests)

nothing : (B : Type 0) (n e : ℕ) → length (queue {B = B} (replicate n []) e) ≡ 0
nothing B zero e = refl
nothing B (suc n) zero = refl
nothing B (suc n) (suc e) = nothing B n e

module _ {B : Type 0} where
  fewer : (t : Option ℕ) (qs : List (List B)) (e : ℕ) → length (queue (taken t qs) e) ≤ length (queue qs e)
  fewer None qs e = omega arith
  fewer (Some f) qs e =
      elim (cases_lt f (length qs)) [
        | inl i ↦ elim (cases_eq e f) [
          | inl s ↦ rw s (rw (get_or-set_same qs f (drop 1 (queue qs f)) [] i) (omega (arith, length-drop 1 (queue qs f))))
          | inr n ↦ rw (get_or-set_other qs f e (drop 1 (queue qs f)) [] n) (omega arith)
        ]
        | inr o ↦ rw (set_past qs f (drop 1 (queue qs f)) o) (omega arith)
      ]

  as_many : (t : Option ℕ) (qs : List (List B)) → length (taken t qs) ≡ length qs
  as_many None qs = refl
  as_many (Some f) qs = length-set qs f (drop 1 (queue qs f))

  as_many_joined : (p : Option (ℕ × B)) (qs : List (List B)) → length (put_last p qs) ≡ length qs
  as_many_joined None qs = refl
  as_many_joined (Some p) qs = length-set qs p.0 (queue qs p.0 ++ p.1 ∷ [])

  Room : List (List B) → Option (ℕ × B) → Type 0
  Room qs None = Unit {0}
  Room qs (Some p) = (p.0 < length qs) × (length (queue qs p.0) < 2)

  two_joined : (p : Option (ℕ × B)) (qs : List (List B)) → Room qs p → ((e : ℕ) → length (queue qs e) ≤ 2) → (e : ℕ) → length (queue (put_last p qs) e) ≤ 2
  unfolding Room
  two_joined None qs r h e = h e
  two_joined (Some p) qs r h e =
      elim (cases_eq e p.0) [
        | inl s ↦ rw s (rw (get_or-set_same qs p.0 (queue qs p.0 ++ p.1 ∷ []) [] r.0) (omega (arith, length-append (queue qs p.0) (p.1 ∷ []), r.1)))
        | inr n ↦ rw (get_or-set_other qs p.0 e (queue qs p.0 ++ p.1 ∷ []) [] n) (h e)
      ]

  room_of : (qs : List (List B)) (p : Option (ℕ × B)) → IsTrue (has_room qs p) → Room qs p
  unfolding Room
  room_of qs None h = tt
  room_of qs (Some p) h =
      let b = both_true (nat_lt p.0 (length qs)) (has_place (queue qs p.0)) h in
      (below p.0 (length qs) b.0, below (length (queue qs p.0)) 2 b.1)

  -- taking a head leaves room
  room_after : (t : Option ℕ) (p : Option (ℕ × B)) (qs : List (List B)) → Room qs p → Room (taken t qs) p
  unfolding Room
  room_after t None qs r = tt
  room_after t (Some p) qs r = (omega (arith, as_many t qs, r.0), omega (arith, fewer t qs p.0, r.1))

  flow_keeps : (n : ℕ) (flow : Flow B) (qs : List (List B)) → IsTrue (may_flow qs flow) → AreQueues n qs → AreQueues n (flowed flow qs)
  flow_keeps n flow qs may h =
      let t : Option ℕ = cond flow.take flow.from None in
      let room = room_of qs flow.put (both_true (has_head qs flow.from) (has_room qs flow.put) may).1 in
      record {
        each = as_many_joined flow.put (taken t qs) ∙ as_many t qs ∙ h.each;
        few = two_joined flow.put (taken t qs) (room_after t flow.put qs room) (λ e. omega (arith, fewer t qs e, h.few e));
      }

  none_waiting : (n : ℕ) → AreQueues {B = B} n (replicate n [])
  none_waiting n = record { each = length-replicate n []; few = λ e. omega (arith, nothing B n e) }

leaves_keep : (changed : Option (ℕ × Held)) (leaves : List Held) → length (with_leaf changed leaves) ≡ length leaves
leaves_keep None leaves = refl
leaves_keep (Some p) leaves = length-set leaves p.0 p.1

job_keeps : (plan : Plan) (state : State) (o : Option Job) → IsTrue (option_map_or (may_do state) o false) → IsOf plan state → IsOf plan (option_map_or (done state) o state)
job_keeps plan state None may h = absurd cc
job_keeps plan state (Some j) may h =
    let b = both_true (may_flow state.a j.a) (may_flow state.d j.d) may in
    record {
      plan = h.plan;
      a = flow_keeps (length plan.edges) j.a state.a b.0 h.a;
      d = flow_keeps (length plan.edges) j.d state.d b.1 h.d;
      leaves = leaves_keep j.leaf state.leaves ∙ h.leaves;
    }

at_start : (plan : Plan) → IsOf plan (network_at_start plan)
at_start plan = record {
  plan = refl;
  a = none_waiting (length plan.edges);
  d = none_waiting (length plan.edges);
  leaves = length-map plan.leaves (held_at_start plan);
}

pub shape_law : ShapeLaw
shape_law plan moves end run =
    every_move (IsOf plan) (λ state move may h. job_keeps plan state (job state move) may h) (network_at_start plan) end moves (at_start plan) run
