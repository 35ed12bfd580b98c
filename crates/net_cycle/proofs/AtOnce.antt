-- Moves of which any two are apart leave the queues as if they were made at once.
use Rattle.std.proofs.Common.{◌≡◌, ℕ, ◌<◌, true, List, [], ◌∷◌, length, map, Some, refl, sym, ap, ◌∙◌, subst, arith, append-nil, is_some, nat_lt}
use Rattle.std.specs.Option.{option_map_or}
use Rattle.std.proofs.lemmas.Bool.Decides.{nat_tests}
use Rattle.tl_edge.specs.declared.beat.ABeat.{ABeat}
use Rattle.tl_edge.specs.declared.beat.DBeat.{DBeat}
use Rattle.tl_edge.specs.declared.beat.Tag.{Tag}
use Rattle.flow_core.specs.declared.moves.Move.{Move}
use Rattle.flow_core.specs.declared.queue.Flow.{Flow}
use Rattle.flow_core.specs.Network.{State, Job, job, state_after}
use Rattle.flow_core.specs.Queues.{queue, head_in, taken, still}
use Rattle.flow_choice.specs.Choosing.{state_after_moves}
use Rattle.flow_choice.proofs.Queueing.{Apart, took, HasHead, HasRoom}
use Rattle.flow_choice.proofs.Meeting.{some_job, after_is, kept}
use Rattle.flow_choice.proofs.Ordering.{ApartFrom, AllApart, all_after}
use Rattle.net_queue.specs.Queues.{moved_on}
use Rattle.net_cycle.specs.Flows.{flow_down, flow_up, moved_here, AreAtOnce}
use Rattle.net_cycle.proofs.AtEdge.{EachFlow, one, flow_at, moves_two, alone_of, taken_head, put_room, room_after, head_taken}

down_is : (s : State) (m : Move) (j : Job) → job s m ≡ Some j → flow_down s m ≡ j.a
down_is s m j e = ap (λ o. option_map_or (λ (does : Job). does.a) o still) e

up_is : (s : State) (m : Move) (j : Job) → job s m ≡ Some j → flow_up s m ≡ j.d
up_is s m j e = ap (λ o. option_map_or (λ (does : Job). does.d) o still) e

-- the moves of a list that are apart from one do after it what they do before
down_kept : (s : State) (m : Move) (ms : List Move) → ApartFrom s m ms → map (flow_down (state_after s m)) ms ≡ map (flow_down s) ms
down_kept s m [] a = refl
down_kept s m (n ∷ ms) a =
    let j = some_job s n a.0.enabled.1 in
    let k = kept s m n j.0 a.0 j.1 in
    rw (down_is s n j.0 j.1, down_is (state_after s m) n (record { a = j.0.a; d = j.0.d; leaf = k.0 }) k.1, down_kept s m ms a.1) refl

up_kept : (s : State) (m : Move) (ms : List Move) → ApartFrom s m ms → map (flow_up (state_after s m)) ms ≡ map (flow_up s) ms
up_kept s m [] a = refl
up_kept s m (n ∷ ms) a =
    let j = some_job s n a.0.enabled.1 in
    let k = kept s m n j.0 a.0 j.1 in
    rw (up_is s n j.0 j.1, up_is (state_after s m) n (record { a = j.0.a; d = j.0.d; leaf = k.0 }) k.1, up_kept s m ms a.1) refl

downs_apart : (s : State) (m : Move) (ms : List Move) → ApartFrom s m ms → EachFlow (Apart (flow_down s m)) (map (flow_down s) ms)
downs_apart s m [] a = tt
downs_apart s m (n ∷ ms) a =
    let j = some_job s m a.0.enabled.0 in
    let k = some_job s n a.0.enabled.1 in
    (rw (down_is s m j.0 j.1, down_is s n k.0 k.1) (a.0.queues j.0 k.0 j.1 k.1).0, downs_apart s m ms a.1)

ups_apart : (s : State) (m : Move) (ms : List Move) → ApartFrom s m ms → EachFlow (Apart (flow_up s m)) (map (flow_up s) ms)
ups_apart s m [] a = tt
ups_apart s m (n ∷ ms) a =
    let j = some_job s m a.0.enabled.0 in
    let k = some_job s n a.0.enabled.1 in
    (rw (up_is s m j.0 j.1, up_is s n k.0 k.1) (a.0.queues j.0 k.0 j.1 k.1).1, ups_apart s m ms a.1)

-- each finds a head and room
heads_down : (s : State) (ms : List Move) → AllApart s ms → EachFlow (λ (g : Flow (ABeat × Tag)). HasHead s.a g.from) (map (flow_down s) ms)
heads_down s [] a = tt
heads_down s (m ∷ ms) a = let j = some_job s m a.0 in (subst (λ (g : Flow (ABeat × Tag)). HasHead s.a g.from) (sym (down_is s m j.0 j.1)) j.2.head_a, heads_down s ms a.2)

heads_up : (s : State) (ms : List Move) → AllApart s ms → EachFlow (λ (g : Flow (DBeat × Tag)). HasHead s.d g.from) (map (flow_up s) ms)
heads_up s [] a = tt
heads_up s (m ∷ ms) a = let j = some_job s m a.0 in (subst (λ (g : Flow (DBeat × Tag)). HasHead s.d g.from) (sym (up_is s m j.0 j.1)) j.2.head_d, heads_up s ms a.2)

rooms_down : (s : State) (ms : List Move) → AllApart s ms → EachFlow (λ (g : Flow (ABeat × Tag)). HasRoom s.a g.put) (map (flow_down s) ms)
rooms_down s [] a = tt
rooms_down s (m ∷ ms) a = let j = some_job s m a.0 in (subst (λ (g : Flow (ABeat × Tag)). HasRoom s.a g.put) (sym (down_is s m j.0 j.1)) j.2.room_a, rooms_down s ms a.2)

rooms_up : (s : State) (ms : List Move) → AllApart s ms → EachFlow (λ (g : Flow (DBeat × Tag)). HasRoom s.d g.put) (map (flow_up s) ms)
rooms_up s [] a = tt
rooms_up s (m ∷ ms) a = let j = some_job s m a.0 in (subst (λ (g : Flow (DBeat × Tag)). HasRoom s.d g.put) (sym (up_is s m j.0 j.1)) j.2.room_d, rooms_up s ms a.2)

-- ---- a queue after all of them

at_once_down : (s : State) (ms : List Move) → AllApart s ms → (e : ℕ) → queue (state_after_moves s ms).a e ≡ moved_on (queue s.a e) (moved_here e (map (flow_down s) ms))
at_once_down s [] a e = sym (append-nil (queue s.a e))
at_once_down s (m ∷ ms) a e =
    let j = some_job s m a.0 in
    let r : HasRoom (taken (took j.0.a) s.a) j.0.a.put = room_after j.0.a s.a j.2.room_a in
    let first : queue (state_after s m).a e ≡ moved_on (queue s.a e) (one e (flow_down s m)) =
    ap (λ (t : State). queue t.a e) (after_is s m j.0 j.1) ∙ flow_at j.0.a e s.a (head_taken j.0.a s.a j.2.head_a) r ∙ ap (λ f. moved_on (queue s.a e) (one e f)) (sym (down_is s m j.0 j.1)) in
    at_once_down (state_after s m) ms (all_after s m ms a.1 a.2) e
    ∙ ap (λ fs. moved_on (queue (state_after s m).a e) (moved_here e fs)) (down_kept s m ms a.1)
    ∙ ap (λ q. moved_on q (moved_here e (map (flow_down s) ms))) first
    ∙ moves_two (one e (flow_down s m)) (moved_here e (map (flow_down s) ms)) (queue s.a e) (alone_of e (flow_down s m) (map (flow_down s) ms) (downs_apart s m ms a.1))
    (taken_head e s.a (map (flow_down s) ms) (heads_down s ms a.2))

at_once_up : (s : State) (ms : List Move) → AllApart s ms → (e : ℕ) → queue (state_after_moves s ms).d e ≡ moved_on (queue s.d e) (moved_here e (map (flow_up s) ms))
at_once_up s [] a e = sym (append-nil (queue s.d e))
at_once_up s (m ∷ ms) a e =
    let j = some_job s m a.0 in
    let r : HasRoom (taken (took j.0.d) s.d) j.0.d.put = room_after j.0.d s.d j.2.room_d in
    let first : queue (state_after s m).d e ≡ moved_on (queue s.d e) (one e (flow_up s m)) =
    ap (λ (t : State). queue t.d e) (after_is s m j.0 j.1) ∙ flow_at j.0.d e s.d (head_taken j.0.d s.d j.2.head_d) r ∙ ap (λ f. moved_on (queue s.d e) (one e f)) (sym (up_is s m j.0 j.1)) in
    at_once_up (state_after s m) ms (all_after s m ms a.1 a.2) e
    ∙ ap (λ fs. moved_on (queue (state_after s m).d e) (moved_here e fs)) (up_kept s m ms a.1)
    ∙ ap (λ q. moved_on q (moved_here e (map (flow_up s) ms))) first
    ∙ moves_two (one e (flow_up s m)) (moved_here e (map (flow_up s) ms)) (queue s.d e) (alone_of e (flow_up s m) (map (flow_up s) ms) (ups_apart s m ms a.1))
    (taken_head e s.d (map (flow_up s) ms) (heads_up s ms a.2))

below_two : (n : ℕ) → n < 2 → nat_lt n 2 ≡ true
below_two n h = grind (arith, nat_tests)

some_in : {B : Type 0} (q : List B) → 0 < length q → is_some (head_in q) ≡ true
some_in [] h = absurd (omega arith)
some_in (x ∷ q) h = refl

pub at_once : (s : State) (ms : List Move) → AllApart s ms → AreAtOnce s ms
at_once s ms a = record {
  a = at_once_down s ms a;
  d = at_once_up s ms a;
  may_a = λ e. record {
    put = λ h. below_two (length (queue s.a e)) (put_room e s.a (map (flow_down s) ms) (rooms_down s ms a) h);
    take = λ h. some_in (queue s.a e) (taken_head e s.a (map (flow_down s) ms) (heads_down s ms a) h);
  };
  may_d = λ e. record {
    put = λ h. below_two (length (queue s.d e)) (put_room e s.d (map (flow_up s) ms) (rooms_up s ms a) h);
    take = λ h. some_in (queue s.d e) (taken_head e s.d (map (flow_up s) ms) (heads_up s ms a) h);
  };
}
