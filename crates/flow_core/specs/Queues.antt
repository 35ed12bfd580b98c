-- The queues of one channel, one for each edge, and what one move does to them.
use Rattle.std.specs.Prelude.{ℕ, Bool, true, false, ◌&&◌, cond, nat_lt, List, [], ◌∷◌, ◌++◌, length, drop, get_or, set, Option, Some, None, is_some}
use Rattle.flow_core.specs.declared.queue.Flow.{Flow}

-- a queue has room where it holds fewer than two
abbrev pub most_waiting : ℕ
most_waiting = 2

-- the queue of an edge
abbrev pub queue : {B : Type 0} → List (List B) → ℕ → List B
queue queues edge = get_or queues edge []

-- the head of a queue
abbrev pub head_in : {B : Type 0} → List B → Option B
head_in [] = None
head_in (beat ∷ beats) = Some beat

-- one optional beat, as a queue
abbrev pub one_waiting : {B : Type 0} → Option B → List B
one_waiting None = []
one_waiting (Some beat) = beat ∷ []

-- a queue has room for one more
abbrev pub has_place : {B : Type 0} → List B → Bool
has_place beats = nat_lt (length beats) most_waiting

-- it does nothing
abbrev pub still : {B : Type 0} → Flow B
still = record { from = None; take = false; put = None }

-- a head is taken from an edge
abbrev pub takes : {B : Type 0} → ℕ → Flow B
takes edge = record { from = Some edge; take = true; put = None }

-- a beat is put onto an edge
abbrev pub puts : {B : Type 0} → ℕ → B → Flow B
puts edge beat = record { from = None; take = false; put = Some (edge, beat) }

-- there is a head to look at
abbrev pub has_head : {B : Type 0} → List (List B) → Option ℕ → Bool
has_head queues None = true
has_head queues (Some edge) = is_some (head_in (queue queues edge))

-- an edge has room
abbrev pub has_room_at : {B : Type 0} → List (List B) → ℕ → Bool
has_room_at queues edge = nat_lt edge (length queues) && has_place (queue queues edge)

-- there is room for what is put
abbrev pub has_room : {B : Type 0} → List (List B) → Option (ℕ × B) → Bool
has_room queues None = true
has_room queues (Some put) = has_room_at queues put.0

-- the head is there, and the room
abbrev pub may_flow : {B : Type 0} → List (List B) → Flow B → Bool
may_flow queues flow = has_head queues flow.from && has_room queues flow.put

-- without the head of an edge
abbrev pub taken : {B : Type 0} → Option ℕ → List (List B) → List (List B)
taken None queues = queues
taken (Some edge) queues = set queues edge (drop 1 (queue queues edge))

-- with a beat more at the end of an edge's queue
abbrev pub put_last : {B : Type 0} → Option (ℕ × B) → List (List B) → List (List B)
put_last None queues = queues
put_last (Some put) queues = set queues put.0 (queue queues put.0 ++ put.1 ∷ [])

-- the queues after the move: first the head is taken, then the beat is put
abbrev pub flowed : {B : Type 0} → Flow B → List (List B) → List (List B)
flowed flow queues = put_last flow.put (taken (cond flow.take flow.from None) queues)
