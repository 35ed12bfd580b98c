-- A queue of two in registers, and the list that it holds.
use Rattle.std.specs.Prelude.{◌≡◌, ℕ, ◌<◌, ◌==◌, Bool, true, false, not, cond, List, [], ◌∷◌, ◌++◌, length, drop, Option, Some, None, is_some}
use Rattle.flow_core.specs.Queues.{queue, head_in, one_waiting, has_place, takes, puts, flowed}
use Rattle.net_build.specs.declared.types.Wire.{Wire}
use Rattle.net_build.specs.Bits.{wire_values}
use Rattle.net_build.specs.Built.{Built, IsBit, IsRegister}
use Rattle.net_build.specs.Registers.{AreDistinct, AreUndriven}
use Rattle.net_build.specs.Values.{AtStart, Solves, Tells, Ticks, high}
use Rattle.net_queue.specs.declared.types.Queue.{Queue}
use Rattle.net_queue.specs.Rows.{AreAlike}

-- ---- one cycle of a list of at most two

-- what is put at the end, if anything, and whether the head is taken
pub record Moved (B : Type 0) : Type 0 where
  pub put : Option B
  pub take : Bool

-- whether there is room, and the head, if there is one
pub record Shown (B : Type 0) : Type 0 where
  pub room : Bool
  pub head : Option B

-- what a list shows
abbrev pub shown_of : {B : Type 0} → List B → Shown B
shown_of beats = record { room = has_place beats; head = head_in beats }

-- a put needs room, and a take a head
pub record MayMove {B : Type 0} (beats : List B) (moved : Moved B) : Type 0 where
  pub put : is_some moved.put ≡ true → has_place beats ≡ true
  pub take : moved.take ≡ true → is_some (head_in beats) ≡ true

-- the list after the cycle
abbrev pub moved_on : {B : Type 0} → List B → Moved B → List B
moved_on beats moved = cond moved.take (drop 1 beats) beats ++ one_waiting moved.put

-- A list with room and a head gives it and takes a beat in one cycle. The list after is what the moves of the network
-- make of the queue of an edge: one takes its head, another puts a beat.
pub record MovesLaw (B : Type 0) : Type 0 where
  pub both : (x y : B) → moved_on (x ∷ []) (record { put = Some y; take = true }) ≡ y ∷ []
  pub order : (x y : B) → moved_on (x ∷ []) (record { put = Some y; take = false }) ≡ x ∷ y ∷ []
  pub first : (x y : B) → moved_on (x ∷ y ∷ []) (record { put = None; take = true }) ≡ y ∷ []
  pub flows : (queues : List (List B)) (edge : ℕ) (beat : B) → edge < length queues
      → queue (flowed (puts edge beat) (flowed (takes edge) queues)) edge
      ≡ moved_on (queue queues edge) (record { put = Some beat; take = true })

-- ---- in wires

-- its registers: whether there is a head, whether there is a second item, and the fields of both
abbrev pub queue_registers : Queue → List Wire
queue_registers q = q.valid ∷ q.full ∷ q.head ++ q.last

-- the queue is open: its registers are there and none is driven yet, and it has room where there is no second item
pub record IsOpen (b : Built) (q : Queue) : Type 0 where
  pub ready : IsBit b q.ready
  pub valid : IsBit b q.valid
  pub full : IsBit b q.full
  pub alike : AreAlike b q.head q.last
  pub undriven : AreUndriven b (queue_registers q)
  pub distinct : AreDistinct (queue_registers q)
  pub room : Tells b q.ready (λ v. not (high v q.full))

-- in two cycles in which all registers hold the same, the queue shows the same, whatever the inputs are
pub record DependsOnRegisters (b : Built) (q : Queue) : Type 0 where
  pub same : (v u : ℕ → ℕ) → Solves b v → Solves b u
      → ((w : Wire) → IsRegister b w → v w.number ≡ u w.number)
      → (v q.ready.number ≡ u q.ready.number) × (v q.valid.number ≡ u q.valid.number)
      × (wire_values v q.head ≡ wire_values u q.head)

-- The registers hold a list of at most two, each item as the values of its fields. What they hold besides means
-- nothing.
abbrev pub Holds : Queue → (ℕ → ℕ) → List (List ℕ) → Type 0
Holds q v [] = (high v q.valid ≡ false) × (high v q.full ≡ false)
Holds q v (x ∷ []) = (high v q.valid ≡ true) × (high v q.full ≡ false) × (wire_values v q.head ≡ x)
Holds q v (x ∷ y ∷ []) =
    (high v q.valid ≡ true) × (high v q.full ≡ true) × (wire_values v q.head ≡ x) × (wire_values v q.last ≡ y)
Holds q v (x ∷ y ∷ z ∷ more) = ⊥

-- what the wires of a queue show
abbrev pub shown_at : Queue → (ℕ → ℕ) → Shown (List ℕ)
shown_at q v = record {
  room = high v q.ready;
  head = cond (high v q.valid) (Some (wire_values v q.head)) None;
}

-- what the wires say that is put and taken
abbrev pub moved_at : Wire → List Wire → Wire → (ℕ → ℕ) → Moved (List ℕ)
moved_at push items pop v = record {
  put = cond (high v push) (Some (wire_values v items)) None;
  take = high v pop;
}

-- The queue is a list of at most two. It is empty in the first cycle and after each cycle with a reset. In a cycle
-- without a reset in which a put finds room and a take a head, it becomes the list after that.
pub record IsListOfTwo (b : Built) (q : Queue) (push : Wire) (items : List Wire) (pop : Wire) : Type 0 where
  pub starts : (v : ℕ → ℕ) → AtStart b v → Holds q v []
  pub shows : (v : ℕ → ℕ) (beats : List (List ℕ)) → Solves b v → Holds q v beats → shown_at q v ≡ shown_of beats
  pub moves : (v u : ℕ → ℕ) (beats : List (List ℕ)) → Solves b v → Ticks b v u → (v 0 == 1) ≡ false
      → Holds q v beats → MayMove beats (moved_at push items pop v)
      → Holds q u (moved_on beats (moved_at push items pop v))
  pub resets : (v u : ℕ → ℕ) → Solves b v → Ticks b v u → (v 0 == 1) ≡ true → Holds q u []
