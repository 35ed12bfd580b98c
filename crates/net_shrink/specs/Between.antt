-- A shrinker in wires between the queues of two edges.
use Rattle.std.specs.Prelude.{◌≡◌, ℕ, ◌-◌, ◌≤◌, ◌<◌, ◌^◌, ◌==◌, ◌&&◌, false, List, length, slice_index_or, slice_set, IsTrue}
use Rattle.tl_params.specs.Arguments.{is_width}
use Rattle.tl_params.specs.Codes.{code_of_ack, code_of_op}
use Rattle.tl_edge.specs.declared.beat.ABeat.{ABeat}
use Rattle.tl_edge.specs.declared.beat.DBeat.{DBeat}
use Rattle.tl_edge.specs.Beats.{request_beats, response_beats}
use Rattle.tl_edge.specs.Wires.{FitWires, a_fields, d_fields}
use Rattle.net_build.specs.declared.types.Wire.{Wire}
use Rattle.net_build.specs.Bits.{wire_values}
use Rattle.net_build.specs.Built.{Built, IsWire}
use Rattle.net_build.specs.Values.{AtStart, Solves, Ticks, high}
use Rattle.net_queue.specs.declared.types.EdgeWires.{EdgeWires}
use Rattle.net_queue.specs.Leaves.{IsPutInto}
use Rattle.net_queue.specs.Queues.{IsOpen}
use Rattle.net_queue.specs.Rows.{row_widths}
use Rattle.net_slots.specs.declared.types.SlotMoves.{SlotMoves}
use Rattle.net_slots.specs.Slots.{left_then, slot_id, slot_passes}
use Rattle.net_slots.specs.SlotWires.{AreSlots, slot_side, slot_sight}
use Rattle.net_shrink.specs.declared.types.Answering.{Answering}
use Rattle.net_shrink.specs.declared.types.Shrunk.{Shrunk}

-- where the wires of opcode and size are those of a request, the wire tells how many beats follow its first
pub record FollowsRequest (b : Built) (bus : ℕ) (op size w : Wire) : Type 0 where
  pub at : (v : ℕ → ℕ) (beat : ABeat) → Solves b v → v op.number ≡ code_of_op beat.op → v size.number ≡ beat.size
      → beat.size ≤ 8 → v w.number ≡ request_beats beat.op beat.size bus - 1

-- of a response
pub record FollowsResponse (b : Built) (bus : ℕ) (op size w : Wire) : Type 0 where
  pub at : (v : ℕ → ℕ) (beat : DBeat) → Solves b v → v op.number ≡ code_of_ack beat.op → v size.number ≡ beat.size
      → beat.size ≤ 8 → v w.number ≡ response_beats beat.op beat.size bus - 1

-- What becomes of a response: it passes where it is there and has room, and its beats are counted.
pub record IsAnswering (b : Built) (bus : ℕ) (valid ready op size : Wire) (a : Answering) : Type 0 where
  pub goes : (v : ℕ → ℕ) → Solves b v → high v a.goes ≡ (high v valid && high v ready)
  pub frees : (v : ℕ → ℕ) → Solves b v
      → high v a.frees ≡ (high v a.goes && (left_then (high v a.goes) (v a.left.number) (v a.rest.number) == 0))
  pub rest : FollowsResponse b bus op size a.rest
  pub starts : (v : ℕ → ℕ) → AtStart b v → v a.left.number ≡ 0
  pub nexts : (v u : ℕ → ℕ) → Solves b v → Ticks b v u → (v 0 == 1) ≡ false
      → u a.left.number ≡ left_then (high v a.goes) (v a.left.number) (v a.rest.number)

-- the head of a queue has so many fields, the first of which is an opcode
pub record IsHeadRow (b : Built) (fields : ℕ) (row : List Wire) : Type 0 where
  pub long : length row ≡ fields
  pub wires : (k : ℕ) (d : Wire) → k < length row → IsWire b (slice_index_or row k d)
  pub op : (d : Wire) → (slice_index_or row 0 d).width ≡ 3

-- open queues between which a shrinker to so many ids can stand, on a bus of so many bytes: its ids fit the wires
-- below
pub record MayShrink (b : Built) (count bus : ℕ) (above below : EdgeWires) : Type 0 where
  pub some : 0 < count
  pub wide : IsTrue (is_width bus)
  pub above_a : IsOpen b above.a
  pub above_d : IsOpen b above.d
  pub below_a : IsOpen b below.a
  pub below_d : IsOpen b below.d
  pub request : IsHeadRow b 7 above.a.head
  pub requested : IsHeadRow b 7 below.a.head
  pub response : IsHeadRow b 5 below.d.head
  pub responded : IsHeadRow b 5 above.d.head
  pub few_down : (d : Wire) → count ≤ 2 ^ (slice_index_or below.a.head 3 d).width
  pub few_up : (d : Wire) → count ≤ 2 ^ (slice_index_or below.d.head 2 d).width

-- What the slots go by is what the queues show: the request's id stands at place 3 of its head, the response's at place
-- 2.
pub record AreAsked (b : Built) (bus : ℕ) (above below : EdgeWires) (a : Answering) (m : SlotMoves) : Type 0 where
  pub wants : (v : ℕ → ℕ) → Solves b v → high v m.wants ≡ (high v above.a.valid && high v below.a.ready)
  pub old : (v : ℕ → ℕ) → v m.old.number ≡ slice_index_or (wire_values v above.a.head) 3 0
  pub rest : (v : ℕ → ℕ) (beat : ABeat) → Solves b v → wire_values v above.a.head ≡ a_fields beat → beat.size ≤ 8
      → v m.rest.number ≡ request_beats beat.op beat.size bus - 1
  pub frees : m.frees ≡ a.frees
  pub new : (v : ℕ → ℕ) → v m.new.number ≡ slice_index_or (wire_values v below.d.head) 2 0

-- What becomes of a response is what the queues show, and its beats are counted.
pub record AreAnswered (b : Built) (bus : ℕ) (above below : EdgeWires) (a : Answering) : Type 0 where
  pub goes : (v : ℕ → ℕ) → Solves b v → high v a.goes ≡ (high v below.d.valid && high v above.d.ready)
  pub frees : (v : ℕ → ℕ) → Solves b v
      → high v a.frees ≡ (high v a.goes && (left_then (high v a.goes) (v a.left.number) (v a.rest.number) == 0))
  pub rest : (v : ℕ → ℕ) (beat : DBeat) → Solves b v → wire_values v below.d.head ≡ d_fields beat → beat.size ≤ 8
      → v a.rest.number ≡ response_beats beat.op beat.size bus - 1
  pub starts : (v : ℕ → ℕ) → AtStart b v → v a.left.number ≡ 0
  pub nexts : (v u : ℕ → ℕ) → Solves b v → Ticks b v u → (v 0 == 1) ≡ false
      → u a.left.number ≡ left_then (high v a.goes) (v a.left.number) (v a.rest.number)

-- The wires are a shrinker: what passes, with the other id in its place, and what the registers hold.
pub record IsShrunk (b : Built) (count bus : ℕ) (above below : EdgeWires) (s : Shrunk) : Type 0 where
  pub down : IsPutInto b below.a s.down
  pub up : IsPutInto b above.d s.up
  pub slots : AreSlots b count s.slots s.moves
  pub asked : AreAsked b bus above below s.answering s.moves
  pub answering : AreAnswered b bus above below s.answering
  pub passes : (v : ℕ → ℕ) → Solves b v → high v s.down.valid ≡ slot_passes (slot_side v s.slots) (slot_sight v s.moves)
  pub goes : s.up.valid ≡ s.answering.goes
  pub requests : (v : ℕ → ℕ) → Solves b v
      → FitWires (slice_set (wire_values v above.a.head) 3 (slot_id (slot_side v s.slots))) (row_widths below.a.head)
      → wire_values v s.down.items ≡ slice_set (wire_values v above.a.head) 3 (slot_id (slot_side v s.slots))
  pub responses : (v : ℕ → ℕ) → Solves b v
      → FitWires
      (slice_set (wire_values v below.d.head) 2 (slice_index_or (wire_values v s.slots.olds) (v s.moves.new.number) 0))
      (row_widths above.d.head)
      → wire_values v s.up.items
      ≡ slice_set (wire_values v below.d.head) 2 (slice_index_or (wire_values v s.slots.olds) (v s.moves.new.number) 0)
