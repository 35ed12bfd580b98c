-- The parts of a channel of a width adapter in wires. Only functions that aren't public cite them.
use Rattle.std.specs.Prelude.{◌≡◌, ℕ, ◌*◌, ◌%◌, ◌^◌, ◌<◌, ◌≤◌, ◌==◌, Bool, true, false, not, ◌&&◌, ◌||◌, List, length, slice_index_or, slice_set, if◌then◌else◌}
use Rattle.tl_edge.specs.declared.beat.ABeat.{ABeat}
use Rattle.tl_edge.specs.declared.beat.DBeat.{DBeat}
use Rattle.tl_edge.specs.Beats.{active_mask}
use Rattle.tl_edge.specs.Messages.{brings_data, bytes_of, has_data}
use Rattle.tl_edge.specs.Wires.{a_fields, d_fields}
use Rattle.net_build.specs.declared.types.Wire.{Wire}
use Rattle.net_build.specs.Bits.{wire_values}
use Rattle.net_build.specs.Built.{Built, IsBit, IsWire}
use Rattle.net_build.specs.Values.{Solves, Tells, high}
use Rattle.net_lanes.specs.declared.kept.Kept.{Kept}
use Rattle.net_lanes.specs.declared.places.Buses.{Buses}
use Rattle.net_lanes.specs.Lanes.{AreTwo}
use Rattle.net_queue.specs.declared.types.Put.{Put}
use Rattle.net_queue.specs.declared.types.Queue.{Queue}
use Rattle.net_queue.specs.Leaves.{IsPutInto}
use Rattle.net_queue.specs.Queues.{IsOpen}
use Rattle.net_queue.specs.Rows.{KeepsRow, row_widths}
use Rattle.net_turns.specs.declared.types.Head.{Head}
use Rattle.net_turns.specs.Turns.{IsTurn, IsTurned, lanes_in}
use Rattle.net_sides.specs.declared.types.RequestCycle.{RequestCycle}
use Rattle.net_sides.specs.declared.types.RequestLanes.{RequestLanes}
use Rattle.net_sides.specs.declared.types.ResponseCycle.{ResponseCycle}

-- ---- channel A

-- two queues of requests between which an adapter can stand: the mask and the data are as wide as the bus above
pub record CanTurnDown (b : Built) (buses : Buses) (widens : Bool) (above below : Queue) : Type 0 where
  pub two : AreTwo buses
  pub open_above : IsOpen b above
  pub open_below : IsOpen b below
  pub long : length above.head ≡ 7
  pub other : length below.head ≡ 7
  pub op : (d : Wire) → (slice_index_or above.head 0 d).width ≡ 3
  pub mask : (d : Wire) → (slice_index_or above.head 5 d).width ≡ lanes_in widens (2 ^ buses.narrow) buses
  pub payload : (d : Wire) → (slice_index_or above.head 6 d).width ≡ lanes_in widens (8 * 2 ^ buses.narrow) buses

-- the wires of a head are those of the request that the queue shows
pub record IsRequestHead (b : Built) (above below : Queue) (h : Head) : Type 0 where
  pub valid : h.valid ≡ above.valid
  pub room : h.room ≡ below.ready
  pub loaded : (v : ℕ → ℕ) (beat : ABeat) → Solves b v → wire_values v above.head ≡ a_fields beat
      → high v h.loaded ≡ has_data beat.op
  pub size : (v : ℕ → ℕ) (beat : ABeat) → wire_values v above.head ≡ a_fields beat → v h.size.number ≡ beat.size
  pub address : (v : ℕ → ℕ) (beat : ABeat) → wire_values v above.head ≡ a_fields beat
      → v h.address.number ≡ beat.address

-- the lanes of what is put: those given where there is data, and else the active mask and no data
pub record AreRequestLanes (b : Built) (width : ℕ) (h : Head) (mask payload : Wire) (l : RequestLanes) : Type 0 where
  pub mask_put : (v : ℕ → ℕ) → Solves b v → v h.size.number ≤ 8 → v h.address.number % bytes_of (v h.size.number) ≡ 0
      → v l.mask.number
      ≡ (if high v h.loaded then v mask.number else active_mask width (v h.size.number) (v h.address.number))
  pub payload_put : (v : ℕ → ℕ) → Solves b v → v l.payload.number ≡ (if high v h.loaded then v payload.number else 0)

-- a head with other lanes
abbrev pub with_request_lanes : List Wire → RequestLanes → List Wire
with_request_lanes head l = slice_set (slice_set head 5 l.mask) 6 l.payload

-- channel A in a cycle, where so many narrow beats are done
pub record IsRequestCycle (b : Built) (buses : Buses) (widens : Bool) (above below : Queue) (done : Wire)
    (c : RequestCycle) : Type 0 where
  pub head : IsRequestHead b above below c.head
  pub turn : IsTurn b buses widens c.head done c.turn
  pub mask : (d : Wire) → IsTurned b widens (2 ^ buses.narrow) c.turn (slice_index_or above.head 5 d) c.mask
  pub payload : (d : Wire) → IsTurned b widens (8 * 2 ^ buses.narrow) c.turn (slice_index_or above.head 6 d) c.payload
  pub lanes : AreRequestLanes b (if widens then 2 ^ buses.wide else 2 ^ buses.narrow) c.head c.mask.lanes
      c.payload.lanes c.lanes
  pub valid : c.put.valid ≡ c.turn.flow.put
  pub keeps : KeepsRow b (with_request_lanes above.head c.lanes) (row_widths below.head) c.put.items
  pub begins : Tells b c.begins (λ v. high v c.turn.flow.made && (not (high v c.head.loaded) || (v done.number == 0)))

-- its wires
pub record AreRequestWires (b : Built) (below : Queue) (c : RequestCycle) : Type 0 where
  pub put : IsPutInto b below c.put
  pub begins : IsBit b c.begins
  pub take : IsBit b c.turn.flow.take
  pub next : IsWire b c.turn.next
  pub next_wide : c.turn.next.width ≡ 8

-- ---- channel D

-- two queues of responses between which an adapter can stand
pub record CanTurnUp (b : Built) (buses : Buses) (widens : Bool) (below above : Queue) : Type 0 where
  pub two : AreTwo buses
  pub open_below : IsOpen b below
  pub open_above : IsOpen b above
  pub long : length below.head ≡ 5
  pub other : length above.head ≡ 5
  pub op : (d : Wire) → (slice_index_or below.head 0 d).width ≡ 3
  pub payload : (d : Wire) → (slice_index_or below.head 4 d).width ≡ lanes_in widens (8 * 2 ^ buses.narrow) buses

-- The wires of a head are those of the response that the queue shows, and of the address that is kept. One with data
-- waits where none is.
pub record IsResponseHead (b : Built) (kept : Kept) (below above : Queue) (h : Head) : Type 0 where
  pub valid : (v : ℕ → ℕ) → Solves b v
      → high v h.valid ≡ (high v below.valid && (not (high v h.loaded) || high v kept.known))
  pub room : h.room ≡ above.ready
  pub loaded : (v : ℕ → ℕ) (beat : DBeat) → Solves b v → wire_values v below.head ≡ d_fields beat
      → high v h.loaded ≡ brings_data beat.op
  pub size : (v : ℕ → ℕ) (beat : DBeat) → wire_values v below.head ≡ d_fields beat → v h.size.number ≡ beat.size
  pub address : h.address ≡ kept.address

-- channel D in a cycle
pub record IsResponseCycle (b : Built) (buses : Buses) (widens : Bool) (kept : Kept) (below above : Queue)
    (done : Wire) (c : ResponseCycle) : Type 0 where
  pub head : IsResponseHead b kept below above c.head
  pub turn : IsTurn b buses widens c.head done c.turn
  pub payload : (d : Wire) → IsTurned b widens (8 * 2 ^ buses.narrow) c.turn (slice_index_or below.head 4 d) c.payload
  pub data_out : (v : ℕ → ℕ) → Solves b v
      → v c.lanes.number ≡ (if high v c.head.loaded then v c.payload.lanes.number else 0)
  pub valid : c.put.valid ≡ c.turn.flow.put
  pub keeps : KeepsRow b (slice_set below.head 4 c.lanes) (row_widths above.head) c.put.items

-- its wires
pub record AreResponseWires (b : Built) (above : Queue) (c : ResponseCycle) : Type 0 where
  pub put : IsPutInto b above c.put
  pub take : IsBit b c.turn.flow.take
  pub next : IsWire b c.turn.next
  pub next_wide : c.turn.next.width ≡ 8
