-- What it means that wires are one channel of a width adapter between two queues: they tell the acts that the network
-- states of the channel, and their registers hold its side.
use Rattle.std.specs.Prelude.{◌≡◌, ℕ, ◌-◌, ◌%◌, ◌^◌, ◌<◌, ◌≤◌, ◌==◌, Bool, false, not, min, Option, Some, is_some, slice_set, slice_index_or, IsTrue, if◌then◌else◌}
use Rattle.std.specs.Option.{option_and_then, option_map}
use Rattle.tl_edge.specs.declared.beat.ABeat.{ABeat}
use Rattle.tl_edge.specs.declared.beat.DBeat.{DBeat}
use Rattle.tl_edge.specs.Beats.{data_beats, most_lanes}
use Rattle.tl_edge.specs.Messages.{brings_data, has_data}
use Rattle.tl_edge.specs.Wires.{FitWires, a_fields, d_fields}
use Rattle.flow_core.specs.Acts.{Act}
use Rattle.flow_core.specs.Fragmenting.{head_of}
use Rattle.flow_core.specs.Leaves.{no_lanes}
use Rattle.flow_core.specs.Turning.{Side, Widget, Widths, address_of, turn_down, turn_up}
use Rattle.flow_choice.specs.Valid.{IsPlaced}
use Rattle.net_build.specs.declared.types.Wire.{Wire}
use Rattle.net_build.specs.Bits.{wire_values}
use Rattle.net_build.specs.Built.{Built}
use Rattle.net_build.specs.Values.{AtStart, Solves, Ticks, high}
use Rattle.net_lanes.specs.declared.kept.Kept.{Kept}
use Rattle.net_lanes.specs.declared.places.Buses.{Buses}
use Rattle.net_queue.specs.declared.types.Queue.{Queue}
use Rattle.net_queue.specs.Adapters.{put_by, state_by, taken_by, with_room}
use Rattle.net_queue.specs.Leaves.{put_told}
use Rattle.net_queue.specs.Queues.{shown_at}
use Rattle.net_queue.specs.Rows.{row_widths}
use Rattle.net_turns.specs.Turns.{HeldAt}
use Rattle.net_sides.specs.declared.types.Requests.{Requests}
use Rattle.net_sides.specs.declared.types.Responses.{Responses}
use Rattle.net_sides.specs.declared.types.SideWires.{SideWires}

-- ---- what is stated

-- the widths of two buses, the narrow one above where requests go to a wider bus
abbrev pub widths_down : Buses → Bool → Widths
widths_down buses widens = record {
  above = if widens then 2 ^ buses.narrow else 2 ^ buses.wide;
  below = if widens then 2 ^ buses.wide else 2 ^ buses.narrow;
}

-- the same, the narrow one below where responses do
abbrev pub widths_up : Buses → Bool → Widths
widths_up buses widens = record {
  above = if widens then 2 ^ buses.wide else 2 ^ buses.narrow;
  below = if widens then 2 ^ buses.narrow else 2 ^ buses.wide;
}

-- the act on a head of channel A, if there is one and what it puts finds room
abbrev pub made_down : Widths → Widget → Option ABeat → Bool → Option (Act ABeat Widget)
made_down widths widget head room =
    option_and_then (with_room room) (option_and_then (turn_down widths widget) head)

-- of channel D
abbrev pub made_up : Widths → Widget → Option DBeat → Bool → Option (Act DBeat Widget)
made_up widths widget head room = option_and_then (with_room room) (option_and_then (turn_up widths widget) head)

-- ---- in wires

-- the registers of a channel hold its side
pub record HoldSide (w : SideWires) (side : Side) (v : ℕ → ℕ) : Type 0 where
  pub done : v w.done.number ≡ side.done
  pub mask : HeldAt v w.mask side.mask
  pub payload : HeldAt v w.payload side.payload

-- the head that the queue above shows on channel A: it is placed, and of its message with data a narrow beat is left
pub record SeesRequest (widths : Widths) (above : Queue) (widget : Widget) (head : Option ABeat)
    (v : ℕ → ℕ) : Type 0 where
  pub seen : (shown_at above v).head ≡ option_map a_fields head
  pub placed : (beat : ABeat) → head ≡ Some beat → IsPlaced (head_of beat)
  pub left : (beat : ABeat) → head ≡ Some beat → IsTrue (has_data beat.op)
      → widget.a.done < data_beats beat.size (min widths.above widths.below)

-- what the value of a queue's head is at a place
abbrev pub field_at : Queue → ℕ → (ℕ → ℕ) → ℕ
field_at queue place v = slice_index_or (wire_values v queue.head) place 0

-- The wires are channel A of an adapter: they take the head, put a beat, begin a message and go on as the network
-- states it of each state that their registers hold.
pub record AreRequestsTurned (b : Built) (widths : Widths) (above below : Queue) (r : Requests) : Type 0 where
  pub starts : (v : ℕ → ℕ) → AtStart b v → HoldSide r.side no_lanes v
  pub takes : (v : ℕ → ℕ) (widget : Widget) (head : Option ABeat) → Solves b v → HoldSide r.side widget.a v
      → SeesRequest widths above widget head v
      → high v r.take ≡ taken_by (made_down widths widget head (high v below.ready))
  pub puts : (v : ℕ → ℕ) (widget : Widget) (head : Option ABeat) → Solves b v → HoldSide r.side widget.a v
      → SeesRequest widths above widget head v
      → ((beat : ABeat) → put_by (made_down widths widget head (high v below.ready)) ≡ Some beat
      → FitWires (a_fields beat) (row_widths below.head))
      → put_told v r.put ≡ option_map a_fields (put_by (made_down widths widget head (high v below.ready)))
  pub keeps : (v : ℕ → ℕ) (widget : Widget) (head : Option ABeat) → Solves b v → HoldSide r.side widget.a v
      → SeesRequest widths above widget head v
      → (state_by widget (made_down widths widget head (high v below.ready))).kept
      ≡ (if high v r.begins
      then slice_set widget.kept (field_at above 3 v) (Some (field_at above 4 v % most_lanes))
      else widget.kept)
  pub other : (v : ℕ → ℕ) (widget : Widget) (head : Option ABeat) → Solves b v → HoldSide r.side widget.a v
      → SeesRequest widths above widget head v
      → (state_by widget (made_down widths widget head (high v below.ready))).d ≡ widget.d
  pub nexts : (v u : ℕ → ℕ) (widget : Widget) (head : Option ABeat) → Solves b v → Ticks b v u → (v 0 == 1) ≡ false
      → HoldSide r.side widget.a v → SeesRequest widths above widget head v
      → HoldSide r.side (state_by widget (made_down widths widget head (high v below.ready))).a u

-- the head that the queue below shows on channel D, and the address that is kept for its id
pub record SeesResponse (widths : Widths) (kept : Kept) (below : Queue) (widget : Widget) (head : Option DBeat)
    (v : ℕ → ℕ) : Type 0 where
  pub seen : (shown_at below v).head ≡ option_map d_fields head
  pub known : (beat : DBeat) → head ≡ Some beat → high v kept.known ≡ is_some (address_of widget.kept beat.source)
  pub address : (beat : DBeat) (address : ℕ) → head ≡ Some beat → address_of widget.kept beat.source ≡ Some address
      → v kept.address.number ≡ address
  pub size : (beat : DBeat) → head ≡ Some beat → beat.size ≤ 8
  pub left : (beat : DBeat) → head ≡ Some beat → IsTrue (brings_data beat.op)
      → widget.d.done < data_beats beat.size (min widths.above widths.below)

-- the wires are channel D of an adapter
pub record AreResponsesTurned (b : Built) (widths : Widths) (kept : Kept) (below above : Queue)
    (r : Responses) : Type 0 where
  pub starts : (v : ℕ → ℕ) → AtStart b v → HoldSide r.side no_lanes v
  pub takes : (v : ℕ → ℕ) (widget : Widget) (head : Option DBeat) → Solves b v → HoldSide r.side widget.d v
      → SeesResponse widths kept below widget head v
      → high v r.take ≡ taken_by (made_up widths widget head (high v above.ready))
  pub puts : (v : ℕ → ℕ) (widget : Widget) (head : Option DBeat) → Solves b v → HoldSide r.side widget.d v
      → SeesResponse widths kept below widget head v
      → ((beat : DBeat) → put_by (made_up widths widget head (high v above.ready)) ≡ Some beat
      → FitWires (d_fields beat) (row_widths above.head))
      → put_told v r.put ≡ option_map d_fields (put_by (made_up widths widget head (high v above.ready)))
  pub others : (v : ℕ → ℕ) (widget : Widget) (head : Option DBeat) → Solves b v → HoldSide r.side widget.d v
      → SeesResponse widths kept below widget head v
      → ((state_by widget (made_up widths widget head (high v above.ready))).kept ≡ widget.kept)
      × ((state_by widget (made_up widths widget head (high v above.ready))).a ≡ widget.a)
  pub nexts : (v u : ℕ → ℕ) (widget : Widget) (head : Option DBeat) → Solves b v → Ticks b v u → (v 0 == 1) ≡ false
      → HoldSide r.side widget.d v → SeesResponse widths kept below widget head v
      → HoldSide r.side (state_by widget (made_up widths widget head (high v above.ready))).d u
