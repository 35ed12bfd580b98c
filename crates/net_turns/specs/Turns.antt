-- One channel of a width adapter in wires: what is done with a head, which of its narrow beats is next, and the lanes
-- that are cut out or collected.
use Rattle.std.specs.Prelude.{◌≡◌, ℕ, ◌+◌, ◌*◌, ◌/◌, ◌%◌, ◌^◌, ◌-◌, ◌<◌, ◌≤◌, ◌==◌, Bool, true, false, not, ◌&&◌, ◌||◌, Option, Some, None, bit_or, if◌then◌else◌}
use Rattle.tl_edge.specs.Beats.{data_beats}
use Rattle.tl_pieces.specs.TwoBuses.{lanes_at}
use Rattle.flow_core.specs.Turning.{ends_wide, number_after}
use Rattle.net_build.specs.declared.types.Wire.{Wire}
use Rattle.net_build.specs.Built.{Built, IsBit, IsWire}
use Rattle.net_build.specs.Values.{AtStart, Solves, Ticks, high}
use Rattle.net_lanes.specs.declared.places.Buses.{Buses}
use Rattle.net_turns.specs.declared.types.Counted.{Counted}
use Rattle.net_turns.specs.declared.types.Flow.{Flow}
use Rattle.net_turns.specs.declared.types.Head.{Head}
use Rattle.net_turns.specs.declared.types.Turn.{Turn}
use Rattle.net_turns.specs.declared.types.Turned.{Turned}

-- ---- what is done with a head

-- whether anything is done: to a narrower bus where there is room, to a wider one also where the head ends no wide beat
abbrev pub made_where : Bool → Bool → Bool → Bool → Bool
made_where widens valid room last = if widens then valid && (not last || room) else valid && room

-- whether the head is taken
abbrev pub taken_where : Bool → Bool → Bool → Bool → Bool
taken_where widens valid room last =
    if widens then made_where widens valid room last else made_where widens valid room last && last

-- whether a beat is put
abbrev pub put_where : Bool → Bool → Bool → Bool → Bool
put_where widens valid room last = if widens then (valid && room) && last else valid && room

-- the wires tell that in each cycle
pub record IsFlow (b : Built) (widens : Bool) (valid room last : Wire) (f : Flow) : Type 0 where
  pub made : (v : ℕ → ℕ) → Solves b v → high v f.made ≡ made_where widens (high v valid) (high v room) (high v last)
  pub take : (v : ℕ → ℕ) → Solves b v → high v f.take ≡ taken_where widens (high v valid) (high v room) (high v last)
  pub put : (v : ℕ → ℕ) → Solves b v → high v f.put ≡ put_where widens (high v valid) (high v room) (high v last)

-- ---- the narrow beat that is next

-- the wires of a head, of which the opcode and the data go elsewhere
pub record AreHeadWires (b : Built) (h : Head) : Type 0 where
  pub valid : IsBit b h.valid
  pub room : IsBit b h.room
  pub loaded : IsBit b h.loaded
  pub size : IsWire b h.size
  pub address : IsWire b h.address

-- By the size and the number of narrow beats done: whether the next one ends its wide beat, the lane of the wide beat
-- at which it begins, and the number after it.
pub record IsCounted (b : Built) (buses : Buses) (size address done : Wire) (c : Counted) : Type 0 where
  pub ends : (v : ℕ → ℕ) → Solves b v → v size.number ≤ 8
      → high v c.ends
      ≡ ends_wide (2 ^ buses.narrow) (2 ^ buses.wide) (v address.number)
      (data_beats (v size.number) (2 ^ buses.narrow)) (v done.number)
  pub lane : (v : ℕ → ℕ) → Solves b v
      → v c.lane.number
      ≡ (v address.number + v done.number * 2 ^ buses.narrow) % 2 ^ buses.wide / 2 ^ buses.narrow
  pub next : (v : ℕ → ℕ) → Solves b v → v size.number ≤ 8
      → v done.number < data_beats (v size.number) (2 ^ buses.narrow)
      → v c.next.number ≡ number_after (data_beats (v size.number) (2 ^ buses.narrow)) (v done.number)

-- their widths
pub record AreCountedWires (b : Built) (buses : Buses) (c : Counted) : Type 0 where
  pub ends : IsBit b c.ends
  pub lane : IsWire b c.lane
  pub lane_wide : buses.narrow + c.lane.width ≡ buses.wide
  pub next : IsWire b c.next
  pub next_wide : c.next.width ≡ 8

-- The head is used up where it has no data or its narrow beat ends the wide one; by that it is taken and a beat put. A
-- move on a head with data goes on to the next narrow beat.
pub record IsTurn (b : Built) (buses : Buses) (widens : Bool) (h : Head) (done : Wire) (t : Turn) : Type 0 where
  pub counted : IsCounted b buses h.size h.address done t.counted
  pub last : (v : ℕ → ℕ) → Solves b v → high v t.last ≡ (not (high v h.loaded) || high v t.counted.ends)
  pub flow : IsFlow b widens h.valid h.room t.last t.flow
  pub moves : (v : ℕ → ℕ) → Solves b v → high v t.moves ≡ (high v t.flow.made && high v h.loaded)
  pub next : (v : ℕ → ℕ) → Solves b v
      → v t.next.number ≡ (if high v t.moves then v t.counted.next.number else v done.number)

-- its wires
pub record AreTurnWires (b : Built) (buses : Buses) (t : Turn) : Type 0 where
  pub counted : AreCountedWires b buses t.counted
  pub last : IsBit b t.last
  pub take : IsBit b t.flow.take
  pub put : IsBit b t.flow.put
  pub made : IsBit b t.flow.made
  pub moves : IsBit b t.moves
  pub next : IsWire b t.next
  pub next_wide : t.next.width ≡ 8

-- ---- lanes

-- what a register holds, where there is one
abbrev pub HeldAt : (ℕ → ℕ) → Option Wire → ℕ → Type 0
HeldAt v None n = Unit {0}
HeldAt v (Some w) n = v w.number ≡ n

-- the lanes of the beat on the other bus: those held with the narrow beat's at its place, or the wide beat's cut out
abbrev pub lanes_turned : Bool → ℕ → ℕ → ℕ → ℕ → ℕ
lanes_turned widens unit lane held x =
    if widens then bit_or held (x * 2 ^ (unit * lane)) else lanes_at 2 unit (unit * lane) x

-- what is held after a cycle, on the way to a wider bus: nothing where the wide beat is put, and else what is collected
-- so far
abbrev pub held_after : Bool → Bool → Bool → ℕ → ℕ → ℕ
held_after widens moves ends held lanes =
    if widens then (if moves then (if ends then 0 else lanes) else held) else held

-- The lanes of so many bits each, of a wire, on the other bus, and what is held of them.
pub record IsTurned (b : Built) (widens : Bool) (unit : ℕ) (t : Turn) (wire : Wire) (o : Turned) : Type 0 where
  pub starts : (v : ℕ → ℕ) → AtStart b v → HeldAt v o.held 0
  pub lanes : (v : ℕ → ℕ) (n : ℕ) → Solves b v → HeldAt v o.held n
      → v o.lanes.number ≡ lanes_turned widens unit (v t.counted.lane.number) n (v wire.number)
  pub nexts : (v u : ℕ → ℕ) (n : ℕ) → Solves b v → Ticks b v u → (v 0 == 1) ≡ false → HeldAt v o.held n
      → HeldAt u o.held (held_after widens (high v t.moves) (high v t.counted.ends) n (v o.lanes.number))

-- how wide the lanes of one bus are for so many bits each, and those of the other
abbrev pub lanes_in : Bool → ℕ → Buses → ℕ
lanes_in widens unit buses = if widens then unit else unit * 2 ^ (buses.wide - buses.narrow)

abbrev pub lanes_out : Bool → ℕ → Buses → ℕ
lanes_out widens unit buses = if widens then unit * 2 ^ (buses.wide - buses.narrow) else unit
