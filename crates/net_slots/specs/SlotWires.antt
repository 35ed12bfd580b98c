-- The slots of a shrinker and its counters in wires.
use Rattle.std.specs.Prelude.{◌≡◌, ℕ, ◌-◌, ◌≤◌, ◌<◌, ◌^◌, ◌==◌, false, List, ◌∷◌, ◌++◌, length, slice_index_or, if◌then◌else◌}
use Rattle.tl_edge.specs.Beats.{data_beats}
use Rattle.net_build.specs.declared.types.Wire.{Wire}
use Rattle.net_build.specs.Bits.{wire_values}
use Rattle.net_build.specs.Built.{Built, IsBit, IsWire}
use Rattle.net_build.specs.Values.{AtStart, Solves, Ticks, high}
use Rattle.net_slots.specs.declared.types.Counter.{Counter}
use Rattle.net_slots.specs.declared.types.SlotMoves.{SlotMoves}
use Rattle.net_slots.specs.declared.types.SlotWires.{SlotWires}
use Rattle.net_slots.specs.declared.types.Slots.{Slots}
use Rattle.net_slots.specs.Slots.{SlotSide, SlotSight, idle_slots, left_then, slot_id, slot_passes, slots_after}
use Rattle.net_table.specs.Tables.{AreEntries}

-- where a size is at most 8, the wire tells how many beats follow the first beat of a message on a bus of so many bytes
pub record FollowBeats (b : Built) (bus : ℕ) (carries size w : Wire) : Type 0 where
  pub at : (v : ℕ → ℕ) → Solves b v → v size.number ≤ 8
      → v w.number ≡ (if high v carries then data_beats (v size.number) bus - 1 else 0)

-- A counter of the beats that are left of a message: it begins with 0, and goes on in a cycle without a reset.
pub record IsCounter (b : Built) (go rest : Wire) (c : Counter) : Type 0 where
  pub starts : (v : ℕ → ℕ) → AtStart b v → v c.left.number ≡ 0
  pub nexts : (v u : ℕ → ℕ) → Solves b v → Ticks b v u → (v 0 == 1) ≡ false
      → u c.left.number ≡ left_then (high v go) (v c.left.number) (v rest.number)
  pub ends : (v : ℕ → ℕ) → Solves b v
      → high v c.ends ≡ (left_then (high v go) (v c.left.number) (v rest.number) == 0)

-- ---- slots

-- what the registers hold
abbrev pub slot_side : (ℕ → ℕ) → Slots → SlotSide
slot_side v s = record {
  id = v s.id.number;
  asking = v s.asking.number;
  taken = wire_values v s.taken;
  olds = wire_values v s.olds;
}

-- what they go by where the wires have these values
abbrev pub slot_sight : (ℕ → ℕ) → SlotMoves → SlotSight
slot_sight v m = record {
  wants = high v m.wants;
  old = v m.old.number;
  rest = v m.rest.number;
  frees = high v m.frees;
  new = v m.new.number;
}

-- all registers
abbrev pub slot_list : Slots → List Wire
slot_list s = s.id ∷ s.asking ∷ s.taken ++ s.olds

-- a wire of this width
pub record IsSized (b : Built) (width : ℕ) (w : Wire) : Type 0 where
  pub wire : IsWire b w
  pub sized : w.width ≡ width

-- so many registers of one width, or what is put before them
pub record AreSlotEntries (b : Built) (count width : ℕ) (ws : List Wire) : Type 0 where
  pub entries : AreEntries b width ws
  pub long : length ws ≡ count

-- registers, or what is put before them, of so many slots with new and old ids of so many bits
pub record HaveSlotShape (b : Built) (count new_bits old_bits : ℕ) (s : Slots) : Type 0 where
  pub id : IsSized b new_bits s.id
  pub asking : IsSized b 8 s.asking
  pub taken : AreSlotEntries b count 1 s.taken
  pub olds : AreSlotEntries b count old_bits s.olds

-- wires that such slots go by: each number of a slot fits the wire of the response's new id
pub record AreMoveWires (b : Built) (count old_bits : ℕ) (m : SlotMoves) : Type 0 where
  pub wants : IsBit b m.wants
  pub old : IsSized b old_bits m.old
  pub rest : IsSized b 8 m.rest
  pub frees : IsBit b m.frees
  pub new : IsWire b m.new
  pub small : count ≤ 2 ^ m.new.width

-- wires that such slots tell
pub record AreSlotWires (b : Built) (new_bits old_bits : ℕ) (w : SlotWires) : Type 0 where
  pub passes : IsBit b w.passes
  pub id : IsSized b new_bits w.id
  pub old : IsSized b old_bits w.old

-- they tell whether the request passes, its new id, and the old id of the response
pub record TellSlots (b : Built) (s : Slots) (m : SlotMoves) (w : SlotWires) : Type 0 where
  pub passes : (v : ℕ → ℕ) → Solves b v → high v w.passes ≡ slot_passes (slot_side v s) (slot_sight v m)
  pub id : (v : ℕ → ℕ) → Solves b v → v w.id.number ≡ slot_id (slot_side v s)
  pub old : (v : ℕ → ℕ) → Solves b v
      → v w.old.number ≡ slice_index_or (wire_values v s.olds) (v m.new.number) 0

-- what is put before the registers is what the slots are after the cycle
pub record NextSlots (b : Built) (s : Slots) (m : SlotMoves) (next : Slots) : Type 0 where
  pub at : (v : ℕ → ℕ) → Solves b v → slot_side v next ≡ slots_after (slot_side v s) (slot_sight v m)

-- The registers are the slots: they begin free, and go on in a cycle without a reset.
pub record AreSlots (b : Built) (count : ℕ) (s : Slots) (m : SlotMoves) : Type 0 where
  pub taken_long : length s.taken ≡ count
  pub olds_long : length s.olds ≡ count
  pub starts : (v : ℕ → ℕ) → AtStart b v → slot_side v s ≡ idle_slots count
  pub nexts : (v u : ℕ → ℕ) → Solves b v → Ticks b v u → (v 0 == 1) ≡ false
      → slot_side u s ≡ slots_after (slot_side v s) (slot_sight v m)
