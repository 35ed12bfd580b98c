-- A width adapter in wires between the queues of two edges: its two channels, and the addresses that are kept for ids.
use Rattle.std.specs.Prelude.{◌≡◌, ℕ, ◌+◌, ◌≤◌, ◌%◌, ◌^◌, ◌==◌, Bool, false, not, nat_le, List, map, Option, Some, None, slice_index_or, if◌then◌else◌}
use Rattle.tl_edge.specs.Beats.{most_lanes}
use Rattle.net_build.specs.declared.types.Wire.{Wire}
use Rattle.net_build.specs.Bits.{MeansAll, wire_values, zeros}
use Rattle.net_build.specs.Built.{Built, IsBit}
use Rattle.net_build.specs.Values.{AtStart, Solves, Ticks, high}
use Rattle.net_lanes.specs.declared.kept.Kept.{Kept}
use Rattle.net_lanes.specs.declared.places.Buses.{Buses}
use Rattle.net_queue.specs.declared.types.EdgeWires.{EdgeWires}
use Rattle.net_queue.specs.Leaves.{IsPutInto}
use Rattle.net_table.specs.Tables.{entries_written}
use Rattle.flow_core.specs.Turning.{Widths}
use Rattle.net_sides.specs.Puts.{CanTurnDown, CanTurnUp}
use Rattle.net_sides.specs.Sides.{AreRequestsTurned, AreResponsesTurned, field_at}
use Rattle.net_width.specs.declared.types.Cycle.{Cycle}
use Rattle.net_width.specs.declared.types.Widened.{Widened}

-- what an entry of four bits keeps: three bits of an address behind a bit that says so
abbrev pub kept_of : ℕ → Option ℕ
kept_of entry = if nat_le 8 entry then Some (entry % 8) else None

-- what a table keeps, by id
abbrev pub kept_in : (ℕ → ℕ) → List Wire → List (Option ℕ)
kept_in v entries = map kept_of (wire_values v entries)

-- queues of two edges between which an adapter for so many ids can stand: the ids fit the wires
pub record CanWiden (b : Built) (count : ℕ) (buses : Buses) (widens : Bool) (above below : EdgeWires) : Type 0 where
  pub down : CanTurnDown b buses widens above.a below.a
  pub up : CanTurnUp b buses (not widens) below.d above.d
  pub few_down : (d : Wire) → count ≤ 2 ^ (slice_index_or above.a.head 3 d).width
  pub few_up : (d : Wire) → count ≤ 2 ^ (slice_index_or below.d.head 2 d).width

-- the entry that keeps a request's address
abbrev pub entry_at : EdgeWires → (ℕ → ℕ) → ℕ
entry_at above v = 8 + field_at above.a 4 v % most_lanes

-- what a table keeps for the id of the response that a queue shows
pub record AreRecalled (b : Built) (below : EdgeWires) (entries : List Wire) (kept : Kept) : Type 0 where
  pub known : (v : ℕ → ℕ) → Solves b v
      → high v kept.known ≡ nat_le 8 (slice_index_or (wire_values v entries) (field_at below.d 2 v) 0)
  pub address : (v : ℕ → ℕ) → Solves b v
      → v kept.address.number ≡ slice_index_or (wire_values v entries) (field_at below.d 2 v) 0 % 8

-- Both channels in a cycle, by a table of entries, and the entries after it: a request that begins writes its own.
pub record IsWidgetCycle (b : Built) (widths : Widths) (entries : List Wire) (above below : EdgeWires)
    (c : Cycle) : Type 0 where
  pub requests : AreRequestsTurned b widths above.a below.a c.requests
  pub responses : AreResponsesTurned b widths c.kept below.d above.d c.responses
  pub recalled : AreRecalled b below entries c.kept
  pub nexts : MeansAll b c.nexts
      (λ v.
      entries_written (high v c.requests.begins) (field_at above.a 3 v) (entry_at above v) (wire_values v entries))

-- what is put goes into the queues, and what is taken is told by bits
pub record AreCycleWires (b : Built) (above below : EdgeWires) (c : Cycle) : Type 0 where
  pub down : IsPutInto b below.a c.requests.put
  pub up : IsPutInto b above.d c.responses.put
  pub take_down : IsBit b c.requests.take
  pub take_up : IsBit b c.responses.take

-- The wires are an adapter for so many ids.
pub record IsWidened (b : Built) (widths : Widths) (count : ℕ) (above below : EdgeWires) (w : Widened) : Type 0 where
  pub requests : AreRequestsTurned b widths above.a below.a w.requests
  pub responses : AreResponsesTurned b widths w.kept below.d above.d w.responses
  pub recalled : AreRecalled b below w.entries w.kept
  pub starts : (v : ℕ → ℕ) → AtStart b v → wire_values v w.entries ≡ zeros count
  pub nexts : (v u : ℕ → ℕ) → Solves b v → Ticks b v u → (v 0 == 1) ≡ false
      → wire_values u w.entries
      ≡ entries_written (high v w.requests.begins) (field_at above.a 3 v) (entry_at above v) (wire_values v w.entries)
  pub down : IsPutInto b below.a w.requests.put
  pub up : IsPutInto b above.d w.responses.put
  pub take_down : IsBit b w.requests.take
  pub take_up : IsBit b w.responses.take
