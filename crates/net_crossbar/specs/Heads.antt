-- The heads of a channel's queues, and rows of wires as they go on.
use Rattle.std.specs.Prelude.{◌≡◌, ◌≤◌, ◌<◌, ◌+◌, ◌-◌, ◌^◌, ℕ, List, [], true, length, slice_index_or, slice_set}
use Rattle.dip_sets.specs.declared.ids.IdRange.{IdRange}
use Rattle.dip_sets.specs.Ids.{has_id}
use Rattle.net_build.specs.declared.types.Wire.{Wire}
use Rattle.net_build.specs.Bits.{MeansAll, wire_values}
use Rattle.net_build.specs.Built.{Built}
use Rattle.net_build.specs.Columns.{no_wire}
use Rattle.net_build.specs.Registers.{AreWires}
use Rattle.net_build.specs.Values.{Solves}
use Rattle.net_paths.specs.declared.ids.IdBlock.{IdBlock}
use Rattle.net_paths.specs.Paths.{IsIdBlock}
use Rattle.net_queue.specs.declared.types.EdgeWires.{EdgeWires}
use Rattle.net_queue.specs.declared.types.Queue.{Queue}
use Rattle.net_queue.specs.Rows.{AreAlike, row_widths}
use Rattle.net_crossbar.specs.declared.channel.Channel.{Channel}
use Rattle.net_crossbar.specs.declared.channel.Channel.TheVariants.{A, D}
use Rattle.net_crossbar.specs.Places.{AllAt}

-- the queue of a channel of an edge
abbrev pub queue_at : Channel → EdgeWires → Queue
queue_at A edge = edge.a
queue_at D edge = edge.d

-- whether it has a head, whether it has room, and the head's fields
abbrev pub valid_at : Channel → EdgeWires → Wire
valid_at channel edge = (queue_at channel edge).valid

abbrev pub ready_at : Channel → EdgeWires → Wire
ready_at channel edge = (queue_at channel edge).ready

abbrev pub head_at : Channel → EdgeWires → List Wire
head_at channel edge = (queue_at channel edge).head

-- a row with another wire at the place of its id: where the id is below the number of a range's ids, it is moved to
-- them
pub record MovesRow (b : Built) (place : ℕ) (block : IdBlock) (from row : List Wire) : Type 0 where
  pub at : (range : IdRange) (v : ℕ → ℕ) → IsIdBlock range block → Solves b v
      → v (slice_index_or from place no_wire).number < 2 ^ block.bits
      → wire_values v row
      ≡ slice_set (wire_values v from) place (v (slice_index_or from place no_wire).number + range.start)

-- where the id is in a range, it is moved back
pub record MovesRowBack (b : Built) (place : ℕ) (block : IdBlock) (from row : List Wire) : Type 0 where
  pub at : (range : IdRange) (v : ℕ → ℕ) → IsIdBlock range block → Solves b v
      → has_id range (v (slice_index_or from place no_wire).number) ≡ true
      → wire_values v row
      ≡ slice_set (wire_values v from) place (v (slice_index_or from place no_wire).number - range.start)

-- a wire is one of those at a place of some rows, and the widest of them
pub record IsWidest (rows : List (List Wire)) (place : ℕ) (wire : Wire) : Type 0 where
  pub row : ℕ
  pub within : row < length rows
  pub is : wire ≡ slice_index_or (slice_index_or rows row []) place no_wire
  pub most : AllAt (λ k (other : List Wire). (slice_index_or other place no_wire).width ≤ wire.width) rows

-- rows of so many wires of the builder
pub record IsOfLength (b : Built) (count : ℕ) (row : List Wire) : Type 0 where
  pub long : length row ≡ count
  pub wires : AreWires b (row_widths row) row

-- a row with the widths of another, and the same values as a third
pub record IsFittedTo (b : Built) (like from row : List Wire) : Type 0 where
  pub alike : AreAlike b like row
  pub same : MeansAll b row (λ v. wire_values v from)
