-- The crossbar between the open queues of some edges.
use Rattle.std.specs.Prelude.{◌≡◌, ◌≤◌, ◌<◌, ◌-◌, ℕ, Bool, List, [], length, map, replicate, Some, None, slice_index_or}
use Rattle.dip_sets.specs.declared.ids.IdRange.{IdRange}
use Rattle.dip_sets.specs.Assignments.{BeginsAtMultiple}
use Rattle.std.specs.Int.{IsPowerOfTwo}
use Rattle.tl_edge.specs.declared.beat.ABeat.{ABeat}
use Rattle.tl_edge.specs.declared.beat.DBeat.{DBeat}
use Rattle.tl_edge.specs.declared.plan.Plan.{Plan}
use Rattle.tl_edge.specs.Plans.{edge_at}
use Rattle.tl_edge.specs.Wires.{FitWires, a_fields, d_fields}
use Rattle.flow_core.specs.Crossing.{Crossbar}
use Rattle.flow_core.specs.Leaves.{LeafState, open_gate}
use Rattle.flow_core.specs.Leaves.LeafState.{XbarState}
use Rattle.net_build.specs.Bits.{AreBits}
use Rattle.net_build.specs.Built.{Built}
use Rattle.net_build.specs.Columns.{no_wire}
use Rattle.net_choice.specs.Choice.{policy_if}
use Rattle.net_queue.specs.declared.types.EdgeWires.{EdgeWires}
use Rattle.net_queue.specs.Leaves.{LeafDone, LeafView}
use Rattle.net_queue.specs.Machines.{Machine}
use Rattle.net_queue.specs.Rows.{row_widths}
use Rattle.net_xbar.specs.Crossings.{crossing}
use Rattle.net_xbar.specs.Ways.{range_of}
use Rattle.net_crossbar.specs.declared.channel.Channel.{Channel}
use Rattle.net_crossbar.specs.declared.channel.Channel.TheVariants.{A, D}
use Rattle.net_crossbar.specs.Heads.{IsOfLength, head_at, ready_at, valid_at}
use Rattle.net_crossbar.specs.Places.{AllAt}

-- what it goes by: the ranges of its inputs, the slaves of the edges with these numbers, the bytes of its buses
abbrev pub bar_between : List IdRange → Plan → List ℕ → ℕ → Crossbar
bar_between ranges plan numbers bytes = record {
  ranges = ranges;
  slaves = map (λ number. (edge_at plan number).slaves) numbers;
  width = bytes;
}

-- as it begins: nobody holds a gate
abbrev pub open_crossbar : Crossbar → LeafState
open_crossbar bar = XbarState bar (record {
  outs = replicate (length bar.slaves) open_gate;
  ins = replicate (length bar.ranges) open_gate;
})

-- the machine that it is, under a policy
abbrev pub crossbar_machine : Bool → Crossbar → Machine LeafState LeafView LeafDone
crossbar_machine round bar = crossing (policy_if round) (open_crossbar bar)

-- a range of a power of two of ids, which begins at a multiple of their number
pub record IsBlockRange (range : IdRange) : Type 0 where
  pub order : range.start ≤ range.end
  pub power : IsPowerOfTwo (range.end - range.start)
  pub aligned : BeginsAtMultiple range

-- the rows of one channel of some edges: an opcode of three bits, and so many fields in all
pub record AreEdgeRows (b : Built) (channel : Channel) (fields : ℕ) (edges : List EdgeWires) : Type 0 where
  pub rows : AllAt (λ k row. IsOfLength b fields row) (map (head_at channel) edges)
  pub op : AllAt (λ k row. (slice_index_or row 0 no_wire).width ≡ 3) (map (head_at channel) edges)
  pub valids : AreBits b (map (valid_at channel) edges)
  pub readies : AreBits b (map (ready_at channel) edges)

-- No head is of a larger size than a message may have, the id of each request is below the number of its input's, and
-- what is put fits the wires where it is put.
pub record FitsCrossbar (round : Bool) (bar : Crossbar) (ins outs : List EdgeWires) (s : LeafState) (x : LeafView)
    : Type 0 where
  pub requests : (k : ℕ) (beat : ABeat) → slice_index_or x.heads_a k None ≡ Some beat → beat.size ≤ 8
  pub ids : (k : ℕ) (beat : ABeat) → slice_index_or x.heads_a k None ≡ Some beat
      → beat.source < (range_of bar k).end - (range_of bar k).start
  pub responses : (k : ℕ) (beat : DBeat) → slice_index_or x.heads_d k None ≡ Some beat → beat.size ≤ 8
  pub put_a : (t : ℕ) (beat : ABeat) → t < length outs
      → slice_index_or ((crossbar_machine round bar).does s x).put_a t None ≡ Some beat
      → FitWires (a_fields beat) (row_widths (slice_index_or (map (head_at A) outs) t []))
  pub put_d : (t : ℕ) (beat : DBeat) → t < length ins
      → slice_index_or ((crossbar_machine round bar).does s x).put_d t None ≡ Some beat
      → FitWires (d_fields beat) (row_widths (slice_index_or (map (head_at D) ins) t []))
