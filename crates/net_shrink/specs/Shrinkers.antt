-- The shrinker as the network states it.
use Rattle.std.specs.Prelude.{◌≡◌, ℕ, ◌≤◌, Bool, true, false, List, [], ◌∷◌, map, Option, Some, None, slice_get, slice_index_or}
use Rattle.std.specs.Option.{option_map_or, unwrap_or}
use Rattle.tl_params.specs.declared.ops.Ack.TheVariants as answer
use Rattle.tl_params.specs.declared.ops.Op.TheVariants.{PutFull}
use Rattle.tl_params.specs.Arguments.{shrink_argument}
use Rattle.tl_edge.specs.declared.beat.ABeat.{ABeat}
use Rattle.tl_edge.specs.declared.beat.DBeat.{DBeat}
use Rattle.tl_edge.specs.declared.plan.Leaf.{Leaf}
use Rattle.tl_edge.specs.declared.plan.Plan.{Plan}
use Rattle.tl_edge.specs.Plans.{bus_width, edge_at}
use Rattle.flow_core.specs.Acts.{with_a_id}
use Rattle.flow_core.specs.Leaves.{LeafState, first_edge}
use Rattle.flow_core.specs.Leaves.LeafState.{ShrinkerState}
use Rattle.flow_core.specs.Network.{network_at_start}
use Rattle.flow_core.specs.Shrinking.{Asking, Slots}
use Rattle.flow_core.specs.Turns.{leaf_state, next_id}
use Rattle.net_queue.specs.Adapters.{adapter}
use Rattle.net_queue.specs.Leaves.{DoneFitsAt, LeafDone, LeafView, ins_at}
use Rattle.net_queue.specs.Machines.{Machine}
use Rattle.net_buffer.specs.Buffers.{acts, edges_show}

-- a leaf that begins in a state and goes by the new id by which the network goes
abbrev pub shrinking : LeafState → Machine LeafState LeafView LeafDone
shrinking idle = adapter idle next_id

-- the leaf of a plan, from the state in which the network has it at the start
abbrev pub shrinker_machine : Plan → ℕ → Machine LeafState LeafView LeafDone
shrinker_machine plan leaf = shrinking (leaf_state (network_at_start plan) leaf)

-- how many new ids it has
abbrev pub new_id_count : Plan → ℕ → ℕ
new_id_count plan leaf =
    option_map_or (λ (at : Leaf). unwrap_or (shrink_argument at.args) 0) (slice_get plan.leaves leaf) 0

-- the bytes of the bus of its in edge
abbrev pub shrinker_bus : Plan → ℕ → ℕ
shrinker_bus plan leaf = bus_width (first_edge (map (edge_at plan) (ins_at plan leaf)))

-- what holds of a shrinker in a locally valid state, as far as its wires rest on it: what it puts fits the wires of its
-- edges, the id of a response isn't free, and no message has more than 256 bytes
pub record FitsShrinker (plan : Plan) (leaf : ℕ) (s : LeafState) (x : LeafView) : Type 0 where
  pub puts : DoneFitsAt plan leaf (shrinker_machine plan leaf) s x
  pub answered : (width : ℕ) (slots : Slots) (beat : DBeat) → s ≡ ShrinkerState width slots
      → slice_index_or x.heads_d 0 None ≡ Some beat
      → (old : ℕ) × (slice_get slots.olds beat.source ≡ Some (Some old))
  pub request : (beat : ABeat) → slice_index_or x.heads_a 0 None ≡ Some beat → beat.size ≤ 8
  pub response : (beat : DBeat) → slice_index_or x.heads_d 0 None ≡ Some beat → beat.size ≤ 8

-- ---- written out

-- a state on a bus of four bytes
abbrev pub slots_at : List (Option ℕ) → Option Asking → ℕ → LeafState
slots_at olds asking answering = ShrinkerState 4 (record { olds = olds; asking = asking; answering = answering })

-- a request to write eight bytes, in two beats
abbrev pub write_beat : ℕ → ℕ → ABeat
write_beat id bytes = record {
  op = PutFull;
  param = 0;
  size = 3;
  source = id;
  address = 0;
  mask = 15;
  payload = bytes;
}

-- a response with eight bytes, in two beats, and one without data
abbrev pub read_beat : ℕ → ℕ → DBeat
read_beat id bytes = record { op = answer.AckData; size = 3; source = id; denied = false; payload = bytes }

abbrev pub written_beat : ℕ → DBeat
written_beat id = record { op = answer.Ack; size = 3; source = id; denied = false; payload = 0 }

-- A request begins with the lowest free id, which then stands for its old one, and its later beats go with the same id;
-- where none is free it waits. A response goes back with the old id, and with its last beat the id is free, for the
-- next cycle: not for a request in the same one.
pub record ShrinkerLaw : Type 0 where
  pub begins : (x : ABeat) (below above : Bool)
      → (shrinking (slots_at (Some 5 ∷ None ∷ None ∷ []) None 0)).does
      (slots_at (Some 5 ∷ None ∷ None ∷ []) None 0) (edges_show (Some x) true None above)
      ≡ acts true (Some (with_a_id 1 x)) false None
  pub takes : (bytes : ℕ)
      → (shrinking (slots_at (None ∷ None ∷ []) None 0)).after
      (slots_at (None ∷ None ∷ []) None 0) (edges_show (Some (write_beat 7 bytes)) true None true)
      ≡ slots_at (Some 7 ∷ None ∷ []) (Some (record { id = 0; left = 1 })) 0
  pub goes_on : (bytes : ℕ)
      → (shrinking (slots_at (None ∷ None ∷ []) None 0)).after
      (slots_at (Some 7 ∷ None ∷ []) (Some (record { id = 0; left = 1 })) 0)
      (edges_show (Some (write_beat 7 bytes)) true None true)
      ≡ slots_at (Some 7 ∷ None ∷ []) None 0
  pub waits : (x : ABeat) (below above : Bool)
      → (shrinking (slots_at (Some 5 ∷ []) None 0)).does
      (slots_at (Some 5 ∷ []) None 0) (edges_show (Some x) below None above)
      ≡ acts false None false None
  pub returns : (bytes : ℕ)
      → (shrinking (slots_at (None ∷ Some 6 ∷ []) None 0)).does
      (slots_at (None ∷ Some 6 ∷ []) None 0) (edges_show None true (Some (read_beat 1 bytes)) true)
      ≡ acts false None true (Some (read_beat 6 bytes))
  pub keeps : (bytes : ℕ)
      → (shrinking (slots_at (None ∷ Some 6 ∷ []) None 0)).after
      (slots_at (None ∷ Some 6 ∷ []) None 0) (edges_show None true (Some (read_beat 1 bytes)) true)
      ≡ slots_at (None ∷ Some 6 ∷ []) None 1
  pub frees : (bytes : ℕ)
      → (shrinking (slots_at (None ∷ Some 6 ∷ []) None 0)).after
      (slots_at (None ∷ Some 6 ∷ []) None 1) (edges_show None true (Some (read_beat 1 bytes)) true)
      ≡ slots_at (None ∷ None ∷ []) None 0
  pub both : (bytes : ℕ)
      → (shrinking (slots_at (Some 5 ∷ []) None 0)).does
      (slots_at (Some 5 ∷ []) None 0) (edges_show (Some (write_beat 7 bytes)) true (Some (written_beat 0)) true)
      ≡ acts false None true (Some (written_beat 5))
  pub after_both : (bytes : ℕ)
      → (shrinking (slots_at (Some 5 ∷ []) None 0)).after
      (slots_at (Some 5 ∷ []) None 0) (edges_show (Some (write_beat 7 bytes)) true (Some (written_beat 0)) true)
      ≡ slots_at (None ∷ []) None 0
