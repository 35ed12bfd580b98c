-- What it means that the wires of a leaf are the leaf.
use Rattle.std.specs.Prelude.{◌≡◌, ℕ, ◌<◌, Bool, true, false, cond, List, [], length, map, Option, Some, None, is_some, slice_get, slice_index_or}
use Rattle.std.specs.Option.{option_map, option_map_or}
use Rattle.tl_params.specs.declared.ops.Template.{Template}
use Rattle.tl_edge.specs.declared.beat.ABeat.{ABeat}
use Rattle.tl_edge.specs.declared.beat.DBeat.{DBeat}
use Rattle.tl_edge.specs.declared.plan.Leaf.{Leaf}
use Rattle.tl_edge.specs.declared.plan.Plan.{Plan}
use Rattle.tl_edge.specs.declared.plan.PlanEdge.{PlanEdge}
use Rattle.tl_edge.specs.Plans.{edge_at, no_edge}
use Rattle.tl_edge.specs.Wires.{a_fields, a_widths, d_fields, d_widths, FitWires}
use Rattle.net_build.specs.Bits.{AreBits, highs, wire_values}
use Rattle.net_build.specs.Built.{Built, IsBit}
use Rattle.net_build.specs.Values.{high}
use Rattle.net_queue.specs.declared.types.EdgeWires.{EdgeWires}
use Rattle.net_queue.specs.declared.types.LeafWires.{LeafWires}
use Rattle.net_queue.specs.declared.types.Put.{Put}
use Rattle.net_queue.specs.Machines.{Machine, IsMachine}
use Rattle.net_queue.specs.declared.types.Queue.{Queue}
use Rattle.net_queue.specs.Queues.{IsOpen, shown_at}
use Rattle.net_queue.specs.Rows.{AreAlike, row_widths}

-- ---- a cycle of a leaf, with beats A on channel A and D on channel D

-- what it sees: by in edge the head of the requests and whether there is room for a response, by out edge the head of
-- the responses and whether there is room for a request
pub record View (A D : Type 0) : Type 0 where
  pub heads_a : List (Option A)
  pub room_d : List Bool
  pub heads_d : List (Option D)
  pub room_a : List Bool

-- what it does: by in edge whether the head of the requests is taken and what is put to the responses, by out edge
-- whether the head of the responses is taken and what is put to the requests
pub record Done (A D : Type 0) : Type 0 where
  pub take_a : List Bool
  pub put_d : List (Option D)
  pub take_d : List Bool
  pub put_a : List (Option A)

-- what a leaf of the network sees and does
abbrev pub LeafView : Type 0
LeafView = View ABeat DBeat

abbrev pub LeafDone : Type 0
LeafDone = Done ABeat DBeat

-- In states that fit what is seen a put needs room, and a take a head.
pub record IsGuarded {S : Type 0} (m : Machine S LeafView LeafDone) (fits : S → LeafView → Type 0) : Type 0 where
  pub puts_a : (s : S) (x : LeafView) (k : ℕ) → fits s x → is_some (slice_index_or (m.does s x).put_a k None) ≡ true
      → slice_index_or x.room_a k false ≡ true
  pub takes_a : (s : S) (x : LeafView) (k : ℕ) → fits s x → slice_index_or (m.does s x).take_a k false ≡ true
      → is_some (slice_index_or x.heads_a k None) ≡ true
  pub puts_d : (s : S) (x : LeafView) (k : ℕ) → fits s x → is_some (slice_index_or (m.does s x).put_d k None) ≡ true
      → slice_index_or x.room_d k false ≡ true
  pub takes_d : (s : S) (x : LeafView) (k : ℕ) → fits s x → slice_index_or (m.does s x).take_d k false ≡ true
      → is_some (slice_index_or x.heads_d k None) ≡ true

-- each beat that is put fits the wires of the edge onto which it is put
pub record DoneFits (ins outs : List PlanEdge) (done : LeafDone) : Type 0 where
  pub requests : (k : ℕ) (beat : ABeat) → slice_index_or done.put_a k None ≡ Some beat
      → FitWires (a_fields beat) (a_widths (slice_index_or outs k no_edge).bundle)
  pub responses : (k : ℕ) (beat : DBeat) → slice_index_or done.put_d k None ≡ Some beat
      → FitWires (d_fields beat) (d_widths (slice_index_or ins k no_edge).bundle)

-- ---- in wires, which carry the fields of beats

-- the fields of the beats that are seen
abbrev pub view_fields : LeafView → View (List ℕ) (List ℕ)
view_fields x = record {
  heads_a = map (option_map a_fields) x.heads_a;
  room_d = x.room_d;
  heads_d = map (option_map d_fields) x.heads_d;
  room_a = x.room_a;
}

-- the fields of the beats that are put
abbrev pub done_fields : LeafDone → Done (List ℕ) (List ℕ)
done_fields done = record {
  take_a = done.take_a;
  put_d = map (option_map d_fields) done.put_d;
  take_d = done.take_d;
  put_a = map (option_map a_fields) done.put_a;
}

-- what the queues of its edges show
abbrev pub view_at : List EdgeWires → List EdgeWires → (ℕ → ℕ) → View (List ℕ) (List ℕ)
view_at ins outs v = record {
  heads_a = map (λ (edge : EdgeWires). (shown_at edge.a v).head) ins;
  room_d = map (λ (edge : EdgeWires). (shown_at edge.d v).room) ins;
  heads_d = map (λ (edge : EdgeWires). (shown_at edge.d v).head) outs;
  room_a = map (λ (edge : EdgeWires). (shown_at edge.a v).room) outs;
}

-- what is put
abbrev pub put_told : (ℕ → ℕ) → Put → Option (List ℕ)
put_told v put = cond (high v put.valid) (Some (wire_values v put.items)) None

-- what its wires tell
abbrev pub done_at : LeafWires → (ℕ → ℕ) → Done (List ℕ) (List ℕ)
done_at wires v = record {
  take_a = highs v wires.take_a;
  put_d = map (put_told v) wires.put_d;
  take_d = highs v wires.take_d;
  put_a = map (put_told v) wires.put_a;
}

-- ---- at a leaf of a plan

-- the edges from which its requests come
abbrev pub ins_at : Plan → ℕ → List ℕ
ins_at plan leaf = option_map_or (λ (at : Leaf). at.ins) (slice_get plan.leaves leaf) []

-- the edges to which they go
abbrev pub outs_at : Plan → ℕ → List ℕ
outs_at plan leaf = option_map_or (λ (at : Leaf). at.outs) (slice_get plan.leaves leaf) []

-- the plan has the leaf, of this template
pub record IsOfTemplate (plan : Plan) (leaf : ℕ) (template : Template) : Type 0 where
  pub at : Leaf
  pub is : slice_get plan.leaves leaf ≡ Some at
  pub kind : at.template ≡ template

-- the open queues of an edge, with the widths of its wires
pub record IsEdge (b : Built) (edge : PlanEdge) (wires : EdgeWires) : Type 0 where
  pub a : IsOpen b wires.a
  pub d : IsOpen b wires.d
  pub a_widths : row_widths wires.a.head ≡ a_widths edge.bundle
  pub d_widths : row_widths wires.d.head ≡ d_widths edge.bundle

-- the open queues of some edges of a plan, in order
pub record AreEdges (b : Built) (plan : Plan) (edges : List ℕ) (wires : List EdgeWires) : Type 0 where
  pub long : length wires ≡ length edges
  pub each : (k d : ℕ) (e : EdgeWires) → k < length wires
      → IsEdge b (edge_at plan (slice_index_or edges k d)) (slice_index_or wires k e)

-- a put into a queue has a bit, and a wire of its width for each field
pub record IsPutInto (b : Built) (queue : Queue) (put : Put) : Type 0 where
  pub valid : IsBit b put.valid
  pub items : AreAlike b queue.head put.items

-- the wires of a leaf can be taken from the queues of its edges and put into them
pub record AreWiresOf (b : Built) (ins outs : List EdgeWires) (wires : LeafWires) : Type 0 where
  pub take_a_long : length wires.take_a ≡ length ins
  pub put_d_long : length wires.put_d ≡ length ins
  pub take_d_long : length wires.take_d ≡ length outs
  pub put_a_long : length wires.put_a ≡ length outs
  pub take_a : AreBits b wires.take_a
  pub take_d : AreBits b wires.take_d
  pub put_d : (k : ℕ) (e : EdgeWires) (p : Put) → k < length ins
      → IsPutInto b (slice_index_or ins k e).d (slice_index_or wires.put_d k p)
  pub put_a : (k : ℕ) (e : EdgeWires) (p : Put) → k < length outs
      → IsPutInto b (slice_index_or outs k e).a (slice_index_or wires.put_a k p)

-- whatever the machine puts fits the wires of the edges of a leaf
abbrev pub DoneFitsAt : {S : Type 0} → Plan → ℕ → Machine S LeafView LeafDone → S → LeafView → Type 0
DoneFitsAt plan leaf m s x =
    DoneFits (map (edge_at plan) (ins_at plan leaf)) (map (edge_at plan) (outs_at plan leaf)) (m.does s x)

-- the wires between the queues of these edges are the leaf
abbrev pub IsLeaf : {S : Type 0} → Built → List EdgeWires → List EdgeWires → LeafWires → Machine S LeafView LeafDone
    → (S → LeafView → Type 0) → Type 0
IsLeaf b ins outs wires m fits = IsMachine b m fits view_fields done_fields (view_at ins outs) (done_at wires)
