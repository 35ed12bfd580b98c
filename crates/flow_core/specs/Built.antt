-- Networks of buffers and crossbars: the plans of which they are built, and what a leaf's move does there.
use Rattle.std.specs.Prelude.{ℕ, ◌≡◌, ◌+◌, ◌-◌, ◌<◌, ◌≤◌, ◌==◌, cond, List, [], ◌∷◌, length, map, replicate, All, Option, Some, None, slice_get, slice_set, IsTrue}
use Rattle.std.specs.Option.{option_and_then, option_map, option_map_or}
use Rattle.dip_sets.specs.declared.ids.IdRange.{IdRange}
use Rattle.dip_sets.specs.Assignments.{assigned}
use Rattle.dip_sets.specs.Ids.{has_id}
use Rattle.tl_params.specs.declared.ops.Template.{Template}
use Rattle.tl_params.specs.declared.ops.Template.TheVariants.{Buffer, Xbar}
use Rattle.tl_params.specs.Arguments.{is_width}
use Rattle.tl_edge.specs.declared.beat.ABeat.{ABeat}
use Rattle.tl_edge.specs.declared.beat.DBeat.{DBeat}
use Rattle.tl_edge.specs.declared.beat.Tag.{Tag}
use Rattle.tl_edge.specs.declared.plan.Leaf.{Leaf}
use Rattle.tl_edge.specs.declared.plan.PlanEdge.{PlanEdge}
use Rattle.tl_edge.specs.declared.plan.Plan.{Plan}
use Rattle.tl_edge.specs.Beats.{request_beats, response_beats}
use Rattle.tl_edge.specs.Plans.{edge_at, ins_of, outs_of, bus_width}
use Rattle.tl_edge.specs.SoundPlans.{ids_of, moved_end}
use Rattle.flow_core.specs.declared.crossing.Fixed.{Fixed}
use Rattle.flow_core.specs.declared.crossing.Passing.{Passing}
use Rattle.flow_core.specs.Acts.{with_a_id, with_d_id}
use Rattle.flow_core.specs.Carried.{most_size}
use Rattle.flow_core.specs.Crossing.{Crossbar, Gate, Gates, goes_to, passed_at, with_out, with_in}
use Rattle.flow_core.specs.Leaves.{LeafState, open_gate, first_edge, only_way}
use Rattle.flow_core.specs.Leaves.LeafState.{BufferState, XbarState}
use Rattle.flow_core.specs.Queues.{queue, head_in, taken, put_last}
use Rattle.flow_core.specs.Tags.{Held, no_tag}
use Rattle.flow_core.specs.Network.{State, both}

-- ---- the plans

-- each id above a buffer is one of those below it
pub record KeepsIds (ins outs : List PlanEdge) : Type 0 where
  pub few : length ins ≤ 1024
  pub ids : All (λ (below : PlanEdge). All (λ (above : PlanEdge). above.ids ≤ below.ids) ins) outs

-- each id above a crossbar, moved to the range of its input, is one of those below it
pub record MovesEachId (ins outs : List PlanEdge) : Type 0 where
  pub few : length ins ≤ 1024
  pub width : IsTrue (is_width (bus_width (first_edge ins)))
  pub ids : All (λ (below : PlanEdge). moved_end (ids_of ins) (assigned (ids_of ins)) ≤ below.ids) outs

-- a leaf for which there is code: a buffer or a crossbar, with room for the ids that go through it
abbrev pub IsBuiltLeaf : Template → List PlanEdge → List PlanEdge → Type 0
IsBuiltLeaf Buffer ins outs = KeepsIds ins outs
IsBuiltLeaf Xbar ins outs = MovesEachId ins outs
IsBuiltLeaf _ ins outs = ⊥

-- each leaf is such a one, and no edge has more ids than there may be
pub record IsBuilt (plan : Plan) : Type 0 where
  pub few_ids : All (λ (edge : PlanEdge). edge.ids ≤ 1024) plan.edges
  pub leaves : All (λ (leaf : Leaf). IsBuiltLeaf leaf.template (ins_of plan leaf) (outs_of plan leaf)) plan.leaves

-- ---- the leaves

-- what of a leaf stays the same
abbrev pub fixed_of : Plan → Leaf → Fixed
fixed_of plan leaf = record {
  ranges = assigned (ids_of (ins_of plan leaf));
  width = bus_width (first_edge (ins_of plan leaf));
}

-- what a leaf goes by, if it is a crossbar
abbrev pub bar_of : Plan → Leaf → Crossbar
bar_of plan leaf = record {
  ranges = assigned (ids_of (ins_of plan leaf));
  slaves = map (λ (edge : PlanEdge). edge.slaves) (outs_of plan leaf);
  width = bus_width (first_edge (ins_of plan leaf));
}

-- the gates of a leaf at the start, all open
abbrev pub open_gates : Leaf → Gates
open_gates leaf =
    record { outs = replicate (length leaf.outs) open_gate; ins = replicate (length leaf.ins) open_gate }

-- the state of a leaf with gates: a crossbar has them, and a buffer has none
abbrev pub state_of : Template → Crossbar → Gates → LeafState
state_of Xbar bar gates = XbarState bar gates
state_of _ bar gates = BufferState

-- the same with no request in hand
abbrev pub held_of : Plan → Leaf → Gates → Held
held_of plan leaf gates = record { leaf = state_of leaf.template (bar_of plan leaf) gates; tag = no_tag }

-- leaves with their gates
abbrev pub held_with : Plan → List Leaf → List Gates → List Held
held_with plan [] gates = []
held_with plan (leaf ∷ leaves) [] = []
held_with plan (leaf ∷ leaves) (own ∷ gates) = held_of plan leaf own ∷ held_with plan leaves gates

-- a network by its queues and the gates of its leaves
abbrev pub network : Plan → List (List (ABeat × Tag)) → List (List (DBeat × Tag)) → List Gates → State
network plan a d gates = record { plan = plan; a = a; d = d; leaves = held_with plan plan.leaves gates }

-- the gates of a crossbar, by its template
abbrev pub own_gates : Template → Gates → Option Gates
own_gates Xbar gates = Some gates
own_gates _ gates = None

-- the gates of a leaf, if it is a crossbar
abbrev pub kept_gates : Plan → List Gates → ℕ → Option Gates
kept_gates plan gates leaf =
    both (slice_get plan.leaves leaf) (slice_get gates leaf) (λ (at : Leaf) own. own_gates at.template own)

-- ---- what passes a leaf

-- a beat of a request that passes a crossbar from an input in a range, and the gate of the output afterwards
abbrev pub gate_down : Crossbar → Gates → ℕ → ℕ → ABeat → IdRange → Option (ABeat × Option Gate)
gate_down bar gates input output beat range =
    option_map (λ gate. (with_a_id (beat.source + range.start) beat, Some gate))
    (passed_at gates.outs output input (length bar.ranges) (request_beats beat.op beat.size bar.width))

-- the same where the output owns the address
abbrev pub bar_down : Crossbar → Gates → ℕ → ℕ → ABeat → Option (ABeat × Option Gate)
bar_down bar gates input output beat =
    cond (goes_to bar output beat.address)
    (option_and_then (gate_down bar gates input output beat) (slice_get bar.ranges input))
    None

-- a beat of a response that passes it from an output to an input with a range, and the gate of the input afterwards
abbrev pub gate_up : Crossbar → Gates → ℕ → ℕ → DBeat → IdRange → Option (DBeat × Option Gate)
gate_up bar gates input output beat range =
    option_map (λ gate. (with_d_id (beat.source - range.start) beat, Some gate))
    (passed_at gates.ins input output (length bar.slaves) (response_beats beat.op beat.size bar.width))

-- the same where the range has the id
abbrev pub bar_up : Crossbar → Gates → ℕ → ℕ → DBeat → Option (DBeat × Option Gate)
bar_up bar gates input output beat =
    option_and_then
    (λ (range : IdRange). cond (has_id range beat.source) (gate_up bar gates input output beat range) None)
    (slice_get bar.ranges input)

-- what a leaf makes of a head on channel A, and the gate through which it goes, if there is one
abbrev pub leaf_down : Template → Crossbar → Gates → ℕ → ℕ → ℕ → ABeat → Option (ABeat × Option Gate)
leaf_down Xbar bar gates id input output beat = cond (id == 0) (bar_down bar gates input output beat) None
leaf_down _ bar gates id input output beat = only_way id input output (Some (beat, None))

-- the same on channel D
abbrev pub leaf_up : Template → Crossbar → Gates → ℕ → ℕ → DBeat → Option (DBeat × Option Gate)
leaf_up Xbar bar gates input output beat = bar_up bar gates input output beat
leaf_up _ bar gates input output beat = only_way 0 input output (Some (beat, None))

-- a head that goes from one edge to another, with its tag
abbrev pub head_passes : {B : Type 0} → (B → Option (B × Option Gate)) → ℕ → ℕ → B × Tag → Option (Passing (B × Tag))
head_passes passes from to head =
    option_map (λ passed. record { from = from; to = to; beat = (passed.0, head.1); gate = passed.1 }) (passes head.0)

-- from an edge to another, if each is there
abbrev pub edge_passes : {B : Type 0} → (B → Option (B × Option Gate)) → List (List (B × Tag)) → Option ℕ → Option ℕ
    → Option (Passing (B × Tag))
edge_passes passes queues from to =
    both from to (λ from to. option_and_then (head_passes passes from to) (head_in (queue queues from)))

-- what passes from an input to an output of a leaf on channel A, by their numbers and the new id
abbrev pub passing_down : Plan → List Gates → List (List (ABeat × Tag)) → ℕ → ℕ → ℕ → ℕ → Option (Passing (ABeat × Tag))
passing_down plan gates queues leaf input output id =
    both (slice_get plan.leaves leaf) (slice_get gates leaf)
    (λ at own. edge_passes (leaf_down at.template (bar_of plan at) own id input output) queues
    (slice_get at.ins input) (slice_get at.outs output))

-- what passes from an output to an input of a leaf on channel D
abbrev pub passing_up : Plan → List Gates → List (List (DBeat × Tag)) → ℕ → ℕ → ℕ → Option (Passing (DBeat × Tag))
passing_up plan gates queues leaf input output =
    both (slice_get plan.leaves leaf) (slice_get gates leaf)
    (λ at own. edge_passes (leaf_up at.template (bar_of plan at) own input output) queues
    (slice_get at.outs output) (slice_get at.ins input))

-- the gates of a leaf after its output has let something pass
abbrev pub after_out : Gates → ℕ → Option Gate → Gates
after_out gates output None = gates
after_out gates output (Some gate) = with_out gates output gate

-- after its input has
abbrev pub after_in : Gates → ℕ → Option Gate → Gates
after_in gates input None = gates
after_in gates input (Some gate) = with_in gates input gate

-- the gates of all leaves after an output of one has let something pass
abbrev pub passed_out : List Gates → ℕ → ℕ → Option Gate → List Gates
passed_out gates leaf output None = gates
passed_out gates leaf output (Some gate) =
    option_map_or (λ own. slice_set gates leaf (with_out own output gate)) (slice_get gates leaf) gates

-- after an input of one has
abbrev pub passed_in : List Gates → ℕ → ℕ → Option Gate → List Gates
passed_in gates leaf input None = gates
passed_in gates leaf input (Some gate) =
    option_map_or (λ own. slice_set gates leaf (with_in own input gate)) (slice_get gates leaf) gates

-- the queues after something has passed: the head is taken, and what it became put
abbrev pub passed_on : {B : Type 0} → List (List B) → Passing B → List (List B)
passed_on queues passing = put_last (Some (passing.to, passing.beat)) (taken (Some passing.from) queues)

-- ---- what is kept from move to move

-- the beats of every queue have something
pub record AreAll {B : Type 0} (P : ℕ → B → Type 0) (queues : List (List B)) : Type 0 where
  pub each : (edge : ℕ) → All (P edge) (queue queues edge)

-- a beat of a request has one of the ids of its edge, and a size that there is
abbrev pub IsSmallA : Plan → ℕ → ABeat × Tag → Type 0
IsSmallA plan edge waiting = (waiting.0.source < (edge_at plan edge).ids) × (waiting.0.size ≤ most_size)

-- a beat of a response has a size that there is
abbrev pub IsSmallD : ℕ → DBeat × Tag → Type 0
IsSmallD edge waiting = waiting.0.size ≤ most_size

-- what holds between moves, where the code has kept this of the leaves
pub record IsNetwork (plan : Plan) (kept : List Fixed) (a : List (List (ABeat × Tag))) (d : List (List (DBeat × Tag)))
    : Type 0 where
  pub built : IsBuilt plan
  pub fixed : kept ≡ map (fixed_of plan) plan.leaves
  pub small_a : AreAll (IsSmallA plan) a
  pub small_d : AreAll IsSmallD d
