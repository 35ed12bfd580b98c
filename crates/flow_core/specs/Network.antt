-- The network of beats: a queue for each edge and channel, leaves between them, and the moves that change them.
use Rattle.std.specs.Prelude.{ℕ, ◌≡◌, Bool, false, ◌&&◌, cond, List, [], ◌∷◌, length, map, replicate, Option, Some, None, is_some, slice_get, slice_set, IsTrue}
use Rattle.std.specs.Option.{option_and_then, option_map, option_map_or, option_or}
use Rattle.tl_edge.specs.declared.beat.ABeat.{ABeat}
use Rattle.tl_edge.specs.declared.beat.DBeat.{DBeat}
use Rattle.tl_edge.specs.declared.beat.Tag.{Tag}
use Rattle.tl_edge.specs.declared.plan.Leaf.{Leaf}
use Rattle.tl_edge.specs.declared.plan.PlanPort.{PlanPort}
use Rattle.tl_edge.specs.declared.plan.Plan.{Plan}
use Rattle.flow_core.specs.declared.moves.Move.{Move}
use Rattle.flow_core.specs.declared.moves.Move.TheVariants.{Enter, Leave, Reply, Return, AbsorbA, AbsorbD, ForwardA, ForwardD}
use Rattle.flow_core.specs.declared.queue.Flow.{Flow}
use Rattle.tl_edge.specs.Plans.{edge_at}
use Rattle.flow_core.specs.Acts.{Act}
use Rattle.flow_core.specs.Carried.{carries_a, carries_d}
use Rattle.flow_core.specs.Leaves.{leaf_at_start}
use Rattle.flow_core.specs.Tags.{Held, no_tag, held_down, held_down_alone, held_up, held_up_alone}
use Rattle.flow_core.specs.Queues.{queue, head_in, still, takes, puts, may_flow, flowed}

-- the state: of each edge the beats put and not yet taken on both channels, each with its tag, and of each leaf its own
pub record State : Type 0 where
  pub plan : Plan
  pub a : List (List (ABeat × Tag))
  pub d : List (List (DBeat × Tag))
  pub leaves : List Held

-- a leaf at the start
abbrev pub held_at_start : Plan → Leaf → Held
held_at_start plan leaf = record { leaf = leaf_at_start plan leaf; tag = no_tag }

-- all queues start empty, and all leaves idle
abbrev pub network_at_start : Plan → State
network_at_start plan = record {
  plan = plan;
  a = replicate (length plan.edges) [];
  d = replicate (length plan.edges) [];
  leaves = map (held_at_start plan) plan.leaves;
}

-- ---- a leaf's part in a move

-- what it does to the queues of a channel, and its state afterwards
pub record Part (B : Type 0) : Type 0 where
  pub flow : Flow B
  pub next : Held

-- an act by the head of an edge, towards another
abbrev pub by_head : {B : Type 0} → ℕ → ℕ → Act B Held → Part B
by_head from to act = record {
  flow = record { from = Some from; take = act.take; put = option_map (λ beat. (to, beat)) act.put };
  next = act.next;
}

-- an act without a head, towards an edge
abbrev pub by_itself : {B : Type 0} → ℕ → Act B Held → Part B
by_itself to act = record {
  flow = record { from = None; take = false; put = option_map (λ beat. (to, beat)) act.put };
  next = act.next;
}

-- what a leaf does between two edges: without a head where it can, else by the head
abbrev pub part_between : {B : Type 0} → List (List B) → ℕ → ℕ → Option (Act B Held) → (B → Option (Act B Held))
    → Option (Part B)
part_between queues from to alone act =
    option_or (option_map (by_itself to) alone)
    (option_map (by_head from to) (option_and_then act (head_in (queue queues from))))

-- a leaf's part on channel A, between two edges
abbrev pub part_down : List (List (ABeat × Tag)) → Held → ℕ → ℕ → ℕ → ℕ → ℕ → Option (Part (ABeat × Tag))
part_down queues held input output id from to =
    part_between queues from to (held_down_alone held id input output) (held_down held id input output)

-- a leaf's part on channel D, between two edges
abbrev pub part_up : List (List (DBeat × Tag)) → Held → ℕ → ℕ → ℕ → ℕ → Option (Part (DBeat × Tag))
part_up queues held input output from to =
    part_between queues from to (held_up_alone held input output) (held_up held input output)

-- where two things are there, what is made of both
abbrev pub both : {A B C : Type 0} → Option A → Option B → (A → B → Option C) → Option C
both one other f = option_and_then (λ x. option_and_then (f x) other) one

-- the edge of an input, by the numbers of the leaf and the input
abbrev pub in_edge : Plan → ℕ → ℕ → Option ℕ
in_edge plan leaf input = option_and_then (λ (at : Leaf). slice_get at.ins input) (slice_get plan.leaves leaf)

-- the edge of an output
abbrev pub out_edge : Plan → ℕ → ℕ → Option ℕ
out_edge plan leaf output = option_and_then (λ (at : Leaf). slice_get at.outs output) (slice_get plan.leaves leaf)

-- a leaf's part on channel A, by the numbers of the leaf, the input and the output
abbrev pub part_a : State → ℕ → ℕ → ℕ → ℕ → Option (Part (ABeat × Tag))
part_a state leaf input output id =
    option_and_then
    (λ held. both (in_edge state.plan leaf input) (out_edge state.plan leaf output)
    (part_down state.a held input output id))
    (slice_get state.leaves leaf)

-- a leaf's part on channel D
abbrev pub part_d : State → ℕ → ℕ → ℕ → Option (Part (DBeat × Tag))
part_d state leaf input output =
    option_and_then
    (λ held. both (out_edge state.plan leaf output) (in_edge state.plan leaf input) (part_up state.d held input output))
    (slice_get state.leaves leaf)

-- a part that puts a beat is a forward
abbrev pub forwarding : {B : Type 0} → Part B → Option (Part B)
forwarding part = cond (is_some part.flow.put) (Some part) None

-- a part that puts none is an absorb
abbrev pub absorbing : {B : Type 0} → Part B → Option (Part B)
absorbing part = cond (is_some part.flow.put) None (Some part)

-- ---- moves

-- what a move does to both channels and to a leaf
pub record Job : Type 0 where
  pub a : Flow (ABeat × Tag)
  pub d : Flow (DBeat × Tag)
  pub leaf : Option (ℕ × Held)

-- at a port, on channel A
abbrev pub port_job_a : Flow (ABeat × Tag) → Job
port_job_a flow = record { a = flow; d = still; leaf = None }

-- at a port, on channel D
abbrev pub port_job_d : Flow (DBeat × Tag) → Job
port_job_d flow = record { a = still; d = flow; leaf = None }

-- of a leaf, on channel A
abbrev pub leaf_job_a : ℕ → Part (ABeat × Tag) → Job
leaf_job_a leaf part = record { a = part.flow; d = still; leaf = Some (leaf, part.next) }

-- of a leaf, on channel D
abbrev pub leaf_job_d : ℕ → Part (DBeat × Tag) → Job
leaf_job_d leaf part = record { a = still; d = part.flow; leaf = Some (leaf, part.next) }

-- the edge of a port, by its number
abbrev pub edge_of_port : List PlanPort → ℕ → Option ℕ
edge_of_port ports port = option_map (λ (at : PlanPort). at.edge) (slice_get ports port)

-- the beat that waits to leave at a sink port
abbrev pub leaving : State → ℕ → Option (ABeat × Tag)
leaving state port = option_and_then (λ edge. head_in (queue state.a edge)) (edge_of_port state.plan.sinks port)

-- the beat that waits to return at a source port
abbrev pub returning : State → ℕ → Option (DBeat × Tag)
returning state port = option_and_then (λ edge. head_in (queue state.d edge)) (edge_of_port state.plan.sources port)

-- a beat is put onto an edge that carries it, on channel A
abbrev pub put_job_a : Plan → ABeat → Tag → ℕ → Option Job
put_job_a plan beat tag edge =
    cond (carries_a (edge_at plan edge) beat) (Some (port_job_a (puts edge (beat, tag)))) None

-- the same on channel D
abbrev pub put_job_d : Plan → DBeat → Tag → ℕ → Option Job
put_job_d plan beat tag edge =
    cond (carries_d (edge_at plan edge) beat) (Some (port_job_d (puts edge (beat, tag)))) None

-- what a move does where it names a port, or a leaf with an input and an output, and where the leaf acts; whether there
-- are head and room isn't asked here
abbrev pub job : State → Move → Option Job
job state (Enter port beat tag) =
    option_and_then (put_job_a state.plan beat tag) (edge_of_port state.plan.sources port)
job state (Leave port) = option_map (λ edge. port_job_a (takes edge)) (edge_of_port state.plan.sinks port)
job state (Reply port beat tag) =
    option_and_then (put_job_d state.plan beat tag) (edge_of_port state.plan.sinks port)
job state (Return port) = option_map (λ edge. port_job_d (takes edge)) (edge_of_port state.plan.sources port)
job state (AbsorbA leaf) = option_map (leaf_job_a leaf) (option_and_then absorbing (part_a state leaf 0 0 0))
job state (AbsorbD leaf) = option_map (leaf_job_d leaf) (option_and_then absorbing (part_d state leaf 0 0))
job state (ForwardA leaf input output id) =
    option_map (leaf_job_a leaf) (option_and_then forwarding (part_a state leaf input output id))
job state (ForwardD leaf input output) =
    option_map (leaf_job_d leaf) (option_and_then forwarding (part_d state leaf input output))

-- the heads and the room that it needs are there
abbrev pub may_do : State → Job → Bool
may_do state job = may_flow state.a job.a && may_flow state.d job.d

-- a move may be made
abbrev pub is_enabled : State → Move → Bool
is_enabled state move = option_map_or (may_do state) (job state move) false

-- the leaves after one has changed
abbrev pub with_leaf : Option (ℕ × Held) → List Held → List Held
with_leaf None leaves = leaves
with_leaf (Some changed) leaves = slice_set leaves changed.0 changed.1

-- the state after what a move does
abbrev pub done : State → Job → State
done state job = record {
  plan = state.plan;
  a = flowed job.a state.a;
  d = flowed job.d state.d;
  leaves = with_leaf job.leaf state.leaves;
}

-- the state after a move, and the same state where it does nothing
abbrev pub state_after : State → Move → State
state_after state move = option_map_or (done state) (job state move) state

-- from one state to another by a list of moves, each enabled when it is made
abbrev pub RunsTo : State → List Move → State → Type 0
RunsTo state [] end = end ≡ state
RunsTo state (move ∷ moves) end = IsTrue (is_enabled state move) × RunsTo (state_after state move) moves end
