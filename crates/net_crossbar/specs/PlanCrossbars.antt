-- The crossbar between the edges of a plan.
use Rattle.std.specs.Prelude.{◌≡◌, ◌≤◌, ◌<◌, ℕ, List, map, Some, None, slice_index_or}
use Rattle.tl_edge.specs.declared.beat.ABeat.{ABeat}
use Rattle.tl_edge.specs.declared.beat.DBeat.{DBeat}
use Rattle.tl_edge.specs.declared.plan.Plan.{Plan}
use Rattle.tl_edge.specs.Plans.{edge_at, no_edge}
use Rattle.flow_core.specs.Leaves.{LeafState, crossbar_at_start}
use Rattle.net_queue.specs.Leaves.{DoneFits, LeafDone, LeafView}
use Rattle.net_queue.specs.Machines.{Machine}
use Rattle.net_xbar.specs.Crossings.{crossing}

-- the network's crossbar from edges with some numbers to others
abbrev pub plan_crossbar : Plan → List ℕ → List ℕ → Machine LeafState LeafView LeafDone
plan_crossbar plan ins outs =
    crossing plan.policy (crossbar_at_start (map (edge_at plan) ins) (map (edge_at plan) outs))

-- No head is of a larger size than a message may have, the id of each request is one of its edge's, and what is put
-- fits the wires of the edge onto which it is put: what holds in locally valid states.
pub record FitsPlanCrossbar (plan : Plan) (ins outs : List ℕ) (s : LeafState) (x : LeafView) : Type 0 where
  pub requests : (k : ℕ) (beat : ABeat) → slice_index_or x.heads_a k None ≡ Some beat → beat.size ≤ 8
  pub ids : (k : ℕ) (beat : ABeat) → slice_index_or x.heads_a k None ≡ Some beat
      → beat.source < (slice_index_or (map (edge_at plan) ins) k no_edge).ids
  pub responses : (k : ℕ) (beat : DBeat) → slice_index_or x.heads_d k None ≡ Some beat → beat.size ≤ 8
  pub puts : DoneFits (map (edge_at plan) ins) (map (edge_at plan) outs) ((plan_crossbar plan ins outs).does s x)
