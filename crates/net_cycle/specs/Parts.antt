-- A leaf of the network beside its machine: what it sees and what its own moves do, without tags.
use Rattle.std.specs.Prelude.{ℕ, ◌≡◌, map, Option}
use Rattle.std.specs.Option.{option_map}
use Rattle.tl_edge.specs.declared.beat.Tag.{Tag}
use Rattle.flow_core.specs.Network.{State}
use Rattle.flow_core.specs.Leaves.{LeafState}
use Rattle.flow_core.specs.Queues.{queue, head_in, has_place}
use Rattle.flow_core.specs.Turns.{leaf_state}
use Rattle.flow_choice.specs.Choosing.{leaf_moves, state_after_moves}
use Rattle.net_queue.specs.Leaves.{LeafDone, LeafView, ins_at, outs_at}
use Rattle.net_queue.specs.Machines.{Machine}
use Rattle.net_cycle.specs.Flows.{flow_down, flow_up, first_put, any_take}

-- a beat without its tag, where there is one
abbrev pub plain : {B : Type 0} → Option (B × Tag) → Option B
plain waiting = option_map (λ (beat : _ × Tag). beat.0) waiting

-- what a leaf of the network sees at the start of a cycle
abbrev pub seen_by : State → ℕ → LeafView
seen_by state leaf = record {
  heads_a = map (λ edge. plain (head_in (queue state.a edge))) (ins_at state.plan leaf);
  room_d = map (λ edge. has_place (queue state.d edge)) (ins_at state.plan leaf);
  heads_d = map (λ edge. plain (head_in (queue state.d edge))) (outs_at state.plan leaf);
  room_a = map (λ edge. has_place (queue state.a edge)) (outs_at state.plan leaf);
}

-- what its own chosen moves do at its edges
abbrev pub done_by : State → ℕ → LeafDone
done_by state leaf = record {
  take_a = map (λ edge. any_take edge (map (flow_down state) (leaf_moves state leaf))) (ins_at state.plan leaf);
  put_d = map (λ edge. plain (first_put edge (map (flow_up state) (leaf_moves state leaf)))) (ins_at state.plan leaf);
  take_d = map (λ edge. any_take edge (map (flow_up state) (leaf_moves state leaf))) (outs_at state.plan leaf);
  put_a =
      map (λ edge. plain (first_put edge (map (flow_down state) (leaf_moves state leaf)))) (outs_at state.plan leaf);
}

-- in a state of the network a leaf does what a machine does on what it sees, and goes to the machine's next state
pub record IsMachineAt (state : State) (leaf : ℕ) (machine : Machine LeafState LeafView LeafDone) : Type 0 where
  pub does : done_by state leaf ≡ machine.does (leaf_state state leaf) (seen_by state leaf)
  pub after : leaf_state (state_after_moves state (leaf_moves state leaf)) leaf
      ≡ machine.after (leaf_state state leaf) (seen_by state leaf)
