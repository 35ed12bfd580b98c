-- One cycle of a leaf with one in edge and one out edge, by the acts that the network states of it.
use Rattle.std.specs.Prelude.{ℕ, Bool, false, not, ◌&&◌, cond, [], ◌∷◌, Option, Some, None, is_some, slice_index_or}
use Rattle.std.specs.Option.{option_and_then, option_map, option_map_or, option_or}
use Rattle.tl_edge.specs.declared.beat.ABeat.{ABeat}
use Rattle.tl_edge.specs.declared.beat.DBeat.{DBeat}
use Rattle.flow_core.specs.Acts.{Act}
use Rattle.flow_core.specs.Leaves.{LeafState, down, down_alone, up, up_alone}
use Rattle.net_queue.specs.Machines.{Machine}
use Rattle.net_queue.specs.Leaves.{IsGuarded, LeafDone, LeafView}

-- an act without a head takes none
abbrev pub untaken : {B S : Type 0} → Act B S → Act B S
untaken act = record { take = false; put = act.put; next = act.next }

-- what is put needs room
abbrev pub with_room : {B S : Type 0} → Bool → Act B S → Option (Act B S)
with_room room act = cond (is_some act.put && not room) None (Some act)

-- an act without a head where there is one, else by the head, where it finds room
abbrev pub act_by : {B S : Type 0} → Option (Act B S) → (B → Option (Act B S)) → Option B → Bool → Option (Act B S)
act_by alone act head room =
    option_and_then (with_room room) (option_or (option_map untaken alone) (option_and_then act head))

-- on channel A, with an id where the leaf gives one
abbrev pub act_a : LeafState → ℕ → LeafView → Option (Act ABeat LeafState)
act_a leaf id x =
    act_by
    (down_alone leaf id 0 0)
    (down leaf id 0 0)
    (slice_index_or x.heads_a 0 None)
    (slice_index_or x.room_a 0 false)

-- on channel D
abbrev pub act_d : LeafState → LeafView → Option (Act DBeat LeafState)
act_d leaf x =
    act_by (up_alone leaf 0 0) (up leaf 0 0) (slice_index_or x.heads_d 0 None) (slice_index_or x.room_d 0 false)

-- whether an act takes the head
abbrev pub taken_by : {B S : Type 0} → Option (Act B S) → Bool
taken_by act = option_map_or (λ (made : Act _ _). made.take) act false

-- what it puts
abbrev pub put_by : {B S : Type 0} → Option (Act B S) → Option B
put_by act = option_and_then (λ (made : Act _ _). made.put) act

-- the state after it
abbrev pub state_by : {B S : Type 0} → S → Option (Act B S) → S
state_by leaf act = option_map_or (λ (made : Act _ _). made.next) act leaf

-- The acts that can be made at the start of the cycle are made, that on channel A before that on channel D. On channel
-- A the leaf goes by an id that its state gives: a shrinker's new id, and 0 elsewhere.
abbrev pub adapter : LeafState → (LeafState → ℕ) → Machine LeafState LeafView LeafDone
adapter idle id = record {
  idle = idle;
  does = λ leaf x. record {
    take_a = taken_by (act_a leaf (id leaf) x) ∷ [];
    put_d = put_by (act_d leaf x) ∷ [];
    take_d = taken_by (act_d leaf x) ∷ [];
    put_a = put_by (act_a leaf (id leaf) x) ∷ [];
  };
  after = λ leaf x.
      let next = state_by leaf (act_a leaf (id leaf) x) in
      cond (is_some (act_d leaf x)) (state_by next (act_d next x)) next;
}

-- whatever its state is, an adapter puts only with room and takes only a head
abbrev pub AdaptersAreGuarded : Type 0
AdaptersAreGuarded = (idle : LeafState) (id : LeafState → ℕ) → IsGuarded (adapter idle id) (λ leaf x. Unit {0})
