-- The buffer as the network states it.
use Rattle.std.specs.Prelude.{◌≡◌, Bool, true, false, [], ◌∷◌, Option, Some, None}
use Rattle.tl_edge.specs.declared.beat.ABeat.{ABeat}
use Rattle.tl_edge.specs.declared.beat.DBeat.{DBeat}
use Rattle.flow_core.specs.Leaves.{LeafState}
use Rattle.flow_core.specs.Leaves.LeafState.{BufferState}
use Rattle.net_queue.specs.Adapters.{adapter}
use Rattle.net_queue.specs.Leaves.{LeafDone, LeafView}
use Rattle.net_queue.specs.Machines.{Machine}

-- it keeps nothing, and gives no id
abbrev pub buffer_machine : Machine LeafState LeafView LeafDone
buffer_machine = adapter BufferState (λ leaf. 0)

-- the heads and the room at its two edges
abbrev pub edges_show : Option ABeat → Bool → Option DBeat → Bool → LeafView
edges_show request below response above = record {
  heads_a = request ∷ [];
  room_d = above ∷ [];
  heads_d = response ∷ [];
  room_a = below ∷ [];
}

-- what it takes and puts on both channels
abbrev pub acts : Bool → Option ABeat → Bool → Option DBeat → LeafDone
acts take_a put_a take_d put_d = record {
  take_a = take_a ∷ [];
  put_d = put_d ∷ [];
  take_d = take_d ∷ [];
  put_a = put_a ∷ [];
}

-- A head goes on where there is room, each channel by itself; it waits where there is none, and then nothing is put.
pub record BufferLaw : Type 0 where
  pub both : (x : ABeat) (y : DBeat)
      → buffer_machine.does BufferState (edges_show (Some x) true (Some y) true) ≡ acts true (Some x) true (Some y)
  pub down : (x : ABeat) (y : DBeat)
      → buffer_machine.does BufferState (edges_show (Some x) true (Some y) false) ≡ acts true (Some x) false None
  pub up : (x : ABeat) (y : DBeat)
      → buffer_machine.does BufferState (edges_show (Some x) false (Some y) true) ≡ acts false None true (Some y)
  pub empty : (below above : Bool)
      → buffer_machine.does BufferState (edges_show None below None above) ≡ acts false None false None
  pub stays : (x : LeafView) → buffer_machine.after BufferState x ≡ BufferState
