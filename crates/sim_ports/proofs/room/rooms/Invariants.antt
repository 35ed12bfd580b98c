use Rattle.std.proofs.Common.{◌≡◌, ℕ, Some, length, slice_get}
use Rattle.sim_ports.specs.declared.room.Room.{Room}
use Rattle.sim_ports.specs.Rooms.{SuitsAt}
use Rattle.sim_ports.proofs.room.rooms.Given as goal

abbrev pub invariant-loop-place : goal.invariant-loop-place
invariant-loop-place l = record {
  all : length l.rooms ≡ l.place;
  fits : (place : ℕ) (room : Room) → slice_get l.rooms place ≡ Some room → SuitsAt place room;
}
