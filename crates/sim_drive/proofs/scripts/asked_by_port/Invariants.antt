use Rattle.std.proofs.Common.{◌≡◌, ◌+◌, drop, length, take}
use Rattle.std.specs.Vec.Iter.{into_iter_items, into_iter_len}
use Rattle.sim_drive.specs.Opening.{AreAskedBy}
use Rattle.sim_drive.proofs.scripts.asked_by_port.Given as goal

abbrev pub invariant-loop-number : goal.invariant-loop-number
invariant-loop-number l =
    record {
      left : into_iter_items l.left ≡ drop l._number l.fn.requests;
      remaining : into_iter_len l.left + l._number ≡ length l.fn.requests;
      asked : AreAskedBy (take l._number l.fn.requests) l.fn.count l.lists.items;
    }
