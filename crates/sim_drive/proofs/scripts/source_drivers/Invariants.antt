use Rattle.std.proofs.Common.{◌≡◌, ◌+◌, length}
use Rattle.std.specs.Vec.Iter.{into_iter_items, into_iter_len}
use Rattle.sim_drive.specs.Opening.{asking}
use Rattle.sim_drive.proofs.Drivers.{AreLeft, HaveFirst}
use Rattle.sim_drive.proofs.scripts.source_drivers.Given as goal

abbrev pub invariant-loop-at : goal.invariant-loop-at
invariant-loop-at l =
    record {
      left : AreLeft l.fn.requests l.at-index (into_iter_items l.lists);
      remaining : into_iter_len l.lists + l.at-index ≡ length l.ports;
      opened : HaveFirst (asking l.plan l.fn.requests) l.at-index l.drivers.items;
    }
