use Rattle.std.proofs.Common.{length, ◌-◌, ◌≤◌, take}
use Rattle.dip_io.specs.Outside.{Writes}
use Rattle.dip_io.proofs.put.put_all.Given as goal

abbrev pub invariant-loop-done : goal.invariant-loop-done
invariant-loop-done g l =
    record {
      within : l.done ≤ length l.bytes;
      so_far : Writes (take l.done l.bytes) (g.O.Out.seen l.fn.out) (g.O.Out.seen l.out);
      later : (g.O.Out.seen l.fn.out).faults ≤ (g.O.Out.seen l.out).faults;
    }

abbrev pub decreases-loop-done : goal.decreases-loop-done
decreases-loop-done g l = length l.bytes - l.done
