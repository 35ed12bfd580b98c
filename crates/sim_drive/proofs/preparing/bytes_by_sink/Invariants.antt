use Rattle.std.proofs.Common.{length, map, take}
use Rattle.sim_drive.proofs.Sharing.{AreShared}
use Rattle.sim_drive.proofs.preparing.bytes_by_sink.Given as goal

abbrev pub invariant-loop-asked : goal.invariant-loop-asked
invariant-loop-asked l =
    AreShared l.plan (take l.asked-index l.requests) (length l.plan.sinks) (map (λ list. list.items) l.lists.items)
