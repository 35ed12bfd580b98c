use Rattle.std.proofs.Common.{◌≡◌, ◌+◌, ◌++◌, length, map}
use Rattle.std.specs.Vec.Iter.{into_iter_items, into_iter_len}
use Rattle.sim_drive.specs.Opening.{addresses_of}
use Rattle.sim_drive.specs.Preparing.{all_addresses, rising}
use Rattle.sim_drive.proofs.preparing.prepared_for.Given as goal

abbrev pub invariant-loop-sink : goal.invariant-loop-sink
invariant-loop-sink l =
    record {
      is : addresses_of l.prepared.items ++ map (λ list. rising list.items) (into_iter_items l.left) ≡ all_addresses l.fn.plan l.fn.requests;
      remaining : into_iter_len l.left + l._sink ≡ l.count;
      items : length (into_iter_items l.left) + l._sink ≡ l.count;
    }
