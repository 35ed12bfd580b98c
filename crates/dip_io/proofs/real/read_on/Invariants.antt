use Rattle.std.proofs.Common.{◌≡◌, ◌+◌, length, drop}
use Rattle.std.specs.Io.{StartsWith}
use Rattle.std.specs.Io.KnownBytes.{Consumes}
use Rattle.dip_io.proofs.real.read_on.Given as goal

abbrev pub invariant-loop-left : goal.invariant-loop-left
invariant-loop-left g l =
    record {
      kept : StartsWith l.into.items l.fn.into.items;
      count : length l.into.items + l.left ≡ length l.fn.into.items + l.max;
      bytes : Consumes (g.S.Read.remaining l.fn.source) (g.S.Read.remaining l.source) (drop (length l.fn.into.items) l.into.items);
    }

abbrev pub decreases-loop-left : goal.decreases-loop-left
decreases-loop-left g l = l.left
