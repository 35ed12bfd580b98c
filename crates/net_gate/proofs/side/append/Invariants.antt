use Rattle.std.proofs.Common.{◌≡◌, ◌++◌, take}
use Rattle.net_gate.proofs.side.append.Given as goal

abbrev pub invariant-loop-wire : goal.invariant-loop-wire
invariant-loop-wire l = record {
  sofar : l.onto ≡ l.fn.onto ++ take l.wire-index l.more;
}
