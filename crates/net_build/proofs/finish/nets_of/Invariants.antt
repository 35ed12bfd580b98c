use Rattle.std.proofs.Common.{◌≡◌, ℕ, ◌<◌, length, take, get_or}
use Rattle.net_build.specs.Numbering.{wire_counts, net_of}
use Rattle.net_build.proofs.finish.nets_of.Given as goal

abbrev pub invariant-loop-wire : goal.invariant-loop-wire
invariant-loop-wire l = record {
  long : length l.nets.items ≡ l.wire-index;
  each : (w : ℕ) → w < l.wire-index → get_or l.nets.items w 0 ≡ net_of l.made w;
  before : l.before ≡ wire_counts (take l.wire-index l.made);
}
