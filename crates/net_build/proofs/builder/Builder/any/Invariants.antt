use Rattle.std.proofs.Common.{take}
use Rattle.std.specs.List.{list_any}
use Rattle.net_build.specs.Built.{IsBit}
use Rattle.net_build.specs.Values.{Adds, Tells, high}
use Rattle.net_build.proofs.builder.Builder.any.Given as goal

abbrev pub invariant-loop-wire : goal.invariant-loop-wire
invariant-loop-wire l = record {
  adds : Adds l.fn.self l.self;
  bit : IsBit l.self l.all;
  tells : Tells l.self l.all (λ v. list_any (high v) (take l.wire-index l.wires));
}
