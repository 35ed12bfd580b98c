use Rattle.std.proofs.Common.{◌≡◌, ◌-◌, drop, length}
use Rattle.net_build.specs.Built.{IsWire}
use Rattle.net_build.specs.Folds.{chosen, first_width}
use Rattle.net_build.specs.Values.{Adds, Means}
use Rattle.net_build.proofs.builder.Builder.choose.Given as goal

abbrev pub invariant-loop-done : goal.invariant-loop-done
invariant-loop-done l = record {
  adds : Adds l.fn.self l.self;
  wire : IsWire l.self l.wire;
  width : l.wire.width ≡ first_width l.values;
  value : Means l.self l.wire (λ v. chosen v (drop (length l.picks - l.done) l.picks) (drop (length l.picks - l.done) l.values));
}
