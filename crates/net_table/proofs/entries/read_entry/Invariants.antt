use Rattle.std.proofs.Common.{◌≡◌, take, get_or}
use Rattle.net_build.specs.Bits.{wire_values}
use Rattle.net_build.specs.Built.{IsWire}
use Rattle.net_build.specs.Values.{Adds, Means}
use Rattle.net_table.proofs.entries.read_entry.Given as goal

abbrev pub invariant-loop-place : goal.invariant-loop-place
invariant-loop-place l = record {
  adds : Adds l.fn.builder l.builder;
  wire : IsWire l.builder l.out × (l.out.width ≡ l.width);
  value : Means l.builder l.out (λ v. get_or (take l.place (wire_values v l.entries)) (v l.index.number) 0);
}
