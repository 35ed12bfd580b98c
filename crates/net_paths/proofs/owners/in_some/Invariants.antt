use Rattle.std.proofs.Common.{◌≡◌, ◌||◌, drop}
use Rattle.dip_sets.specs.Sets.{Pattern, is_in}
use Rattle.net_build.specs.Bits.{Always}
use Rattle.net_build.specs.Built.{IsBit}
use Rattle.net_build.specs.Values.{Adds, high}
use Rattle.net_paths.proofs.Owned.{some_of}
use Rattle.net_paths.proofs.owners.in_some.Given as goal

abbrev pub invariant-loop-place : goal.invariant-loop-place
invariant-loop-place l = record {
  adds : Adds l.fn.builder l.builder;
  bit : IsBit l.builder l.owned;
  rest : Always l.builder (λ v. (high v l.owned || some_of (λ (s : Pattern). is_in s) (drop l.place l.sets) (v l.address.number)) ≡ some_of (λ (s : Pattern). is_in s) l.sets (v l.address.number));
}
