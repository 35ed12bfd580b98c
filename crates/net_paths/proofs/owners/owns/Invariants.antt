use Rattle.std.proofs.Common.{◌≡◌, ◌||◌, drop}
use Rattle.tl_params.specs.declared.ports.Slave.{Slave}
use Rattle.tl_params.specs.Owners.{holds}
use Rattle.net_build.specs.Bits.{Always}
use Rattle.net_build.specs.Built.{IsBit}
use Rattle.net_build.specs.Values.{Adds, high}
use Rattle.net_paths.proofs.Owned.{some_of}
use Rattle.net_paths.proofs.owners.owns.Given as goal

abbrev pub invariant-loop-place : goal.invariant-loop-place
invariant-loop-place l = record {
  adds : Adds l.fn.builder l.builder;
  bit : IsBit l.builder l.owned;
  rest : Always l.builder (λ v. (high v l.owned || some_of (λ (s : Slave). holds s) (drop l.place l.slaves) (v l.address.number)) ≡ some_of (λ (s : Slave). holds s) l.slaves (v l.address.number));
}
