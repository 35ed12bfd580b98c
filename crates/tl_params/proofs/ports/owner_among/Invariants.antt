use Rattle.std.proofs.Common.{◌≡◌, drop}
use Rattle.tl_params.specs.Owners.{owner_from}
use Rattle.tl_params.proofs.Finding.{NoneBefore}
use Rattle.tl_params.proofs.ports.owner_among.Given as goal

abbrev pub invariant-loop-place : goal.invariant-loop-place
invariant-loop-place l =
    (owner_from l.place (drop l.place l.slaves) l.address ≡ owner_from 0 l.slaves l.address) × NoneBefore l.slaves l.place l.address
