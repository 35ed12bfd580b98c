use Rattle.std.proofs.Common.{◌<◌, ◌≤◌, ℕ, length, get_or, take}
use Rattle.sim_ports.specs.Layout.{IsLaying}
use Rattle.sim_ports.specs.Memories.{first_held}
use Rattle.sim_ports.proofs.laid_out.from_rising.Given as goal

abbrev pub invariant-loop-address : goal.invariant-loop-address
invariant-loop-address l = record {
  laying : IsLaying (first_held l.role (take l.address-index l.addresses)) l.address-index l.runs l.run l.bytes;
  behind : (k : ℕ) → l.address-index ≤ k → k < length l.addresses → l.run.first ≤ get_or l.addresses k 0;
}
