use Rattle.std.proofs.Common.{◌≡◌, ◌*◌, ◌++◌, drop}
use Rattle.soc_stimulus.specs.Loads.{data_bytes}
use Rattle.soc_stimulus.proofs.loads.data_bytes.Given as goal

abbrev pub invariant-loop-place : goal.invariant-loop-place
invariant-loop-place l = l.bytes ++ data_bytes (drop (2 * l.place) l.text) ≡ data_bytes l.text
