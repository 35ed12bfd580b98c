use Rattle.std.proofs.Common.{◌≡◌, ◌++◌, drop}
use Rattle.soc_stimulus.specs.Loads.{mask_flags}
use Rattle.soc_stimulus.proofs.loads.mask_flags.Given as goal

abbrev pub invariant-loop-digit : goal.invariant-loop-digit
invariant-loop-digit l = l.flags ++ mask_flags (drop l.digit-index l.text) ≡ mask_flags l.text
