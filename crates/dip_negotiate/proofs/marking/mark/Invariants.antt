use Rattle.std.proofs.Common.{◌≡◌, drop}
use Rattle.dip_negotiate.specs.Turns.{spread}
use Rattle.dip_negotiate.proofs.marking.mark.Given as goal

abbrev pub invariant-loop-number : goal.invariant-loop-number
invariant-loop-number l = spread l.marks (drop l.number-index l.numbers) ≡ spread l.fn.marks l.numbers
