use Rattle.soc_report.proofs.HexadecimalDigits.{IsWritten}
use Rattle.soc_report.proofs.hexadecimal.write_digits.Given as goal

abbrev pub invariant-loop-rest : goal.invariant-loop-rest
invariant-loop-rest l = IsWritten l.number l.at l.rest l.into

abbrev pub decreases-loop-rest : goal.decreases-loop-rest
decreases-loop-rest l = l.rest
