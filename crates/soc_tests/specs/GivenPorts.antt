-- What the rule that the cases hand in states. It serves them alone.
use Rattle.std.specs.Prelude.{Option, Some, None, Ok, Err}
use Rattle.dip_rule.specs.Stated.{StatedAnswer}

-- this port, whatever comes, and a refusal with 9 where there is none
abbrev pub given_port : {P : Type 0} → Option P → StatedAnswer P
given_port None args ports = Err 9
given_port (Some port) args ports = Ok port
