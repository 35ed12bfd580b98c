use Rattle.sim_drive.specs.Preparing.{has_slave}
use Rattle.sim_drive.proofs.Found.{NoneOf}
use Rattle.sim_drive.proofs.preparing.sink_with_slave.Given as goal

abbrev pub invariant-loop-number : goal.invariant-loop-number
invariant-loop-number l = NoneOf (has_slave l.slave) l.sinks l.number
