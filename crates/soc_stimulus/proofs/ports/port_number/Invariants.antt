use Rattle.std.proofs.Common.{◌≡◌, drop}
use Rattle.soc_stimulus.specs.Ports.{port_from}
use Rattle.soc_stimulus.proofs.ports.port_number.Given as goal

abbrev pub invariant-loop-number : goal.invariant-loop-number
invariant-loop-number l = port_from l.number (drop l.number l.ports) l.node l.port ≡ port_from 0 l.ports l.node l.port
