-- What the rule states that narrows the reads that come up. It serves the cases alone.
use Rattle.std.specs.Prelude.{List, [], ◌∷◌, map, Ok, Err}
use Rattle.dip_sets.specs.SizeRanges.{size_range, meet}
use Rattle.tl_params.specs.declared.ops.Ops.{Ops}
use Rattle.tl_params.specs.declared.ports.Slave.{Slave}
use Rattle.tl_params.specs.declared.ports.DownPort.{DownPort}
use Rattle.tl_params.specs.declared.ports.UpPort.{UpPort}
use Rattle.dip_rule.specs.Stated.{StatedAnswer}

-- the first port, and a refusal with 9 where there is none
abbrev pub first_down : StatedAnswer DownPort
first_down args [] = Err 9
first_down args (port ∷ ports) = Ok port

-- the same operations with reads of at most 4 bytes
abbrev pub narrow_ops : Ops → Ops
narrow_ops ops = record ops { get = meet ops.get (size_range 1 4) }

-- the same slave with reads of at most 4 bytes
abbrev pub narrow_slave : Slave → Slave
narrow_slave slave = record slave { supports = narrow_ops slave.supports }

-- the same slaves with reads of at most 4 bytes
abbrev pub narrow_slaves : List Slave → List Slave
narrow_slaves slaves = map narrow_slave slaves

-- the first port so narrowed, and a refusal with 9 where there is none
abbrev pub narrow_up : StatedAnswer UpPort
narrow_up args [] = Err 9
narrow_up args (port ∷ ports) = Ok (record { slaves = narrow_slaves port.slaves; beat = port.beat })
