-- Ports whose address sets are aligned to the transfers of their slaves.
use Rattle.std.specs.Prelude.{◌≤◌, All}
use Rattle.dip_sets.specs.Sets.{alignment}
use Rattle.tl_params.specs.declared.ports.Slave.{Slave}
use Rattle.tl_params.specs.declared.ports.UpPort.{UpPort}
use Rattle.tl_params.specs.Operations.{largest}

-- each set is aligned to the slave's largest transfer
abbrev pub IsAligned : Slave → Type 0
IsAligned slave = All (λ s. largest slave.supports ≤ alignment s) slave.addresses

-- each set of the port is aligned to its slave's largest transfer
abbrev pub HasAlignedSets : UpPort → Type 0
HasAlignedSets up = All IsAligned up.slaves
