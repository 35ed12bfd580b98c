use Rattle.sim_ports.proofs.Laid.{just}
use Rattle.sim_ports.proofs.cells.CellsDevice.prepare.Goals as goal

pub returns-clause-addresses : goal.returns-clause-addresses
returns-clause-addresses c = just c.args.role c.args.addresses.now _ c.in_ok-runs.ensures.is
