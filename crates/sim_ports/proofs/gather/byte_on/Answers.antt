use Rattle.sim_ports.proofs.Gathered.{byte_shifted}
use Rattle.sim_ports.proofs.gather.byte_on.Goals as goal

pub returns : goal.returns
returns c = byte_shifted c.args.lanes c.args.lane
