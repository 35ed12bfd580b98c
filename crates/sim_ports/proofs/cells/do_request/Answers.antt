use Rattle.sim_ports.proofs.Limits.{few_bytes}
use Rattle.sim_ports.proofs.cells.do_request.Goals as goal

pub exchange-requires-clause-few : goal.exchange-requires-clause-few
exchange-requires-clause-few c = few_bytes c.args.request.now _ c.in-Arithmetic.is c.requires.request.small c.requires.room
