use Rattle.sim_ports.proofs.Roomy.{room_is}
use Rattle.sim_ports.proofs.room.room_at.Goals as goal

pub returns : goal.returns
returns c = room_is c.args.place _ _ _ c.op_with-op.ensures c.in_ok-blank_request.ensures c.in_ok-blank_response.ensures
