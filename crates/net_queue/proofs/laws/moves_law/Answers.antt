use Rattle.net_queue.proofs.Made.{moves_made}
use Rattle.net_queue.proofs.laws.moves_law.Goals as goal

pub returns-clause-requests : goal.returns-clause-requests
returns-clause-requests c = moves_made

pub returns-clause-responses : goal.returns-clause-responses
returns-clause-responses c = moves_made
