use Rattle.flow_core.proofs.WorkedMoves.{moves_example, cutting_example}
use Rattle.flow_core.proofs.laws.moves_law.Goals as goal

pub returns-clause-buffer : goal.returns-clause-buffer
returns-clause-buffer c = moves_example

pub returns-clause-fragmenter : goal.returns-clause-fragmenter
returns-clause-fragmenter c = cutting_example
