use Rattle.tl_params.proofs.Transferring.{transfers}
use Rattle.tl_params.proofs.laws.transfers_law.Goals as goal

pub returns : goal.returns
returns c = transfers
