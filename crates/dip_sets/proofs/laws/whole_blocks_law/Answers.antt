use Rattle.dip_sets.proofs.Whole.{whole_blocks}
use Rattle.dip_sets.proofs.laws.whole_blocks_law.Goals as goal

pub returns : goal.returns
returns c = whole_blocks
