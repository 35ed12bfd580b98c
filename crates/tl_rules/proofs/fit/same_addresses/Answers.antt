use Rattle.tl_rules.proofs.Zips.{sets_test}
use Rattle.tl_rules.proofs.fit.same_addresses.Goals as goal

pub returns : goal.returns
returns c = sets_test _ _ _ c.same.ensures
