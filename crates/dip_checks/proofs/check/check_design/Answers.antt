use Rattle.tl_params.proofs.OneOwner.{one_owner_each}
use Rattle.dip_checks.proofs.check.check_design.Goals as goal

pub returns-clause-owners : goal.returns-clause-owners
returns-clause-owners g c = one_owner_each c.in_ok-solution.solution.up c.in_ok-solution.ensures.apart
