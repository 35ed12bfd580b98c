use Rattle.flow_core.proofs.Back.{narrowing_back_law}
use Rattle.flow_core.proofs.BackToWide.{widening_back_law}
use Rattle.flow_core.proofs.KeptAddresses.{kept_address_law}
use Rattle.flow_core.proofs.ToNarrow.{narrowing_law}
use Rattle.flow_core.proofs.ToWide.{widening_law}
use Rattle.flow_core.proofs.laws.turning_law.Goals as goal

pub returns-clause-narrowing : goal.returns-clause-narrowing
returns-clause-narrowing c = narrowing_law

pub returns-clause-widening : goal.returns-clause-widening
returns-clause-widening c = widening_law

pub returns-clause-narrowing_back : goal.returns-clause-narrowing_back
returns-clause-narrowing_back c = narrowing_back_law

pub returns-clause-widening_back : goal.returns-clause-widening_back
returns-clause-widening_back c = widening_back_law

pub returns-clause-kept : goal.returns-clause-kept
returns-clause-kept c = kept_address_law
