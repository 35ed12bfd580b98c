use Rattle.std.proofs.Common.{refl}
use Rattle.flow_core.specs.Carried.{carries_a, carries_d}
use Rattle.sim_drive.proofs.laws.run_worked_law.Goals as goal

pub returns-clause-setup : goal.returns-clause-setup
returns-clause-setup c = record { whole = refl }

pub returns-clause-totals : goal.returns-clause-totals
unfolding carries_a carries_d
returns-clause-totals c =
    record { first = refl; both = refl; none = refl; one = refl; all = refl; no_data = refl; bytes = refl }
