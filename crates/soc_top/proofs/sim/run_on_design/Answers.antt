use Rattle.std.proofs.Common.{refl}
use Rattle.soc_top.specs.Simulating.{no_memory_to_check, passed}
use Rattle.soc_top.proofs.Making.{is_failure}
use Rattle.soc_top.proofs.SimParts.{run_unbuilt}
use Rattle.soc_top.proofs.sim.run_on_design.Goals as goal

pub returns-in-Ok-clause-runs : goal.returns-in-Ok-clause-runs
returns-in-Ok-clause-runs g c = passed c.in-Ok.ensures.ok.passes (c.load_stimulus.ensures.runs _ c.args.bytes.now c.in-Ok.ensures.ok)

pub returns-in-Err-Check-clause-runs : goal.returns-in-Err-Check-clause-runs
returns-in-Err-Check-clause-runs g c =
    run_unbuilt _ _ _ _ _ _ _ _ c.in-Err-Check.number c.in-Err-Check.subject _ _
    (is_failure _ _ _ _ c.in-Err-Check.field-0-is c.in-Err-Check.ensures.err) c.in-Err-Check.number-is c.in-Err-Check.subject-is (λ name. refl) c.finish.ensures

pub returns-clause-runs : goal.returns-clause-runs
returns-clause-runs g c = no_memory_to_check (record { status = refl; printed = refl; files = λ name. refl })
