use Rattle.std.proofs.Common.{◌≡◌, ◌++◌, drop, map}
use Rattle.sim_engine.specs.declared.steps.Step.{Step}
use Rattle.sim_engine.proofs.columns.kinds_of.Given as goal

abbrev pub invariant-loop-step : goal.invariant-loop-step
invariant-loop-step l = l.kinds.items ++ map (λ (s : Step). s.kind) (drop l.step-index l.steps) ≡ map (λ (s : Step). s.kind) l.steps
