use Rattle.std.proofs.Common.{◌∙◌, List, ℕ, length, sym, ap, subst}
use Rattle.net_cells.specs.Values.{AreInputs}
use Rattle.sim_engine.specs.Running.{RunsCycle}
use Rattle.sim_events.specs.Passing.{cycle_inputs}
use Rattle.sim_run.specs.Turning.{fitted}
use Rattle.sim_run.proofs.Fitting.{fitted_inputs}
use Rattle.sim_run.proofs.turning.turn.Goals as goal

pub cycle-requires-clause-inputs : goal.cycle-requires-clause-inputs
cycle-requires-clause-inputs c =
    subst (AreInputs c.args.engine.now.netlist) (ap (λ ws. fitted ws (cycle_inputs c.args.sources.now c.args.sinks.now)) (sym c.requires.widths) ∙ sym (c.as_slice.ensures.value ∙ c.fill_inputs.ensures.inputs))
    (fitted_inputs c.args.engine.now.netlist (cycle_inputs c.args.sources.now c.args.sinks.now) (sym (ap length c.requires.widths) ∙ c.fill_inputs.ensures.many))

pub returns-clause-cycle : goal.returns-clause-cycle
returns-clause-cycle c =
    subst (λ (is : List ℕ). RunsCycle c.args.engine.now is c.cycle.new.outputs c.cycle.new.self) (c.as_slice.ensures.value ∙ c.fill_inputs.ensures.inputs) c.cycle.ensures
