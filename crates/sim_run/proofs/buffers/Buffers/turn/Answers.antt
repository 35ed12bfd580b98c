use Rattle.std.proofs.Common.{◌∙◌, List, ℕ, ap, sym, subst, length}
use Rattle.sim_engine.specs.Running.{RunsCycle}
use Rattle.sim_events.specs.Passing.{cycle_inputs}
use Rattle.sim_run.specs.Turning.{fitted, input_widths}
use Rattle.sim_run.proofs.Fitting.{whole_back}
use Rattle.sim_run.proofs.buffers.Buffers.turn.Goals as goal

pub returns-clause-cycle : goal.returns-clause-cycle
returns-clause-cycle g c =
    let back = whole_back c.turn.new.outputs c.args.self.now.outputs.items c.args.self.now.outputs.len
    (c.turn.ensures.outputs ∙ ap length c.as_mut_slice.ensures.value) (sym c.as_mut_slice.ensures.len ∙ ap length c.as_mut_slice.ensures.value) in
    subst (λ (out : List ℕ). RunsCycle c.args.engine.now (fitted (input_widths c.args.engine.now.netlist) (cycle_inputs c.fill_sources.new.offers.items c.fill_sinks.new.offers.items)) out c.turn.new.engine) (sym back)
    (subst (λ (is : List ℕ). RunsCycle c.args.engine.now is c.turn.new.outputs c.turn.new.engine)
    (ap (λ ws. fitted ws (cycle_inputs c.as_slice-2.result.now c.as_slice-3.result.now)) (c.as_slice.ensures.value ∙ c.requires.fits.widths)
    ∙ ap (λ os. fitted (input_widths c.args.engine.now.netlist) (cycle_inputs os c.as_slice-3.result.now)) c.as_slice-2.ensures.value
    ∙ ap (λ os. fitted (input_widths c.args.engine.now.netlist) (cycle_inputs c.fill_sources.new.offers.items os)) c.as_slice-3.ensures.value)
    c.turn.ensures.cycle)
