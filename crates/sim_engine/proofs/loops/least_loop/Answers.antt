use Rattle.std.proofs.Common.{arith, sym, ◌∙◌, below_more}
use Rattle.std.proofs.lemmas.Bool.{false≢true}
use Rattle.sim_engine.proofs.Least.{least_here, none_at_all}
use Rattle.sim_engine.proofs.loops.least_loop.Goals as goal

pub returns-then-branch : goal.returns-then-branch
returns-then-branch c =
    least_here c.args.netlist.now c.loop-place.place c.first_cell-first.result c.first_cell-first.ensures c.loop-place.invariant (c.in_ok-is_on_loop.ensures.0 c.if-branch.true)

pub loop-place-preserved : goal.loop-place-preserved
loop-place-preserved c = below_more _ _ c.loop-place.invariant (λ d. false≢true (sym c.if-branch.false ∙ c.in_ok-is_on_loop.ensures.1 d))

pub returns : goal.returns
returns c = none_at_all c.args.netlist.now (λ k b. c.loop-place.invariant k (omega arith))
