use Rattle.std.proofs.Common.{◌∙◌, ap, arith}
use Rattle.sim_ports.specs.Sources.{Script, begun_at}
use Rattle.sim_events.specs.Setups.{at_source, script_at}
use Rattle.sim_drive.specs.Totals.{requests_begun}
use Rattle.sim_drive.proofs.Summing.{ends, few_begun_in_all, one_adds}
use Rattle.sim_drive.proofs.totals.requests_begun.Goals as goal

pub loop-driver-preserved : goal.loop-driver-preserved
loop-driver-preserved c = λ setup history sinks few t.
    one_adds (λ u h port at. begun_at (script_at u port at) (at_source port h)) setup history c.args.drivers.now sinks
    c.loop-driver.begun c.loop-driver.driver-index (requests_begun setup history) c.driver-item.result c.begun.result c.saturating_add-begun.result t c.loop-driver-test.true c.driver-item.is
    (λ script s at e. c.begun.ensures script (at_source c.loop-driver.driver-index history) s ∙ ap (λ (x : Script). begun_at x (at_source c.loop-driver.driver-index history)) e)
    (c.loop-driver.invariant setup history sinks few t) (few_begun_in_all setup history (omega (arith, c.requires, t.sources_long)) few) (λ l. omega (arith, l, c.saturating_add-begun.ensures))

pub returns : goal.returns
returns c = λ setup history sinks few t.
    ends _ setup.plan.sources c.loop-driver.begun c.loop-driver.driver-index (requests_begun setup history) (omega (arith, c.loop-driver-test.false, t.sources_long)) (c.loop-driver.invariant setup history sinks few t)
