use Rattle.sim_run.proofs.Fitting.{wide_fits}
use Rattle.sim_run.proofs.turning.fits.Goals as goal

pub returns-then-width-ge64 : goal.returns-then-width-ge64
returns-then-width-ge64 c = wide_fits c.args.width c.args.value c.if-width-ge64.true c.ranges.value.fits
