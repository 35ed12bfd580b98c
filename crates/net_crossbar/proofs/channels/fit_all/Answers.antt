use Rattle.net_crossbar.proofs.Fits.{fitted_made}
use Rattle.net_crossbar.proofs.channels.fit_all.Goals as goal

pub returns-clause-fitted : goal.returns-clause-fitted
returns-clause-fitted c = fitted_made _ _ c.args.count c.args.rows.now c.in_ok-fitted.fitted c.in_ok-like.like _ _ c.in_ok-widths.widths c.requires.count c.as_slice.ensures c.as_slice-2.ensures c.in_ok-like.ensures.long c.requires.rows c.requires.op c.in_ok-like.ensures.widest c.in_ok-fitted.ensures.long c.in_ok-fitted.ensures.fitted c.in_ok-widths.ensures
