use Rattle.net_crossbar.proofs.Fits.{IsWidestOf}
use Rattle.net_crossbar.proofs.fitted.widest_at.Given as goal

abbrev pub invariant-loop-at : goal.invariant-loop-at
invariant-loop-at l = IsWidestOf l.rows l.place l.at l.widest
