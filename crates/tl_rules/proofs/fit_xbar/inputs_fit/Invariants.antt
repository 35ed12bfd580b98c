use Rattle.std.proofs.Common.{◌≡◌, drop, map}
use Rattle.tl_rules.specs.Fits.{inputs_fit, port_up}
use Rattle.tl_rules.proofs.fit_xbar.inputs_fit.Given as goal

abbrev pub invariant-loop-input : goal.invariant-loop-input
invariant-loop-input l =
    inputs_fit (map (port_up l.up) (drop l.input-index l.ins)) (map (port_up l.up) l.outs) ≡ inputs_fit (map (port_up l.up) l.ins) (map (port_up l.up) l.outs)
