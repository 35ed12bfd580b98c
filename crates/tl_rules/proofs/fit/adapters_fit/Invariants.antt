use Rattle.std.proofs.Common.{◌≡◌, drop}
use Rattle.tl_params.specs.Carried.{all_zip}
use Rattle.tl_rules.specs.Fits.{adapter_fits, ports_at}
use Rattle.tl_rules.proofs.fit.adapters_fit.Given as goal

abbrev pub invariant-loop-place : goal.invariant-loop-place
invariant-loop-place l =
    all_zip (λ above below. adapter_fits l.template l.args (ports_at l.down l.up above) (ports_at l.down l.up below)) (drop l.place l.ins) (drop l.place l.outs)
    ≡ all_zip (λ above below. adapter_fits l.template l.args (ports_at l.down l.up above) (ports_at l.down l.up below)) l.ins l.outs
