use Rattle.std.proofs.Common.{◌≡◌, drop, map}
use Rattle.std.specs.List.{list_all}
use Rattle.tl_rules.specs.Fits.{same_ids, port_down}
use Rattle.tl_rules.proofs.fit_xbar.all_have_ids.Given as goal

abbrev pub invariant-loop-output : goal.invariant-loop-output
invariant-loop-output l =
    list_all (λ output. same_ids l.masters output.masters) (map (port_down l.down) (drop l.output-index l.outs))
    ≡ list_all (λ output. same_ids l.masters output.masters) (map (port_down l.down) l.outs)
