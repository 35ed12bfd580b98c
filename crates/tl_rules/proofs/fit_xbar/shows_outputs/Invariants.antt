use Rattle.std.proofs.Common.{◌≡◌, drop, map, None}
use Rattle.std.specs.List.{flat_map}
use Rattle.tl_params.specs.Carried.{slaves_fit}
use Rattle.tl_rules.specs.Fits.{port_up}
use Rattle.tl_rules.proofs.fit_xbar.shows_outputs.Given as goal

abbrev pub invariant-loop-output : goal.invariant-loop-output
invariant-loop-output l =
    slaves_fit None l.rest (flat_map (λ output. output.slaves) (map (port_up l.up) (drop l.output-index l.outs)))
    ≡ slaves_fit None l.slaves (flat_map (λ output. output.slaves) (map (port_up l.up) l.outs))
