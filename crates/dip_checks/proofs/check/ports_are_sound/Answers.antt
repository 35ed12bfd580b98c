use Rattle.std.proofs.Common.{List, subst}
use Rattle.std.specs.Prelude.{All}
use Rattle.tl_params.specs.declared.ports.UpPort.{UpPort}
use Rattle.tl_params.specs.Apart.{HasDisjointSets}
use Rattle.dip_checks.proofs.Disjointness.{on_ok}
use Rattle.dip_checks.proofs.check.ports_are_sound.Goals as goal

pub returns-clause-apart : goal.returns-clause-apart
returns-clause-apart g c =
    on_ok (All HasDisjointSets c.args.solution.now.up) c.network_fits.result
    (subst (λ (ups : List UpPort). All HasDisjointSets ups) c.as_slice-ups.ensures c.in_ok-edges_are_sound.ensures.apart)
