use Rattle.tl_params.specs.Apart.{HasDisjointSets}
use Rattle.std.specs.Prelude.{All}
use Rattle.dip_checks.proofs.Disjointness.{edges_apart, on_ok}
use Rattle.dip_checks.proofs.edges.edges_are_sound.Goals as goal

pub returns-clause-apart : goal.returns-clause-apart
returns-clause-apart c = on_ok (All HasDisjointSets c.args.ups.now) c.sets_are_aligned.result (edges_apart c.args.ups.now c.in_ok-sets_are_apart.ensures.passes)
