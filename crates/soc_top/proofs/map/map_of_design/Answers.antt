use Rattle.std.proofs.Common.{subst}
use Rattle.std.specs.Prelude.{All}
use Rattle.tl_params.specs.Apart.{HasDisjointSets}
use Rattle.tl_edge.specs.SoundPlans.{IsSound}
use Rattle.dip_graph.specs.declared.design.Design.{Design}
use Rattle.dip_plan.specs.declared.accepted.Accepted.{Accepted}
use Rattle.dip_plan.specs.Standing.{StandsTo}
use Rattle.soc_top.specs.Designs.{HasSoundPlan}
use Rattle.soc_top.proofs.map.map_of_design.Goals as goal

planned : (design : Design) (accepted : Accepted) → IsSound accepted.plan → StandsTo design accepted.edges accepted.solution accepted.plan → HasSoundPlan design accepted
unfolding HasSoundPlan
planned design accepted sound stands = (sound, stands)

pub returns-clause-apart : goal.returns-clause-apart
returns-clause-apart g c =
    subst (λ (a : Accepted). All HasDisjointSets a.solution.up) c.in_ok-accepted.ensures.value c.in_ok-accepted.ensures.apart

pub returns-clause-planned : goal.returns-clause-planned
returns-clause-planned g c =
    subst (λ (a : Accepted). HasSoundPlan c.args.design.now a) c.in_ok-accepted.ensures.value
    (planned c.args.design.now c.in_ok-accepted.accepted c.in_ok-accepted.ensures.sound c.in_ok-accepted.ensures.stands)
