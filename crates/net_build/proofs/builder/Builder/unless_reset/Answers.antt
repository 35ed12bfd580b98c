use Rattle.net_build.proofs.Steps.{reset_means}
use Rattle.net_build.proofs.builder.Builder.unless_reset.Goals as goal

pub returns-clause-value : goal.returns-clause-value
returns-clause-value c =
    reset_means _ _ _ c.reset-reset.result c.in_ok-low.low c.args.wire c.in_ok-kept.kept c.reset-reset.ensures.number c.in_ok-low.ensures.adds c.in_ok-kept.ensures.adds c.in_ok-low.ensures.value c.in_ok-kept.ensures.value
