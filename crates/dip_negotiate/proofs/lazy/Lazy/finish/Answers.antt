use Rattle.dip_rule.specs.Boxed.{stated_by}
use Rattle.dip_negotiate.proofs.Lazily.{only_solution}
use Rattle.dip_negotiate.proofs.lazy.Lazy.finish.Goals as goal

pub returns-clause-only : goal.returns-clause-only
returns-clause-only g c =
    only_solution (stated_by (goal.Rule-dyn g) c.args.self.rules.now) c.args.self.design.now c.args.self.edges.now c.requires.is.negotiable c.in_ok-down.down c.in_ok-up.up
    (rw (← c.as_slice-edges.ensures) c.in_ok-down.ensures.ok) (rw (← c.as_slice-edges.ensures) c.in_ok-up.ensures.ok)
