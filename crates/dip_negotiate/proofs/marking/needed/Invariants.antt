use Rattle.dip_rule.specs.Boxed.{stated_by}
use Rattle.dip_negotiate.specs.Demands.{seen}
use Rattle.dip_negotiate.proofs.Needed.{SoFar}
use Rattle.dip_negotiate.proofs.marking.needed.Given as goal

abbrev pub invariant-loop-back : goal.invariant-loop-back
invariant-loop-back g l =
    SoFar (g.P.Negotiated.pass (stated_by (goal.Rule-dyn g) l.rules) l.nodes l.edges) l.edges l.steps (seen l.firsts l.ports) l.edge l.back l.marks.items
