use Rattle.dip_rule.specs.Boxed.{stated_by}
use Rattle.dip_negotiate.proofs.Asked.{AskedTo}
use Rattle.dip_negotiate.proofs.demands.ask_marked.Given as goal

abbrev pub invariant-loop-turn : goal.invariant-loop-turn
invariant-loop-turn g l =
    AskedTo (g.P.Negotiated.pass (stated_by (goal.Rule-dyn g) l.rules) l.nodes l.edges) l.edges l.steps l.firsts l.marks l.fn.ports.items l.ports.items l.turn
