use Rattle.std.proofs.Common.{◌≡◌, ◌++◌, drop}
use Rattle.dip_rule.specs.Boxed.{stated_by}
use Rattle.dip_negotiate.specs.Demands.{end_places}
use Rattle.dip_negotiate.proofs.turns.end_places.Given as goal

abbrev pub invariant-loop-edge : goal.invariant-loop-edge
invariant-loop-edge g l =
    l.ends ++ end_places (stated_by (goal.Rule-dyn g) l.rules) l.nodes g.P.Negotiated.near (drop l.edge-index l.edges)
    ≡ end_places (stated_by (goal.Rule-dyn g) l.rules) l.nodes g.P.Negotiated.near l.edges
