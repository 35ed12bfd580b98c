use Rattle.std.proofs.Common.{◌≡◌, drop}
use Rattle.dip_lists.specs.First.{first, places}
use Rattle.dip_rule.specs.Boxed.{stated_by}
use Rattle.dip_stars.specs.Edges.{node_is_unfilled, unfilled}
use Rattle.dip_stars.proofs.stars.unfilled.Given as goal

abbrev pub invariant-loop-node : goal.invariant-loop-node
invariant-loop-node g l =
    let rules = stated_by (goal.Rule-dyn g) l.rules in
    first (places (node_is_unfilled rules l.nodes l.counts) l.node (drop l.node l.nodes))
    ≡ first (unfilled rules l.nodes l.counts)
