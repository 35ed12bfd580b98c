use Rattle.std.proofs.Common.{◌≡◌, ◌++◌, drop}
use Rattle.dip_rule.specs.Boxed.{stated_by}
use Rattle.dip_plan.specs.Building.{leaves_by}
use Rattle.dip_plan.proofs.each_leaf.leaves_by.Given as goal

abbrev pub invariant-loop-node : goal.invariant-loop-node
invariant-loop-node g l =
    l.leaves ++ leaves_by (stated_by (goal.Rule-dyn g) l.rules) (drop l.node l.nodes) (drop l.node l.ins) (drop l.node l.outs)
    ≡ leaves_by (stated_by (goal.Rule-dyn g) l.rules) l.nodes l.ins l.outs
