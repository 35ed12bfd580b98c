use Rattle.std.proofs.Common.{◌≡◌, ◌++◌, drop}
use Rattle.dip_negotiate.specs.Places.{sink_end, steps_at}
use Rattle.dip_negotiate.proofs.steps.add_steps_to.Given as goal

abbrev pub invariant-loop-number : goal.invariant-loop-number
invariant-loop-number l = l.steps ++ steps_at sink_end l.node l.number (drop l.number l.edges) ≡ l.fn.steps ++ steps_at sink_end l.node 0 l.edges
