use Rattle.std.proofs.Common.{◌≡◌, ◌++◌, drop}
use Rattle.dip_lists.specs.First.{places}
use Rattle.dip_negotiate.specs.Places.{sink_end, belongs, joined_to}
use Rattle.dip_negotiate.proofs.asking.entering.Given as goal

abbrev pub invariant-loop-number : goal.invariant-loop-number
invariant-loop-number l =
    l.numbers ++ places (λ number edge. belongs l.nexus l.own (sink_end edge)) l.number (drop l.number l.edges) ≡ joined_to l.nexus sink_end l.own l.edges
