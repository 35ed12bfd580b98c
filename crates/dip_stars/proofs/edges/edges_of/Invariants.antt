use Rattle.std.proofs.Common.{◌≡◌, drop}
use Rattle.dip_stars.specs.Edges.{edges_behind, edges_of}
use Rattle.dip_stars.proofs.edges.edges_of.Given as goal

abbrev pub invariant-loop-number : goal.invariant-loop-number
invariant-loop-number l = edges_behind l.edges l.number (drop l.number l.counts) ≡ edges_of l.counts
