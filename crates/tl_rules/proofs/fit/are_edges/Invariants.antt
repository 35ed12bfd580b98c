use Rattle.std.proofs.Common.{◌≡◌, drop}
use Rattle.tl_rules.specs.Fits.{are_edges}
use Rattle.tl_rules.proofs.fit.are_edges.Given as goal

abbrev pub invariant-loop-edge : goal.invariant-loop-edge
invariant-loop-edge l = are_edges l.down l.up (drop l.edge-index l.edges) ≡ are_edges l.down l.up l.edges
