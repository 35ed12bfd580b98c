use Rattle.std.proofs.Common.{◌≡◌, ◌+◌, drop}
use Rattle.dip_stars.specs.Edges.{total}
use Rattle.dip_stars.proofs.edges.total.Given as goal

abbrev pub invariant-loop-count : goal.invariant-loop-count
invariant-loop-count l = l.sum + total (drop l.count-index l.counts) ≡ total l.counts
