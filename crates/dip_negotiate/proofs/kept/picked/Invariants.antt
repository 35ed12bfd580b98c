use Rattle.std.proofs.Common.{◌≡◌, ◌+◌, ◌++◌, drop, map, sum}
use Rattle.dip_negotiate.specs.Demands.{known_of, seen}
use Rattle.dip_negotiate.proofs.kept.picked.Given as goal

abbrev pub invariant-loop-number : goal.invariant-loop-number
invariant-loop-number g l =
    (l.some ++ known_of (seen l.firsts l.ports) (drop l.number-index l.numbers) ≡ known_of (seen l.firsts l.ports) l.numbers)
    × (l.room + sum (map g.P.Negotiated.count l.some) ≡ 1048576)
