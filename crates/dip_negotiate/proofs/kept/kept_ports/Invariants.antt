use Rattle.std.proofs.Common.{◌≡◌, ◌+◌, ◌++◌, drop, map, sum}
use Rattle.dip_negotiate.specs.Demands.{kept_ports, seen}
use Rattle.dip_negotiate.proofs.kept.kept_ports.Given as goal

abbrev pub invariant-loop-edge : goal.invariant-loop-edge
invariant-loop-edge g l =
    (l.some ++ kept_ports (seen (drop l.edge l.firsts) l.ports.items) ≡ kept_ports (seen l.firsts l.fn.ports.items))
    × (l.room + sum (map g.P.Negotiated.count l.some) ≡ 8388608)
