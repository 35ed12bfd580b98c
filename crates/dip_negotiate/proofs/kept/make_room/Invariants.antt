use Rattle.std.proofs.Common.{◌≡◌, ◌+◌, drop}
use Rattle.dip_negotiate.specs.Demands.{all_entries}
use Rattle.dip_negotiate.proofs.kept.make_room.Given as goal

abbrev pub invariant-loop-port : goal.invariant-loop-port
invariant-loop-port g l = l.room + l.entries + all_entries g.P.Negotiated.count l.ports ≡ g.P.Negotiated.MOST_ENTRIES + all_entries g.P.Negotiated.count (drop l.port-index l.ports)
