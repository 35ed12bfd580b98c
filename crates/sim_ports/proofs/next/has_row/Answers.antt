use Rattle.std.proofs.Common.{arith, ◌-◌, ◌+◌, ◌≤◌, length}
use Rattle.sim_ports.proofs.Rows.{found, none_found, row_short, row_tested}
use Rattle.sim_ports.proofs.next.has_row.Goals as goal

pub returns-in_default : goal.returns-in_default
returns-in_default c = (λ t. cc, λ row. absurd (none_found c.args.addresses.now c.args.address c.args.count c.binary_search.result c.binary_search.ensures.position c.requires.rising c.requires.some c.in_default.not-Ok row))

pub returns-in-Some : goal.returns-in-Some
returns-in-Some c =
    row_tested c.args.addresses.now c.args.address c.args.count c.in-Ok.place c.from.result c.in-Some.last.now c.requires.rising
    (found c.args.addresses.now c.args.address c.in-Ok.place c.binary_search.result c.binary_search.ensures.position c.requires.rising c.in-Ok.is)
    c.requires.some c.from.ensures (grind (arith, c.in-Some.ensures.lookup.0)) c.in-Some.ensures.lookup.1

pub returns-in-None : goal.returns-in-None
returns-in-None c =
    let short : length c.args.addresses.now ≤ c.in-Ok.place + (c.args.count - 1) = grind (arith, c.in-None.ensures.lookup) in (
      λ t. cc,
      λ row. absurd (row_short c.args.addresses.now c.args.address c.args.count c.in-Ok.place (c.args.count - 1) c.requires.rising
          (found c.args.addresses.now c.args.address c.in-Ok.place c.binary_search.result c.binary_search.ensures.position c.requires.rising c.in-Ok.is)
          (omega (arith, c.requires.some)) short row),
    )
