use Rattle.net_choice.proofs.Chained.{lowest_any, lowest_tells}
use Rattle.net_choice.proofs.choice.lowest.Goals as goal

pub returns-clause-grants : goal.returns-clause-grants
returns-clause-grants c = rw c.into_wires-grants.ensures (lowest_tells _ _ _ c.args.ready c.args.full c.args.may.now c.in_ok-firsts.firsts.wires c.in_ok-firsts.ensures.adds c.in_ok-some.ensures.adds c.requires.full c.in_ok-firsts.ensures.shows)

pub returns-clause-some : goal.returns-clause-some
returns-clause-some c = rw c.into_wires-grants.ensures (lowest_any _ _ _ c.args.ready c.args.full c.in_ok-firsts.firsts.seen c.in_ok-some.some c.args.may.now c.in_ok-firsts.firsts.wires c.in_ok-firsts.ensures.adds c.in_ok-some.ensures.adds c.requires.full c.in_ok-firsts.ensures.tells c.in_ok-some.ensures.tells
    (lowest_tells _ _ _ c.args.ready c.args.full c.args.may.now c.in_ok-firsts.firsts.wires c.in_ok-firsts.ensures.adds c.in_ok-some.ensures.adds c.requires.full c.in_ok-firsts.ensures.shows))
