use Rattle.net_turns.proofs.Laned.{hold_means}
use Rattle.net_turns.proofs.lanes.hold.Goals as goal

pub returns-clause-value : goal.returns-clause-value
returns-clause-value c =
    hold_means _ _ _ c.in_ok-none.none c.in_ok-kept.kept c.args.moves c.args.ends c.args.held c.args.lanes c.in_ok-next.next c.in_ok-kept.ensures.adds c.in_ok-next.ensures.adds
    c.in_ok-none.ensures.value c.in_ok-kept.ensures.value c.in_ok-next.ensures.value
