use Rattle.net_lanes.proofs.Begins.{step_small, turns_tell}
use Rattle.net_lanes.proofs.places.turns.Goals as goal

pub constant-requires-clause-value : goal.constant-requires-clause-value
constant-requires-clause-value c = step_small c.args.buses c.requires.buses

pub returns-clause-tells : goal.returns-clause-tells
returns-clause-tells c = turns_tell _ _ _ c.args.here c.in_ok-step.step c.in_ok-next.next c.in_ok-end.end c.args.buses c.requires.buses c.requires.here.1 c.in_ok-next.ensures.adds c.in_ok-end.ensures.adds c.in_ok-step.ensures.value c.in_ok-next.ensures.value c.in_ok-end.ensures.tells
