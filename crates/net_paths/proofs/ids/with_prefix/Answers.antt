use Rattle.net_paths.proofs.Prefixed.{moves_prefix}
use Rattle.net_paths.proofs.ids.with_prefix.Goals as goal

pub returns-clause-moves : goal.returns-clause-moves
returns-clause-moves c = λ range h. moves_prefix _ _ _ c.args.id c.in_ok-high.high c.in_ok-low.low c.in_ok-wire.wire c.args.block _ c.in_ok-low.ensures.adds c.in_ok-wire.ensures.adds c.from.ensures c.in_ok-low.ensures.wire.1 c.in_ok-high.ensures.value c.in_ok-low.ensures.keeps c.in_ok-wire.ensures.value range h
