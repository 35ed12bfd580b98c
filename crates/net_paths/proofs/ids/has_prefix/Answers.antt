use Rattle.net_build.proofs.Steps.{wire_adds}
use Rattle.net_paths.proofs.Prefixed.{prefix_tells}
use Rattle.net_paths.proofs.ids.has_prefix.Goals as goal

pub returns-clause-tells : goal.returns-clause-tells
returns-clause-tells c = prefix_tells _ _ _ c.args.id c.in_ok-high.high c.in_ok-number.number c.in_ok-wire.wire c.args.bits c.args.prefix c.in_ok-high.ensures.adds c.in_ok-wire.ensures.adds (wire_adds _ _ c.args.id c.in_ok-number.ensures.adds c.requires.id) c.requires.bits c.in_ok-number.ensures.value c.in_ok-high.ensures.value c.in_ok-wire.ensures.value
