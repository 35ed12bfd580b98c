use Rattle.net_build.proofs.Steps.{adds_adds}
use Rattle.net_ends.proofs.Gated.{end_made}
use Rattle.net_ends.proofs.gates.gate_port.Goals as goal

pub returns-clause-gated : goal.returns-clause-gated
returns-clause-gated c =
    let v = c.in_ok-valid.ensures in
    let t = c.in_ok-take.ensures in
    end_made _ _ _ c.args.onto.now c.args.from.now c.args.offered.now c.in_ok-valid.valid c.in_ok-take.take c.in_ok-items.items (adds_adds _ _ _ v.adds t.adds) t.adds c.requires.open.0 c.requires.offered v.bit v.tells t.bit t.tells c.in_ok-items.ensures
