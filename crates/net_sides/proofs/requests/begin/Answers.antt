use Rattle.net_build.proofs.Steps.{adds_adds}
use Rattle.net_sides.proofs.Parts.{begin_tells}
use Rattle.net_sides.proofs.requests.begin.Goals as goal

pub returns-clause-tells : goal.returns-clause-tells
returns-clause-tells c =
    let g2 = c.in_ok-begins.ensures.adds in
    let g1 = adds_adds _ _ _ c.in_ok-first.ensures.adds g2 in
    begin_tells _ _ _ c.args.made c.args.loaded c.args.done c.in_ok-idle.idle c.in_ok-first.first c.in_ok-begins.begins g1.later g2.later c.in_ok-idle.ensures.tells c.in_ok-first.ensures.tells c.in_ok-begins.ensures.tells
