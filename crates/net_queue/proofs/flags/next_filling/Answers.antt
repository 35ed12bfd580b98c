use Rattle.net_build.proofs.Steps.{adds_adds, bit_adds, tells_adds}
use Rattle.net_queue.proofs.Filled.{both_tells, either_tells}
use Rattle.net_queue.proofs.flags.next_filling.Goals as goal

pub returns-clause-bits : goal.returns-clause-bits
returns-clause-bits c = (bit_adds _ _ c.in_ok-valid.valid c.in_ok-full.ensures.adds c.in_ok-valid.ensures.bit, c.in_ok-full.ensures.bit)

pub returns-clause-valid : goal.returns-clause-valid
returns-clause-valid c =
    tells_adds _ _ c.in_ok-valid.valid _ c.in_ok-full.ensures.adds
    (either_tells _ _ c.args.kept c.in_ok-more.more c.in_ok-valid.valid _ c.in_ok-valid.ensures.adds c.in_ok-more.ensures.tells c.in_ok-valid.ensures.tells)

pub returns-clause-full : goal.returns-clause-full
returns-clause-full c =
    both_tells _ _ c.args.kept c.in_ok-more.more c.in_ok-full.full _ (adds_adds _ _ _ c.in_ok-valid.ensures.adds c.in_ok-full.ensures.adds) c.in_ok-more.ensures.tells c.in_ok-full.ensures.tells
