use Rattle.net_build.proofs.Steps.{adds_adds, bit_adds, tells_adds}
use Rattle.net_slots.proofs.Cycles.{id_is, some_is}
use Rattle.net_slots.proofs.slots.choose_id.Goals as goal

pub returns-clause-bits : goal.returns-clause-bits
returns-clause-bits c =
    (bit_adds _ _ c.in_ok-idle.idle (adds_adds _ _ _ c.in_ok-lowest.ensures.adds c.in_ok-id.ensures.adds) c.in_ok-idle.ensures.bit, bit_adds _ _ c.in_ok-lowest.lowest.some c.in_ok-id.ensures.adds c.in_ok-lowest.ensures.bit)

pub returns-clause-idle : goal.returns-clause-idle
returns-clause-idle c = tells_adds _ _ c.in_ok-idle.idle _ (adds_adds _ _ _ c.in_ok-lowest.ensures.adds c.in_ok-id.ensures.adds) c.in_ok-idle.ensures.tells

pub returns-clause-some : goal.returns-clause-some
returns-clause-some c = some_is _ _ c.in_ok-lowest.lowest.some c.args.slots.now.taken c.as_slice.result.now c.in_ok-id.ensures.adds c.as_slice.ensures c.in_ok-lowest.ensures.some

pub returns-clause-id : goal.returns-clause-id
returns-clause-id c = id_is _ _ _ c.args.slots.now c.in_ok-idle.idle c.in_ok-lowest.lowest.place c.in_ok-id.id c.as_slice.result.now c.in_ok-lowest.ensures.adds c.in_ok-id.ensures.adds c.as_slice.ensures c.in_ok-idle.ensures.tells c.in_ok-lowest.ensures.place c.in_ok-id.ensures.value
