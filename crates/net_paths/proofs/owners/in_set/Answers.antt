use Rattle.net_build.proofs.Steps.{wire_adds}
use Rattle.net_paths.proofs.Owned.{all_small, mask_under, set_built}
use Rattle.net_paths.proofs.owners.in_set.Goals as goal

pub bits_of-width-requires-clause-all : goal.bits_of-width-requires-clause-all
bits_of-width-requires-clause-all c = all_small c.args.set.now c.base.result c.mask-mask.result c.base.ensures.value c.mask-mask.ensures.value c.base.ensures.set

pub constant-requires-clause-value : goal.constant-requires-clause-value
constant-requires-clause-value c = mask_under c.base.result c.mask-mask.result c.bits_of-width.result c.bits_of-width.ensures.all

pub eq-requires-clause-wires : goal.eq-requires-clause-wires
eq-requires-clause-wires c = (wire_adds _ _ c.in_ok-masked.masked c.in_ok-greatest.ensures.adds c.in_ok-masked.ensures.wire.0, c.in_ok-greatest.ensures.wire.0)

pub returns-clause-tells : goal.returns-clause-tells
returns-clause-tells c = set_built _ _ _ _ _ _ c.args.set.now c.args.address c.in_ok-wide.wide c.in_ok-free.free c.in_ok-masked.masked c.in_ok-greatest.greatest c.in_ok-wire.wire c.base.result c.mask-mask.result c.bits_of-width.result
    c.in_ok-wide.ensures.adds c.in_ok-free.ensures.adds c.in_ok-masked.ensures.adds c.in_ok-greatest.ensures.adds c.in_ok-wire.ensures.adds c.base.ensures.set c.base.ensures.value c.mask-mask.ensures.value c.requires c.bits_of-width.ensures.address c.in_ok-wide.ensures.wire.1
    c.in_ok-wide.ensures.keeps c.in_ok-free.ensures.value c.in_ok-masked.ensures.value c.in_ok-greatest.ensures.value c.in_ok-wire.ensures.value
