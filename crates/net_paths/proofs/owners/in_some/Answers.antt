use Rattle.dip_sets.specs.Sets.{Pattern, is_in}
use Rattle.net_build.proofs.Steps.{adds_adds, bit_adds, wire_adds}
use Rattle.net_paths.proofs.Owned.{some_all, some_more, some_none}
use Rattle.net_paths.proofs.owners.in_some.Goals as goal

pub loop-place-init : goal.loop-place-init
loop-place-init c = record {
  adds = c.in_ok-owned.ensures.adds;
  bit = c.in_ok-owned.ensures.bit;
  rest = some_none (λ (s : Pattern). is_in s) _ c.in_ok-owned.owned c.args.address c.args.sets.now c.in_ok-owned.ensures.tells;
}

pub in_set-requires : goal.in_set-requires
in_set-requires c = wire_adds _ _ c.args.address c.loop-place.invariant.adds c.requires

pub either-requires : goal.either-requires
either-requires c = (bit_adds _ _ c.loop-place.owned c.in_ok-held.ensures.adds c.loop-place.invariant.bit, c.in_ok-held.ensures.bit)

pub loop-place-preserved : goal.loop-place-preserved
loop-place-preserved c =
    let i = c.loop-place.invariant in
    record {
      adds = adds_adds _ _ _ (adds_adds _ _ _ i.adds c.in_ok-held.ensures.adds) c.in_ok-owned-2.ensures.adds;
      bit = c.in_ok-owned-2.ensures.bit;
      rest = some_more (λ (s : Pattern). is_in s) _ _ _ c.loop-place.owned c.in_ok-held.held c.in_ok-owned-2.owned c.args.address c.args.sets.now c.loop-place.place c.index-sets-place.result c.loop-place-test.true c.index-sets-place.is c.in_ok-held.ensures.adds c.in_ok-owned-2.ensures.adds i.rest c.in_ok-held.ensures.tells c.in_ok-owned-2.ensures.tells;
    }

pub returns-clause-tells : goal.returns-clause-tells
returns-clause-tells c = some_all (λ (s : Pattern). is_in s) _ c.loop-place.owned c.args.address c.args.sets.now c.loop-place.place c.loop-place-test.false c.loop-place.invariant.rest
