use Rattle.tl_params.specs.declared.ports.Slave.{Slave}
use Rattle.tl_params.specs.Owners.{holds}
use Rattle.net_build.proofs.Steps.{adds_adds, bit_adds, wire_adds}
use Rattle.net_paths.proofs.Owned.{owner_tells, some_all, some_more, some_none}
use Rattle.net_paths.proofs.owners.owns.Goals as goal

pub loop-place-init : goal.loop-place-init
loop-place-init c = record {
  adds = c.in_ok-owned.ensures.adds;
  bit = c.in_ok-owned.ensures.bit;
  rest = some_none (λ (s : Slave). holds s) _ c.in_ok-owned.owned c.args.address c.args.slaves.now c.in_ok-owned.ensures.tells;
}

pub is_held-requires : goal.is_held-requires
is_held-requires c = wire_adds _ _ c.args.address c.loop-place.invariant.adds c.requires

pub either-requires : goal.either-requires
either-requires c = (bit_adds _ _ c.loop-place.owned c.in_ok-held.ensures.adds c.loop-place.invariant.bit, c.in_ok-held.ensures.bit)

pub loop-place-preserved : goal.loop-place-preserved
loop-place-preserved c =
    let i = c.loop-place.invariant in
    record {
      adds = adds_adds _ _ _ (adds_adds _ _ _ i.adds c.in_ok-held.ensures.adds) c.in_ok-owned-2.ensures.adds;
      bit = c.in_ok-owned-2.ensures.bit;
      rest = some_more (λ (s : Slave). holds s) _ _ _ c.loop-place.owned c.in_ok-held.held c.in_ok-owned-2.owned c.args.address c.args.slaves.now c.loop-place.place c.index-slaves-place.result c.loop-place-test.true c.index-slaves-place.is c.in_ok-held.ensures.adds c.in_ok-owned-2.ensures.adds i.rest c.in_ok-held.ensures.tells c.in_ok-owned-2.ensures.tells;
    }

pub returns-clause-tells : goal.returns-clause-tells
returns-clause-tells c = owner_tells _ c.loop-place.owned c.args.address c.args.slaves.now (some_all (λ (s : Slave). holds s) _ c.loop-place.owned c.args.address c.args.slaves.now c.loop-place.place c.loop-place-test.false c.loop-place.invariant.rest)
