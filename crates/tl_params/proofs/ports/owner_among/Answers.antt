use Rattle.std.proofs.Common.{◌∙◌, refl, sym}
use Rattle.tl_params.proofs.Finding.{item_at, owner_behind, none_behind, none_left}
use Rattle.tl_params.proofs.ports.owner_among.Goals as goal

pub loop-place-preserved : goal.loop-place-preserved
loop-place-preserved c =
    let slaves = c.args.slaves.now in
    let here = item_at slaves slaves c.loop-place.place c.index-slaves-place.result refl c.loop-place-test.true c.index-slaves-place.is in (
      sym (owner_behind slaves c.loop-place.place c.index-slaves-place.result c.args.address here (sym c.holds.ensures.test ∙ c.if-holds.false)) ∙ c.loop-place.invariant.0,
      none_behind slaves c.loop-place.place c.index-slaves-place.result c.args.address here (λ p. absurd (cc (c.if-holds.ensures.members.1 p))) c.loop-place.invariant.1,
    )

pub returns-clause-members : goal.returns-clause-members
returns-clause-members c = none_left c.args.slaves.now c.loop-place.place c.args.address c.loop-place-test.false c.loop-place.invariant.1
