use Rattle.std.proofs.Common.{sym, ◌∙◌}
use Rattle.dip_sets.specs.Sets.{In, is_in}
use Rattle.tl_params.proofs.Finding.{item_at, any_behind, test_behind, any_past}
use Rattle.tl_params.proofs.ports.holds.Goals as goal

pub loop-set-preserved : goal.loop-set-preserved
loop-set-preserved c =
    let sets = c.args.slave.now.addresses in
    let here = item_at c.as_slice-set-items.result.now sets c.loop-set.set-index c.set-item.result c.as_slice-set-items.ensures c.loop-set-test.true c.set-item.is in (
      sym (test_behind (λ s. is_in s c.args.address) sets c.loop-set.set-index c.set-item.result here (sym c.contains.ensures.test ∙ c.if-contains.false)) ∙ c.loop-set.invariant.0,
      λ h. any_behind (λ s. In s c.args.address) sets c.loop-set.set-index c.set-item.result here (λ p. absurd (cc (c.if-contains.ensures.members.1 p))) (c.loop-set.invariant.1 h),
    )

pub returns-clause-members : goal.returns-clause-members
returns-clause-members c = (λ no. absurd (cc), λ h. absurd (any_past (λ s. In s c.args.address) c.as_slice-set-items.result.now c.args.slave.now.addresses c.loop-set.set-index c.as_slice-set-items.ensures c.loop-set-test.false (c.loop-set.invariant.1 h)))
