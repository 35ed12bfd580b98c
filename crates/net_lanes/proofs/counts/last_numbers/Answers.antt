use Rattle.std.proofs.Common.{◌≡◌, ◌-◌, ℕ, ◌∙◌, subst, arith}
use Rattle.net_build.proofs.Steps.{adds_adds}
use Rattle.tl_edge.specs.Beats.{data_beats}
use Rattle.net_lanes.specs.Lanes.{AreTabled}
use Rattle.net_lanes.proofs.Tabled.{tabled_more}
use Rattle.net_lanes.proofs.counts.last_numbers.Goals as goal

pub loop-size-preserved : goal.loop-size-preserved
loop-size-preserved c =
    let i = c.loop-size.invariant in
    let g = c.in_ok-number.ensures.adds in
    record {
      adds = adds_adds _ _ _ i.adds g;
      numbers = tabled_more _ _ 8 c.loop-size.size _ c.loop-size.out _ c.in_ok-number.number g.later i.numbers c.in_ok-number.ensures.wire.0 c.in_ok-number.ensures.wire.1 (λ v s. c.in_ok-number.ensures.value.at v s ∙ c.last_of.ensures.value) c.in_ok-push.ensures.ok;
    }

pub returns-clause-numbers : goal.returns-clause-numbers
returns-clause-numbers c =
    let all : c.loop-size.size ≡ 9 = omega (arith, c.loop-size.auto.size-end) in
    subst (λ (n : ℕ). AreTabled c.loop-size.builder 8 n (λ v size. data_beats size c.args.narrow - 1) c.loop-size.out) all c.loop-size.invariant.numbers
