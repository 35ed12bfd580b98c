use Rattle.std.proofs.Common.{arith, sym, ◌∙◌}
use Rattle.net_build.proofs.Folded.{bit_at}
use Rattle.net_build.proofs.RowLists.{rows_adds}
use Rattle.net_build.proofs.Steps.{adds_adds}
use Rattle.net_crossbar.proofs.Lists.{all_more, long_more}
use Rattle.net_crossbar.proofs.Served.{serving_adds, serving_many, single_here, single_later, wanted_here}
use Rattle.net_crossbar.proofs.gates.single_gates.Goals as goal

pub build_single_gate-requires-clause-one : goal.build_single_gate-requires-clause-one
build_single_gate-requires-clause-one c =
    let i = c.loop-place.invariant in
    let w = wanted_here _ _ _ c.args.wants.now c.loop-place.place _ _ c.loop-place-test.true c.as_slice-wanted.ensures c.index-wants-place.is i.adds c.requires.wants in
    w.long ∙ c.requires.one

pub build_single_gate-requires-clause-bits : goal.build_single_gate-requires-clause-bits
build_single_gate-requires-clause-bits c =
    let i = c.loop-place.invariant in
    let l = c.loop-place-test.true in (
      bit_at _ _ c.args.readies.now c.loop-place.place _ c.requires.readies.0 i.adds (omega (arith, l, c.requires.readies.1)),
      (wanted_here _ _ _ c.args.wants.now c.loop-place.place _ _ l c.as_slice-wanted.ensures c.index-wants-place.is i.adds c.requires.wants).bits,
    )

pub build_single_gate-requires-clause-rows : goal.build_single_gate-requires-clause-rows
build_single_gate-requires-clause-rows c =
    let i = c.loop-place.invariant in
    let w = wanted_here _ _ _ c.args.wants.now c.loop-place.place _ _ c.loop-place-test.true c.as_slice-wanted.ensures c.index-wants-place.is i.adds c.requires.wants in
    (rows_adds _ _ c.args.widths.now c.args.rows.now i.adds c.requires.rows, sym w.long)

pub loop-place-preserved : goal.loop-place-preserved
loop-place-preserved c =
    let i = c.loop-place.invariant in
    let g = c.in_ok-serving.ensures.adds in
    let s = c.in_ok-serving.serving in
    let p = c.in_ok-push.ensures.ok in
    let l = c.loop-place-test.true in
    let w = wanted_here _ _ _ c.args.wants.now c.loop-place.place _ _ l c.as_slice-wanted.ensures c.index-wants-place.is i.adds c.requires.wants in
    record {
      adds = adds_adds _ _ _ i.adds g;
      long = long_more c.loop-place.out _ s c.loop-place.place i.long p;
      servings = all_more _ _ c.loop-place.out _ s c.loop-place.place (λ k x h. serving_adds _ _ _ c.args.widths.now x g h) i.servings i.long (serving_many _ _ _ c.args.widths.now s w.long c.in_ok-serving.ensures.serving) p;
      gates = all_more _ _ c.loop-place.out _ s c.loop-place.place (λ k x h. single_later _ _ c.args.rows.now _ _ x g h) i.gates i.long
          (single_here _ c.args.rows.now c.args.wants.now c.args.readies.now c.loop-place.place _ _ s l c.as_slice-wanted.ensures c.index-wants-place.is (record { gate = c.in_ok-serving.ensures.gate })) p;
    }
