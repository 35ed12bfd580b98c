use Rattle.std.proofs.Common.{arith, sym, ◌∙◌}
use Rattle.net_build.proofs.Folded.{bit_at}
use Rattle.net_build.proofs.RowLists.{rows_adds}
use Rattle.net_build.proofs.Steps.{adds_adds}
use Rattle.net_table.proofs.Indexed.{entries_later}
use Rattle.net_crossbar.proofs.Lists.{all_more, long_more}
use Rattle.net_crossbar.proofs.Served.{served_here, served_later, serving_adds, serving_many, wanted_here}
use Rattle.net_crossbar.proofs.gates.build_gates.Goals as goal

pub build_gate-requires-clause-bits : goal.build_gate-requires-clause-bits
build_gate-requires-clause-bits c =
    let i = c.loop-place.invariant in
    let l = c.loop-place-test.true in (
      bit_at _ _ c.args.readies.now c.loop-place.place _ c.requires.readies.0 i.adds (omega (arith, l, c.requires.readies.1)),
      (wanted_here _ _ _ c.args.wants.now c.loop-place.place _ _ l c.as_slice-wanted.ensures c.index-wants-place.is i.adds c.requires.wants).bits,
    )

pub build_gate-requires-clause-rests : goal.build_gate-requires-clause-rests
build_gate-requires-clause-rests c =
    let i = c.loop-place.invariant in
    let w = wanted_here _ _ _ c.args.wants.now c.loop-place.place _ _ c.loop-place-test.true c.as_slice-wanted.ensures c.index-wants-place.is i.adds c.requires.wants in
    (entries_later _ _ 8 c.args.rests.now i.adds.later c.requires.rests.0, c.requires.rests.1 ∙ sym w.long)

pub build_gate-requires-clause-rows : goal.build_gate-requires-clause-rows
build_gate-requires-clause-rows c =
    let i = c.loop-place.invariant in
    let w = wanted_here _ _ _ c.args.wants.now c.loop-place.place _ _ c.loop-place-test.true c.as_slice-wanted.ensures c.index-wants-place.is i.adds c.requires.wants in
    (rows_adds _ _ c.args.widths.now c.args.rows.now i.adds c.requires.rows, sym w.long)

pub loop-place-preserved : goal.loop-place-preserved
loop-place-preserved c =
    let i = c.loop-place.invariant in
    let g = c.in_ok-serving.ensures.adds in
    let s = c.in_ok-serving.serving in
    let p = c.in_ok-push.ensures.ok in
    let l = c.loop-place-test.true in
    let w = wanted_here _ _ _ c.args.wants.now c.loop-place.place _ _ l c.as_slice-wanted.ensures c.index-wants-place.is i.adds c.requires.wants in
    record {
      adds = adds_adds _ _ _ i.adds g;
      long = long_more c.loop-place.out _ s c.loop-place.place i.long p;
      servings = all_more _ _ c.loop-place.out _ s c.loop-place.place (λ k x h. serving_adds _ _ _ c.args.widths.now x g h) i.servings i.long (serving_many _ _ _ c.args.widths.now s w.long c.in_ok-serving.ensures.serving) p;
      gates = all_more _ _ c.loop-place.out _ s c.loop-place.place (λ k x h. served_later _ _ _ c.args.round c.args.rows.now c.args.rests.now _ _ x g h) i.gates i.long
          (served_here _ _ _ c.args.round c.args.rows.now c.args.rests.now c.args.wants.now c.args.readies.now c.loop-place.place _ _ s l c.as_slice-wanted.ensures c.index-wants-place.is i.adds (record { gate = c.in_ok-serving.ensures.gate })) p;
    }
