use Rattle.std.proofs.Common.{◌≡◌, ◌∙◌, ◌+◌, ◌<◌, ap, arith, refl, subst, sym, take}
use Rattle.std.specs.Prelude.{OnErr, OnOk}
use Rattle.dip_io.specs.Outside.{Writes, WritesPart}
use Rattle.soc_trace.specs.Traces.{AllGood, trace_text}
use Rattle.soc_trace.proofs.Prints.{on_err, on_err_map, on_ok_map}
use Rattle.soc_trace.proofs.Going.{begins, cut_last, cut_within, goes_on, some_trace, the_trace}
use Rattle.soc_trace.proofs.run.print_run.Goals as goal

pub returns-in_err-used-clause-refused : goal.returns-in_err-used-clause-refused
returns-in_err-used-clause-refused g c = λ setup netlist b a.
    let i = c.loop-cycle.invariant in
    let e = c.in_err-used.ensures in
    let h : c.loop-cycle.cycle < c.args.run.cycles = omega (arith, c.loop-cycle-test.true) in
    on_err c.from_residual.result _
    (cut_within _ _ c.loop-cycle.cycle (g.O.Out.seen c.args.out.now) (take c.loop-cycle.used c.loop-cycle.waiting) (g.O.Out.seen c.loop-cycle.out) i.going
    c.print_cycle.new.run.shown.items (g.O.Out.seen c.print_cycle.new.out) (λ s n k good. e.events s n c.loop-cycle.cycle k good)
    setup netlist c.args.run.cycles h b a e.printed.refused)

pub loop-cycle-init : goal.loop-cycle-init
loop-cycle-init g c = record {
  ran = c.requires.fresh;
  cycles = refl;
  ready = c.requires.ready;
  within = omega arith;
  room = refl;
  going = begins _ (g.O.Out.seen c.args.out.now);
  later = omega arith;
}

pub loop-cycle-preserved : goal.loop-cycle-preserved
loop-cycle-preserved g c =
    let i = c.loop-cycle.invariant in
    let e = c.in_ok-used.ensures in
    record {
      ran = e.ran ∙ ap (λ n. n + 1) i.ran;
      cycles = e.cycles ∙ i.cycles;
      ready = e.ready;
      within = e.printed.within;
      room = e.room ∙ i.room;
      going = goes_on _ _ c.loop-cycle.cycle (g.O.Out.seen c.args.out.now) (take c.loop-cycle.used c.loop-cycle.waiting) (g.O.Out.seen c.loop-cycle.out) i.going
          c.print_cycle.new.run.shown.items (g.O.Out.seen c.print_cycle.new.out) (λ s n k good. e.events s n c.loop-cycle.cycle k good)
          _ (take c.in_ok-used.used c.print_cycle.new.waiting) e.printed.ok (λ s n k good. e.is s n c.loop-cycle.cycle k good);
      later = omega (arith, i.later, e.printed.later);
    }

pub returns-clause-trace : goal.returns-clause-trace
returns-clause-trace g c =
    let i = c.loop-cycle.invariant in
    let e : c.loop-cycle.cycle ≡ c.args.run.cycles = omega (arith, c.loop-cycle-test.false, c.loop-cycle.auto.cycle-end) in
    on_ok_map c.print_end.result _ _
    (some_trace _ _ c.loop-cycle.cycle (g.O.Out.seen c.args.out.now) (take c.loop-cycle.used c.loop-cycle.waiting) (g.O.Out.seen c.loop-cycle.out) i.going
    c.finish-totals.result (g.O.Out.seen c.print_end.new.out) c.args.run.cycles (c.finish-totals.ensures.cycles ∙ i.ran ∙ e))
    c.print_end.ensures.ok

pub returns-clause-ok : goal.returns-clause-ok
returns-clause-ok g c = λ setup netlist b a.
    let i = c.loop-cycle.invariant in
    let e : c.loop-cycle.cycle ≡ c.args.run.cycles = omega (arith, c.loop-cycle-test.false, c.loop-cycle.auto.cycle-end) in
    let before = g.O.Out.seen c.args.out.now in
    let after = g.O.Out.seen c.print_end.new.out in
    subst (λ n. OnOk c.print_end.result (Writes (trace_text setup n) before after)) e
    (on_ok_map c.print_end.result _ _
    (the_trace _ _ c.loop-cycle.cycle before (take c.loop-cycle.used c.loop-cycle.waiting) (g.O.Out.seen c.loop-cycle.out) i.going
    c.finish-totals.result after (λ s n k. c.finish-totals.ensures.totals s n c.loop-cycle.cycle k) setup netlist b (subst (λ n. AllGood setup netlist n) (sym e) a))
    c.print_end.ensures.ok)

pub returns-clause-refused : goal.returns-clause-refused
returns-clause-refused g c = λ setup netlist b a.
    let i = c.loop-cycle.invariant in
    let e : c.loop-cycle.cycle ≡ c.args.run.cycles = omega (arith, c.loop-cycle-test.false, c.loop-cycle.auto.cycle-end) in
    let before = g.O.Out.seen c.args.out.now in
    let after = g.O.Out.seen c.print_end.new.out in
    subst (λ n. OnErr c.print_end.result (WritesPart (trace_text setup n) before after)) e
    (on_err_map c.print_end.result _ _
    (cut_last _ _ c.loop-cycle.cycle before (take c.loop-cycle.used c.loop-cycle.waiting) (g.O.Out.seen c.loop-cycle.out) i.going
    c.finish-totals.result after (λ s n k. c.finish-totals.ensures.totals s n c.loop-cycle.cycle k) setup netlist b (subst (λ n. AllGood setup netlist n) (sym e) a))
    c.print_end.ensures.refused)
