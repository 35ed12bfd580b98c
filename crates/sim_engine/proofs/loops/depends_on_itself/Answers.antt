use Rattle.std.proofs.Common.{arith}
use Rattle.sim_engine.proofs.Reaching.{on_found, ready_extends}
use Rattle.sim_engine.proofs.Least.{ready_more, found_at_end}
use Rattle.sim_engine.proofs.loops.depends_on_itself.Goals as goal

pub expand-requires-in-loop-next-clause-on : goal.expand-requires-in-loop-next-clause-on
expand-requires-in-loop-next-clause-on c =
    on_found c.args.netlist.now c.args.start c.loop-next.reach c.index-place.result.now c.loop-next.next c.loop-next.invariant.reaches (omega arith) c.index-place.ensures

pub loop-next-preserved : goal.loop-next-preserved
loop-next-preserved c =
    let i = c.loop-next.invariant in
    let e = c.in_ok-expand-2.ensures in
    record {
      reaches = e.reaches;
      started = ready_extends c.args.netlist.now c.loop-next.reach.found.items c.expand-in-loop-next.new.reach.found.items c.args.start e.extends i.started;
      within = omega (arith, e.extends.long);
      ready = ready_more c.args.netlist.now c.loop-next.reach.found.items c.expand-in-loop-next.new.reach.found.items c.index-place.result.now c.loop-next.next e.extends c.index-place.ensures (omega arith) e.ready i.ready;
    }

pub returns : goal.returns
returns c =
    let i = c.loop-next.invariant in
    found_at_end c.args.netlist.now c.args.start c.loop-next.reach c.index.result.now i.reaches c.requires.exists i.started (λ k d b. i.ready k d (omega arith)) c.index.ensures
