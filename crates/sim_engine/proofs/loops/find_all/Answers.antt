use Rattle.sim_engine.proofs.Reaching.{extends_more, known_next}
use Rattle.sim_engine.proofs.loops.find_all.Goals as goal

pub loop-net-preserved : goal.loop-net-preserved
loop-net-preserved c =
    let e = c.in_ok-find.ensures in
    let i = c.loop-net.invariant in
    record {
      reaches = e.reaches;
      extends = extends_more c.args.reach.now.found.items c.loop-net.reach.found.items c.find.new.reach.found.items i.extends e.extends;
      known = known_next c.args.netlist.now c.loop-net.reach.found.items c.find.new.reach.found.items c.args.nets.now c.loop-net.net-index e.extends c.loop-net-test.true e.known i.known;
    }
