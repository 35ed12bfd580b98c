use Rattle.std.proofs.Common.{◌+◌, ◌-◌, ◌/◌, ◌<◌, length, arith}
use Rattle.sim_ports.proofs.Placed.{begins_less, begins_more}
use Rattle.sim_ports.proofs.runs.begun_before.Goals as goal

pub loop-low-preserved-then-runs-middle : goal.loop-low-preserved-then-runs-middle
loop-low-preserved-then-runs-middle c =
    let m : c.loop-low.low + (c.loop-low.high - c.loop-low.low) / 2 < c.loop-low.high = omega arith in
    let h : c.loop-low.low + (c.loop-low.high - c.loop-low.low) / 2 < length c.args.runs.now = omega arith in
    record {
      order = omega arith;
      bound = c.loop-low.invariant.bound;
      before = begins_more 0 0 c.requires.high c.args.end c.args.address _ c.args.runs.now c.requires.spaced h c.if-runs-middle.true;
      behind = c.loop-low.invariant.behind;
    }

pub loop-low-preserved : goal.loop-low-preserved
loop-low-preserved c = record {
  order = omega arith;
  bound = omega arith;
  before = c.loop-low.invariant.before;
  behind = begins_less 0 0 c.requires.high c.args.end c.args.address _ c.args.runs.now c.requires.spaced c.if-runs-middle.false;
}
