use Rattle.std.proofs.Common.{◌<◌, ◌≤◌, ◌∙◌, length, arith}
use Rattle.std.proofs.lemmas.List.{length-set}
use Rattle.tl_edge.specs.Beats.{d_beat}
use Rattle.sim_ports.proofs.Gathered.{few_back, filled_more}
use Rattle.sim_ports.proofs.room.Room.write_beats.Goals as goal

pub loop-number-preserved : goal.loop-number-preserved
loop-number-preserved c =
    let small : c.args.self.now.response.size ≤ 8 = omega (arith, c.requires.response.size, c.requires.request.small) in
    let h : c.loop-number.number < length c.loop-number.into = omega (arith, few_back c.args.self.now.response.op c.args.self.now.response.size c.args.width small) in
    record {
      is = filled_more (d_beat c.args.width c.args.self.now.request.address c.args.self.now.response) c.loop-number.into _ c.loop-number.number h c.d_beat.ensures c.loop-number.invariant.is;
      same = length-set c.loop-number.into c.loop-number.number _ ∙ c.loop-number.invariant.same;
    }
