use Rattle.std.proofs.Common.{◌<◌, ◌∙◌, length, arith}
use Rattle.std.proofs.lemmas.List.{length-set}
use Rattle.sim_ports.specs.Rooms.{gathered_flag}
use Rattle.sim_ports.proofs.Gathered.{filled_more}
use Rattle.sim_ports.proofs.gather.gather_flags.Goals as goal

pub loop-number-preserved : goal.loop-number-preserved
loop-number-preserved c =
    let h : c.loop-number.number < length c.loop-number.into = omega arith in
    record {
      is = filled_more (gathered_flag c.args.width c.args.beats.now) c.loop-number.into c.flag_in.result c.loop-number.number h c.flag_in.ensures c.loop-number.invariant.is;
      same = length-set c.loop-number.into c.loop-number.number c.flag_in.result ∙ c.loop-number.invariant.same;
    }
