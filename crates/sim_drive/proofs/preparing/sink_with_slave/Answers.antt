use Rattle.std.proofs.Common.{◌≡◌, true, sym, arith}
use Rattle.std.proofs.lemmas.Bool.Decides.{nat_tests}
use Rattle.sim_drive.specs.Preparing.{has_slave}
use Rattle.sim_drive.proofs.Found.{found_at, found_nowhere}
use Rattle.sim_drive.proofs.preparing.sink_with_slave.Goals as goal

pub returns-then-slave-at-2 : goal.returns-then-slave-at-2
returns-then-slave-at-2 c =
    let slave = c.args.slave.now in
    let at = c.index-sinks-number.result in
    let has : has_slave slave at ≡ true = grind (arith, nat_tests, c.if-slave-at.true, c.if-slave-at-2.true) in
    sym (found_at (has_slave slave) c.args.sinks.now c.loop-number.number at c.loop-number.invariant (omega arith) c.index-sinks-number.is has)

pub returns : goal.returns
returns c =
    sym (found_nowhere (has_slave c.args.slave.now) c.args.sinks.now (record { none = λ k d lt. c.loop-number.invariant.none k d (omega arith) }))
