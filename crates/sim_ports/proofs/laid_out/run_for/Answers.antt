use Rattle.std.proofs.Common.{◌+◌, ◌<◌, arith}
use Rattle.sim_ports.proofs.Laid.{laying_gap}
use Rattle.sim_ports.proofs.laid_out.run_for.Goals as goal

pub returns-clause-laid : goal.returns-clause-laid
returns-clause-laid c = λ held few bytes p l.
    let h : c.args.run.first + c.args.run.count < c.args.address = omega (arith, c.if-address-run.false, c.requires) in
    rw c.in_ok-push.ensures.ok (laying_gap held few c.args.runs.now c.args.run bytes c.args.address c.args.place l h p)
