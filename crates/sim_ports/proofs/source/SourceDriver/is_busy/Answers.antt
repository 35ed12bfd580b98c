use Rattle.std.proofs.Common.{◌≡◌, ◌∙◌, None, slice_get, rules}
use Rattle.sim_ports.proofs.Onward.{none_waits, waits_same}
use Rattle.sim_ports.proofs.source.SourceDriver.is_busy.Goals as goal

pub returns-in-None-clause-now : goal.returns-in-None-clause-now
returns-in-None-clause-now c =
    let none : slice_get c.args.self.now.left c.args.id ≡ None = search rules in
    none_waits c.args.self.now.left c.args.id none

pub returns-in-None-clause-said : goal.returns-in-None-clause-said
returns-in-None-clause-said c = λ script history s l.
    let none : slice_get c.args.self.now.left c.args.id ≡ None = search rules in
    none_waits c.args.self.now.left c.args.id none ∙ waits_same script history c.args.self.now c.args.id s l
