use Rattle.std.proofs.Common.{[]}
use Rattle.sim_drive.specs.Opening.{AreAskedBy}
use Rattle.sim_drive.proofs.scripts.nothing_asked.Given as goal

abbrev pub invariant-loop : goal.invariant-loop
invariant-loop l = AreAskedBy [] l.counter l.lists.items
