use Rattle.sim_ports.specs.Layout.{IsReplaced}
use Rattle.sim_ports.proofs.memory.replace_flagged.Given as goal

abbrev pub invariant-loop-place : goal.invariant-loop-place
invariant-loop-place l = IsReplaced l.start l.place l.flags l.others l.initial.bytes l.bytes
