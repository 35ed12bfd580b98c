use Rattle.std.proofs.Common.{◌≡◌, take, map}
use Rattle.std.specs.Prelude.{slice_index}
use Rattle.net_build.specs.Numbering.{out_of}
use Rattle.net_build.proofs.finish.outputs_of.Given as goal

abbrev pub invariant-loop-port : goal.invariant-loop-port
invariant-loop-port l = l.outputs ≡ map (out_of (slice_index l.nets)) (take l.port-index l.ports)
