use Rattle.std.proofs.Common.{◌≡◌, take}
use Rattle.std.specs.List.{filter_map}
use Rattle.std.specs.Prelude.{slice_index}
use Rattle.net_build.specs.Numbering.{reg_of}
use Rattle.net_build.proofs.finish.regs_of.Given as goal

abbrev pub invariant-loop-wire : goal.invariant-loop-wire
invariant-loop-wire l = l.regs ≡ filter_map (reg_of (slice_index l.nets)) (take l.wire-index l.made)
