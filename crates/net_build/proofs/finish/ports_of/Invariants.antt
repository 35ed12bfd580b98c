use Rattle.std.proofs.Common.{◌≡◌, take}
use Rattle.std.specs.List.{filter_map}
use Rattle.net_build.specs.declared.types.Made.{Made}
use Rattle.net_build.specs.Built.{port_of}
use Rattle.net_build.proofs.finish.ports_of.Given as goal

abbrev pub invariant-loop-wire : goal.invariant-loop-wire
invariant-loop-wire l = l.ports ≡ filter_map (λ (m : Made). port_of m.item) (take l.wire-index l.made)
