-- The registers of a queue. Only functions that aren't public cite it.
use Rattle.std.specs.Prelude.{List, ◌∷◌, ◌++◌}
use Rattle.net_build.specs.declared.types.Wire.{Wire}
use Rattle.net_queue.specs.declared.queue.Registers.{Registers}

-- in the order of opening
abbrev pub list_of : Registers → List Wire
list_of r = r.valid ∷ r.full ∷ r.head ++ r.last
