-- The wires of a port, in the order of its inputs.
use Rattle.std.specs.Prelude.{List, [], ◌∷◌, ◌++◌}
use Rattle.net_build.specs.declared.types.Wire.{Wire}
use Rattle.net_parts.specs.declared.types.EndWires.{EndWires}

-- the wires of a source port, in the order of its inputs
abbrev pub source_row : EndWires → List Wire
source_row port = port.put.valid ∷ port.put.items ++ port.take ∷ []

-- the wires of a sink port, in the order of its inputs
abbrev pub sink_row : EndWires → List Wire
sink_row port = port.take ∷ port.put.valid ∷ port.put.items
