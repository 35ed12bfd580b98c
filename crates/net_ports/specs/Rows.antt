-- Rows of ports on a builder. Only what isn't public beyond this repository's netlists cites it.
use Rattle.std.specs.Prelude.{◌≡◌, ℕ, zero, suc, ◌+◌, List, [], ◌∷◌, ◌++◌, length, map, slice_index, All}
use Rattle.net_cells.specs.declared.netlist.OutPort.{OutPort}
use Rattle.net_cells.specs.declared.netlist.Port.{Port}
use Rattle.net_cells.specs.Rules.{IsWidth}
use Rattle.net_build.specs.declared.types.Wire.{Wire}
use Rattle.net_build.specs.Bits.{wire_values}
use Rattle.net_build.specs.Built.{Built, inputs, undriven}
use Rattle.net_build.specs.Registers.{AreWires}
use Rattle.net_build.specs.Sound.{Differ}
use Rattle.net_build.specs.Values.{HasInputs, Later}
use Rattle.net_ports.specs.Names.{AreNamed, names_of}

-- the widths of ports, in order
abbrev pub widths_of_ports : List Port → List ℕ
widths_of_ports ports = map (λ (port : Port). port.width) ports

-- ports have names and widths that they may have
pub record FitPorts (ports : List Port) : Type 0 where
  pub names : AreNamed ports
  pub widths : All IsWidth (widths_of_ports ports)

-- a later builder with these inputs more, and nothing else
pub record AddsInputs (old new : Built) (ports : List Port) : Type 0 where
  pub later : Later old new
  pub inputs : inputs new ≡ inputs old ++ ports
  pub outputs : new.outputs ≡ old.outputs
  pub undriven : undriven new ≡ undriven old

-- so many values from one on
abbrev pub values_from : List ℕ → ℕ → ℕ → List ℕ
values_from values from zero = []
values_from values from (suc more) = slice_index values from ∷ values_from values (from + 1) more

-- wires have the values of as many inputs, from one on
pub record AreRead (b : Built) (from : ℕ) (ws : List Wire) : Type 0 where
  pub at : (values : List ℕ) (v : ℕ → ℕ) → HasInputs b values v → wire_values v ws ≡ values_from values from (length ws)

-- the wires of inputs with these widths, of which the first one is that input
pub record AreInputWires (b : Built) (from : ℕ) (widths : List ℕ) (ws : List Wire) : Type 0 where
  pub long : length ws ≡ length widths
  pub wires : AreWires b widths ws
  pub read : AreRead b from ws

-- outputs that show wires
abbrev pub shown_outputs : List Port → List Wire → List OutPort
shown_outputs [] ws = []
shown_outputs (port ∷ ports) [] = []
shown_outputs (port ∷ ports) (w ∷ ws) = record { name = port.name; net = w.number } ∷ shown_outputs ports ws

-- a later builder with these outputs more, and nothing else
pub record AddsOutputs (old new : Built) (shown : List OutPort) : Type 0 where
  pub later : Later old new
  pub inputs : inputs new ≡ inputs old
  pub outputs : new.outputs ≡ old.outputs ++ shown
  pub undriven : undriven new ≡ undriven old

-- these ports may come to a builder: their names are new, and differ
abbrev pub MayAdd : Built → List Port → Type 0
MayAdd b ports = Differ (names_of (inputs b) ++ (map (λ (o : OutPort). o.name) b.outputs ++ names_of ports))
