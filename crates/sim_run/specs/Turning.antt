-- The values that are put on a netlist's inputs.
use Rattle.std.specs.Prelude.{ℕ, ◌^◌, List, [], ◌∷◌, nat_lt, cond, map}
use Rattle.net_cells.specs.declared.netlist.Netlist.{Netlist}
use Rattle.net_cells.specs.declared.netlist.Port.{Port}

-- a value that fits so many bits, and else 0
abbrev pub fitted_value : ℕ → ℕ → ℕ
fitted_value width value = cond (nat_lt value (2 ^ width)) value 0

-- values, each fitted to a width
abbrev pub fitted : List ℕ → List ℕ → List ℕ
fitted [] values = []
fitted (width ∷ widths) [] = []
fitted (width ∷ widths) (value ∷ values) = fitted_value width value ∷ fitted widths values

-- the widths of a netlist's inputs
abbrev pub input_widths : Netlist → List ℕ
input_widths netlist = map (λ (port : Port). port.width) netlist.inputs
