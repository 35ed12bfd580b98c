-- Ports by their names.
use Rattle.std.specs.Prelude.{ℕ, ◌+◌, List, [], ◌∷◌, Bool, true, false, not, cond, Option, Some, None}
use Rattle.std.specs.List.{list_all}
use Rattle.std.specs.Str.{bytes_eq}
use Rattle.net_cells.specs.declared.netlist.Port.{Port}

-- whether a list is empty
abbrev pub is_none : {A : Type 0} → List A → Bool
is_none [] = true
is_none (x ∷ xs) = false

-- the place of the port with a name, where the first of these has a given one
abbrev pub port_place_from : ℕ → List ℕ → List Port → Option ℕ
port_place_from at name [] = None
port_place_from at name (port ∷ ports) = cond (bytes_eq port.name name) (Some at) (port_place_from (at + 1) name ports)

-- the place of the port with a name
abbrev pub port_place : List Port → List ℕ → Option ℕ
port_place ports name = port_place_from 0 name ports

-- no port has this name
abbrev pub is_new : List Port → List ℕ → Bool
is_new ports name = list_all (λ (port : Port). not (bytes_eq port.name name)) ports
