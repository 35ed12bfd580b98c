-- That the ports of a netlist have names of their own.
use Rattle.std.specs.Prelude.{List, ℕ, ◌++◌, ◌∷◌, All, codes, map}
use Rattle.net_cells.specs.declared.netlist.Port.{Port}
use Rattle.tl_edge.specs.declared.plan.Plan.{Plan}
use Rattle.tl_edge.specs.SoundPlans.{IsSound}
use Rattle.net_cells.specs.Rules.{IsNamed}
use Rattle.net_build.specs.Sound.{Differ}
use Rattle.net_ports.specs.Ports.{port_inputs, port_outputs, reset_input}

-- their names, in order
abbrev pub names_of : List Port → List (List ℕ)
names_of ports = map (λ (port : Port). port.name) ports

-- each is one that a port may have
pub record AreNamed (ports : List Port) : Type 0 where
  pub each : All (λ (port : Port). IsNamed (codes "p_") port.name) ports

-- all differ in every sound plan
abbrev pub NamesLaw : Type 0
NamesLaw = (plan : Plan) → IsSound plan → Differ (names_of ((reset_input ∷ port_inputs plan) ++ port_outputs plan))
