-- What an engine is and does: the netlist, what its registers hold, and one cycle.
use Rattle.std.specs.Prelude.{◌≡◌, ℕ, ◌≤◌, List, ◌++◌, map}
use Rattle.net_cells.specs.declared.netlist.Netlist.{Netlist}
use Rattle.net_cells.specs.declared.netlist.OutPort.{OutPort}
use Rattle.net_cells.specs.Values.{first_registers, next_registers}
use Rattle.net_cells.specs.Loops.{DependsOn, HasOneCycle}
use Rattle.sim_engine.specs.declared.fault.EngineFault.{EngineFault}
use Rattle.sim_engine.specs.declared.fault.EngineFault.TheVariants.{Loop, Memory}

-- a netlist, and what its registers hold now
pub record Running : Type 0 where
  pub netlist : Netlist
  pub registers : List ℕ

-- the least net that depends on itself through cells
pub record IsLeastLoop (n : Netlist) (net : ℕ) : Type 0 where
  pub depends : DependsOn n net net
  pub least : (other : ℕ) → DependsOn n other other → net ≤ other

-- One cycle: there is exactly one assignment for these inputs and what the registers hold. The outputs are its values
-- of their nets, and afterwards the registers hold its values of their next nets.
pub record RunsCycle (before : Running) (inputs shown : List ℕ) (after : Running) : Type 0 where
  pub netlist : after.netlist ≡ before.netlist
  pub one : HasOneCycle before.netlist (inputs ++ before.registers)
  pub outputs : shown ≡ map (λ (o : OutPort). one.value o.net) before.netlist.outputs
  pub registers : after.registers ≡ next_registers before.netlist one.value

-- the netlist with all registers at 0
abbrev pub opened : Netlist → Running
opened n = record { netlist = n; registers = first_registers n }

-- why there is no engine: the least net that depends on itself, or want of memory
abbrev pub IsFault : Netlist → EngineFault → Type 0
IsFault n (Loop net) = IsLeastLoop n net
IsFault n Memory = Unit {0}
