-- The stalls of a stimulus file, and rule 4 of each.
use Rattle.std.specs.Prelude.{ℕ, List, Bool, true, false, Option, None, is_none}
use Rattle.std.specs.Option.{option_and_then, option_map, option_or}
use Rattle.toml.specs.Data.{Data, table, Members}
use Rattle.tl_edge.specs.declared.plan.PlanPort.{PlanPort}
use Rattle.sim_ports.specs.declared.stimulus.Stall.{Stall}
use Rattle.soc_stimulus.specs.declared.limits.LimitedStall.{LimitedStall}
use Rattle.soc_stimulus.specs.Ports.{named_port}
use Rattle.soc_stimulus.specs.Stated.{stall_in}

-- the stall of a source port or a sink port, by its number
abbrev pub stall_with : Bool → LimitedStall → ℕ → Stall
stall_with source numbers port =
    record { source = source; port = port; on_a = numbers.on_a; start = numbers.start; end = numbers.end }

-- the stall of the port that its table names, a source port or a sink port
abbrev pub stall_at : List (List ℕ) → List PlanPort → List PlanPort → Members → LimitedStall → Option Stall
stall_at names sources sinks ms numbers =
    option_or (option_map (stall_with true numbers) (named_port names sources numbers.port ms))
    (option_map (stall_with false numbers) (named_port names sinks numbers.port ms))

-- the stall of a table, where its numbers are within the limits and it names such a port
abbrev pub stall_of : List (List ℕ) → List PlanPort → List PlanPort → Data → Option Stall
stall_of names sources sinks (table ms) = option_and_then (stall_at names sources sinks ms) (stall_in ms)
stall_of names sources sinks d = None

-- rule 4 of the table of a stall: it names no port of a source or a sink
abbrev pub stall_is_unnamed : List (List ℕ) → List PlanPort → List PlanPort → ℕ → Data → Bool
stall_is_unnamed names sources sinks place d = is_none (stall_of names sources sinks d)
