use Rattle.std.proofs.Common.{subst}
use Rattle.sim_engine.specs.declared.fault.EngineFault.{EngineFault}
use Rattle.sim_engine.specs.Running.{IsFault, IsLeastLoop}
use Rattle.sim_drive.proofs.run.engine_of.Goals as goal

pub unreachable-requires : goal.unreachable-requires
unreachable-requires c =
    let loop : IsLeastLoop c.args.netlist c.in-Err-Loop.field-0-0 = subst (λ (fault : EngineFault). IsFault c.args.netlist fault) c.in-Err-Loop.field-0-is c.in-Err-Loop.ensures in
    c.requires.no_loop c.in-Err-Loop.field-0-0 loop.depends
