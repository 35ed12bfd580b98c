use Rattle.std.proofs.Common.{subst, Option}
use Rattle.std.specs.Prelude.{ℕ, MatchOption}
use Rattle.net_cells.specs.Loops.{HasNoLoop}
use Rattle.sim_engine.specs.Running.{IsLeastLoop}
use Rattle.sim_engine.proofs.engine.loop_in.Goals as goal

pub unreachable-requires : goal.unreachable-requires
unreachable-requires c =
    let n = c.args.netlist.now in
    let h : HasNoLoop n = subst (λ (o : Option ℕ). MatchOption o (HasNoLoop n) (IsLeastLoop n)) c.in-Ok-None.field-0-is c.in-Ok-None.ensures in
    h c.requires.has.0 c.requires.has.1
