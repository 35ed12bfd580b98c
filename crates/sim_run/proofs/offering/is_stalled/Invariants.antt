use Rattle.std.proofs.Common.{◌≡◌, drop}
use Rattle.sim_events.specs.Setups.{is_stalled}
use Rattle.sim_run.proofs.offering.is_stalled.Given as goal

abbrev pub invariant-loop-stall : goal.invariant-loop-stall
invariant-loop-stall l =
    is_stalled (drop l.stall-index l.stalls) l.source l.port l.on_a l.cycle ≡ is_stalled l.stalls l.source l.port l.on_a l.cycle
