use Rattle.sim_ports.specs.Prepared.{IsPreparedAt}
use Rattle.sim_ports.specs.Sinks.{sinking}
use Rattle.port_tests.proofs.tried.try_parts.Given as goal

abbrev pub invariant-loop-part : goal.invariant-loop-part
invariant-loop-part g l =
    (goal.iterator-loop-part g).can_next l.part-iterator × (goal.iterator-loop-part g).is_finite l.part-iterator
    × IsPreparedAt l.tried.prepared.addresses
    (sinking ((goal.Device-dyn g (l.tried.driver.device.vtable, l.tried.driver.device.value)).meaning l.tried.driver.device.value) l.tried.driver.port)
