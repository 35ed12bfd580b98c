use Rattle.sim_ports.specs.Sinks.{sinking}
use Rattle.port_tests.specs.SinkTest.{IsServed}
use Rattle.port_tests.proofs.served.do_parts.Given as goal

abbrev pub invariant-loop-part : goal.invariant-loop-part
invariant-loop-part g l =
    (goal.iterator-loop-part g).can_next l.part-iterator × (goal.iterator-loop-part g).is_finite l.part-iterator
    × IsServed l.served.width l.served.addresses.items l.served.request
    (sinking ((goal.Device-dyn g (l.served.driver.device.vtable, l.served.driver.device.value)).meaning l.served.driver.device.value) l.served.driver.port)
