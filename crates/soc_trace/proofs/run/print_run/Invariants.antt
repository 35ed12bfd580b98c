use Rattle.std.proofs.Common.{◌≡◌, ◌≤◌, length, map, take}
use Rattle.sim_ports.specs.Sinks.{sinking}
use Rattle.sim_drive.specs.Runs.{IsRunnable, IsRunOf}
use Rattle.soc_trace.proofs.Going.{IsGoing}
use Rattle.soc_trace.proofs.run.print_run.Given as goal

abbrev pub invariant-loop-cycle : goal.invariant-loop-cycle
invariant-loop-cycle g l = record {
  ran : l.run.ran ≡ l.cycle;
  cycles : l.run.cycles ≡ l.fn.run.cycles;
  ready : IsRunnable l.run (map (λ s. sinking ((goal.Device-dyn g (s.device.vtable, s.device.value)).meaning s.device.value) s.port) l.run.sinks.items);
  within : l.used ≤ length l.waiting;
  room : length l.waiting ≡ length l.fn.waiting;
  going : IsGoing (λ setup netlist. IsRunOf setup netlist 0 l.fn.run (map (λ s. sinking ((goal.Device-dyn g (s.device.vtable, s.device.value)).meaning s.device.value) s.port) l.fn.run.sinks.items))
      (λ setup netlist. IsRunOf setup netlist l.cycle l.run (map (λ s. sinking ((goal.Device-dyn g (s.device.vtable, s.device.value)).meaning s.device.value) s.port) l.run.sinks.items))
      l.cycle (g.O.Out.seen l.fn.out) (take l.used l.waiting) (g.O.Out.seen l.out);
  later : (g.O.Out.seen l.fn.out).faults ≤ (g.O.Out.seen l.out).faults;
}
