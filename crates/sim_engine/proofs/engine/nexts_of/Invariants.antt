use Rattle.std.proofs.Common.{◌≡◌, ◌++◌, drop, map}
use Rattle.net_cells.specs.declared.netlist.Reg.{Reg}
use Rattle.sim_engine.specs.Orders.{position}
use Rattle.sim_engine.proofs.engine.nexts_of.Given as goal

abbrev pub invariant-loop-reg : goal.invariant-loop-reg
invariant-loop-reg l =
    l.places.items ++ map (λ (r : Reg). position l.first l.positions r.next) (drop l.reg-index l.regs) ≡ map (λ (r : Reg). position l.first l.positions r.next) l.regs
