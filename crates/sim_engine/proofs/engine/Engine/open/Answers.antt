use Rattle.std.proofs.Common.{ℕ, Option, Vec, Global, subst}
use Rattle.std.specs.Prelude.{MatchOption}
use Rattle.sim_engine.specs.Orders.{HasLoop, IsOrder}
use Rattle.sim_engine.proofs.Acyclic.{no_loop}
use Rattle.sim_engine.proofs.engine.Engine.open.Goals as goal

pub returns-in_ok-engine_of-in-Some : goal.returns-in_ok-engine_of-in-Some
returns-in_ok-engine_of-in-Some c =
    let n = c.args.netlist in
    let o : IsOrder n c.in-Some.order.items = subst (λ (o : Option (Vec ℕ Global)). MatchOption o (HasLoop n) (λ order. IsOrder n order.items)) c.in-Some.is c.in_ok-order.ensures in
    (no_loop n c.in-Some.order.items o, c.in_ok-engine_of-in-Some.ensures)
