use Rattle.std.proofs.Common.{arith, ◌≡◌, sym, subst}
use Rattle.std.proofs.lemmas.Grind.{common_steps}
use Rattle.tl_params.specs.Owners.{largest_end, IsLargestEnd}
use Rattle.tl_params.proofs.Largest.{largest_end_is}
use Rattle.tl_params.proofs.ports.largest_end.Goals as goal

pub returns-clause-largest : goal.returns-clause-largest
returns-clause-largest c =
    let v : c.loop-master.largest ≡ largest_end c.args.port.now.masters = grind (arith, common_steps) in
    subst (λ n. IsLargestEnd c.args.port.now.masters n) (sym v) (largest_end_is c.args.port.now.masters)
