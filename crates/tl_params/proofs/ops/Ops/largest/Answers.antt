use Rattle.std.proofs.Common.{◌≡◌, sym, subst, arith}
use Rattle.std.proofs.lemmas.Grind.{common_steps}
use Rattle.tl_params.specs.Operations.{largest, IsLargest}
use Rattle.tl_params.proofs.Largest.{largest_is}
use Rattle.tl_params.proofs.ops.Ops.largest.Goals as goal

pub returns-clause-largest : goal.returns-clause-largest
returns-clause-largest c =
    let v : c.max-9.result ≡ largest c.args.self.now = grind (arith, common_steps) in
    subst (λ n. IsLargest c.args.self.now n) (sym v) (largest_is c.args.self.now)
