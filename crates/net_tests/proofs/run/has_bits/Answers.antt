use Rattle.std.proofs.Common.{◌^◌, ◌<◌, ◌≤◌, arith, refl}
use Rattle.net_cells.proofs.Nets.{wide_bits}
use Rattle.net_tests.proofs.run.has_bits.Goals as goal

pub returns-then-width-ge-BITS : goal.returns-then-width-ge-BITS
returns-then-width-ge-BITS c =
    let small : c.args.value < 2 ^ 64 = omega arith in
    let wide : 64 ≤ c.args.width = omega arith in
    (λ _. wide_bits c.args.value c.args.width small wide, λ _. refl)
