use Rattle.std.proofs.Common.{◌-◌, ◌/◌, drop, ◌∙◌, set, ap, sym, subst, arith}
use Rattle.soc_report.proofs.HexadecimalDigits.{IsWritten, all_written, none_written, one_more_written, some_place}
use Rattle.soc_report.proofs.hexadecimal.write_digits.Goals as goal

pub loop-rest-init : goal.loop-rest-init
loop-rest-init c = none_written c.args.number c.args.into.now (omega (arith, c.told-into, c.fits-into)) c.ranges.number.fits

pub loop-rest-preserved : goal.loop-rest-preserved
loop-rest-preserved c =
    let at = c.loop-rest.at in
    let rest = c.loop-rest.rest in
    let some = some_place c.args.number at rest c.loop-rest.into c.loop-rest.invariant (omega (arith, c.loop-rest-test.true)) in
    subst (λ d. IsWritten c.args.number (at - 1) (rest / 16) (set c.loop-rest.into at d)) (sym c.glyph.ensures)
    (one_more_written c.args.number at (at - 1) rest c.loop-rest.into c.loop-rest.invariant (omega (arith, c.loop-rest-test.true)) (omega (arith, some)))

pub returns-clause-text : goal.returns-clause-text
returns-clause-text c =
    ap (λ d. drop c.loop-rest.at (set c.loop-rest.into c.loop-rest.at d)) c.glyph-2.ensures
    ∙ all_written c.args.number c.loop-rest.at c.loop-rest.rest c.loop-rest.into c.loop-rest.invariant (omega (arith, c.loop-rest-test.false))
