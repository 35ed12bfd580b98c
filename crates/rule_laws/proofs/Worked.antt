-- The worked examples, each by computing it.
use Rattle.std.proofs.Common.{refl, arith}
use Rattle.dip_negotiate.specs.Negotiation.{no_masters}
use Rattle.dip_checks.specs.Checks.{design_checks}
use Rattle.rule_laws.specs.Examples.{RefusalExamples}

pub refusal_examples : RefusalExamples
unfolding design_checks lib.Count.ones lib.Count.count_trailing_zeros
refusal_examples = record {
  argument = record { down = λ ins. refl; up = λ outs. refl };
  alone = refl;
  together = omega arith;
  empty = (no_masters, refl, refl);
  wide = refl;
  width = refl;
  ids = refl;
  pieces = refl;
  passes = refl;
}
