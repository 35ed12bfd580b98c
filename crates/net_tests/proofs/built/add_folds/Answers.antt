use Rattle.net_build.proofs.Folded.{two_bits, two_values}
use Rattle.net_build.proofs.Steps.{adds_adds, bit_adds}
use Rattle.net_tests.proofs.built.add_folds.Goals as goal

pub firsts-requires : goal.firsts-requires
firsts-requires c =
    let a = adds_adds _ _ _ c.in_ok-any.ensures.adds c.in_ok-none.ensures.adds in
    record {
      before = c.in_ok-none.ensures.bit;
      wires = two_bits _ c.args.y c.args.x (bit_adds _ _ c.args.y a c.requires.1) (bit_adds _ _ c.args.x a c.requires.0);
    }

pub choose-requires-clause-values : goal.choose-requires-clause-values
choose-requires-clause-values c =
    let a = adds_adds _ _ _ (adds_adds _ _ _ c.in_ok-any.ensures.adds c.in_ok-none.ensures.adds) c.in_ok-firsts.ensures.adds in
    two_values _ c.args.y c.args.x (bit_adds _ _ c.args.y a c.requires.1) (bit_adds _ _ c.args.x a c.requires.0)
