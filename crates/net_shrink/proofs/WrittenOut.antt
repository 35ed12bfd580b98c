-- What a shrinker does, written out.
use Rattle.std.proofs.Common.{refl}
use Rattle.net_shrink.specs.Shrinkers.{ShrinkerLaw}

pub as_written : ShrinkerLaw
as_written = record {
  begins = λ x below above. refl;
  takes = λ x. refl;
  goes_on = λ x. refl;
  waits = λ x below above. refl;
  returns = λ x. refl;
  keeps = λ x. refl;
  frees = λ x. refl;
  both = λ x. refl;
  after_both = λ x. refl;
}
