use Rattle.std.proofs.Common.{refl}
use Rattle.net_build.proofs.Folded.{bits_adds}
use Rattle.net_build.proofs.Steps.{bit_adds}
use Rattle.net_gate.proofs.gate.serve.Goals as goal

pub returns-clause-serving : goal.returns-clause-serving
returns-clause-serving c = record {
  grants = bits_adds _ _ c.args.granted.grants c.in_ok-items.ensures.adds c.requires.bits.1;
  long = refl;
  valid = bit_adds _ _ c.args.granted.some c.in_ok-items.ensures.adds c.requires.bits.0;
  row = record { long = c.in_ok-items.ensures.long; wires = c.in_ok-items.ensures.wires };
}
