use Rattle.std.proofs.Common.{w64, arith}
use Rattle.std.proofs.lemmas.Nat.Bits.{bit_at-trailing_ones}
use Rattle.dip_sets.proofs.Bits.{shifted_one}
use Rattle.dip_sets.proofs.set.AddressSet.alignment.Goals as goal

pub returns-clause-lowest : goal.returns-clause-lowest
returns-clause-lowest c =
    let t = bit_at-trailing_ones w64 c.self.inside.mask (omega (arith, c.self.invariant)) in
    rw (← c.self.view_is, c.trailing_ones.ensures) (_, shifted_one _ t.0, t.1, t.2)

pub returns-clause-value : goal.returns-clause-value
returns-clause-value c =
    let t = bit_at-trailing_ones w64 c.self.inside.mask (omega (arith, c.self.invariant)) in
    rw (← c.self.view_is, c.trailing_ones.ensures) (shifted_one _ t.0)
