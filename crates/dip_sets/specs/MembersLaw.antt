-- What the test of an address set finds, for every number.
use Rattle.std.specs.Prelude.{ℕ, ◌≡◌, ◌<◌, ◌^◌, ◌↔◌, IsTrue, bit_and}
use Rattle.dip_sets.specs.Sets.{Pattern, IsSet, In, is_in}

-- the test finds the members of a set, and they are addresses of 48 bits
pub record MembersLaw : Type 0 where
  pub test : (s : Pattern) (x : ℕ) → bit_and s.base s.mask ≡ 0 → IsTrue (is_in s x) ↔ In s x
  pub below : (s : Pattern) (x : ℕ) → IsSet s → In s x → x < 2 ^ 48
