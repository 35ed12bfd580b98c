-- Tests joined by `&&` and `||`, and that of a number with itself.
use Rattle.std.proofs.Common.{◌≡◌, refl, ℕ, Bool, true, false, ◌&&◌, ◌||◌, ◌==◌, arith}
use Rattle.std.proofs.lemmas.Bool.Decides.{nat_tests}

-- both tests of a conjunction that holds
pub both : (a b : Bool) → (a && b) ≡ true → (a ≡ true) × (b ≡ true)
both true b h = (refl, h)
both false b h = absurd (cc)

-- neither test of a choice that doesn't
pub neither : (a b : Bool) → (a || b) ≡ false → (a ≡ false) × (b ≡ false)
neither true b h = (cc)
neither false b h = (refl, h)

-- a number is itself
pub own_number : (n : ℕ) → (n == n) ≡ true
own_number n = grind (arith, nat_tests)
