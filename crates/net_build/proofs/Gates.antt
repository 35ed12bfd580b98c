-- Operators on one bit.
use Rattle.std.proofs.Common.{◌≡◌, ℕ, zero, suc, ◌-◌, ◌^◌, ◌<◌, false, not, ◌&&◌, ◌||◌, refl, ap, ◌∙◌, subst, arith}
use Rattle.std.specs.Prelude.{◌==◌, bit_and, bit_or}
use Rattle.net_build.specs.declared.types.Wire.{Wire}
use Rattle.net_build.specs.Built.{Built, IsBit}
use Rattle.net_build.proofs.Steps.{bit_made, bit_wire}
use Rattle.net_build.specs.Values.{Adds, Means, Solves, Tells, high}

not_two : (n : ℕ) → n < 2 → (2 ^ 1 - 1 - n == 1) ≡ not (n == 1)
not_two zero h = refl
not_two (suc zero) h = refl
not_two (suc (suc n)) h = absurd (omega arith)

and_two : (n m : ℕ) → n < 2 → m < 2 → (bit_and n m == 1) ≡ ((n == 1) && (m == 1))
and_two zero zero h k = refl
and_two zero (suc zero) h k = refl
and_two zero (suc (suc m)) h k = absurd (omega arith)
and_two (suc zero) zero h k = refl
and_two (suc zero) (suc zero) h k = refl
and_two (suc zero) (suc (suc m)) h k = absurd (omega arith)
and_two (suc (suc n)) m h k = absurd (omega arith)

or_two : (n m : ℕ) → n < 2 → m < 2 → (bit_or n m == 1) ≡ ((n == 1) || (m == 1))
or_two zero zero h k = refl
or_two zero (suc zero) h k = refl
or_two zero (suc (suc m)) h k = absurd (omega arith)
or_two (suc zero) zero h k = refl
or_two (suc zero) (suc zero) h k = refl
or_two (suc zero) (suc (suc m)) h k = absurd (omega arith)
or_two (suc (suc n)) m h k = absurd (omega arith)

below_two : (b : Built) (x : Wire) (v : ℕ → ℕ) → Solves b v → IsBit b x → v x.number < 2
below_two b x v s h = subst (λ (w : ℕ). v x.number < 2 ^ w) (h.wire.has.1 ∙ h.one) (s.fits x.number h.wire.has.0)

pub not_tells : (old new : Built) (x w : Wire) → IsBit old x → Adds old new → Means new w (λ v. 2 ^ x.width - 1 - v x.number) → Tells new w (λ v. not (high v x))
not_tells old new x w b g m = record { at = λ v s. ap (λ n. n == 1) (m.at v s ∙ ap (λ n. 2 ^ n - 1 - v x.number) b.one) ∙ not_two (v x.number) (below_two old x v (g.later.back v s) b) }

pub and_tells : (old new : Built) (x y w : Wire) → IsBit old x → IsBit old y → Adds old new → Means new w (λ v. bit_and (v x.number) (v y.number)) → Tells new w (λ v. high v x && high v y)
and_tells old new x y w b c g m = record { at = λ v s. ap (λ n. n == 1) (m.at v s) ∙ and_two (v x.number) (v y.number) (below_two old x v (g.later.back v s) b) (below_two old y v (g.later.back v s) c) }

pub or_tells : (old new : Built) (x y w : Wire) → IsBit old x → IsBit old y → Adds old new → Means new w (λ v. bit_or (v x.number) (v y.number)) → Tells new w (λ v. high v x || high v y)
or_tells old new x y w b c g m = record { at = λ v s. ap (λ n. n == 1) (m.at v s) ∙ or_two (v x.number) (v y.number) (below_two old x v (g.later.back v s) b) (below_two old y v (g.later.back v s) c) }

pub zero_tells : (b : Built) (w : Wire) → Means b w (λ v. 0) → Tells b w (λ v. false)
zero_tells b w m = record { at = λ v s. ap (λ n. n == 1) (m.at v s) }

pub ruleset bits = (bit_made, bit_wire, zero_tells)
