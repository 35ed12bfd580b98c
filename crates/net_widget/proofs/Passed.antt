-- Bits of what is done with a head.
use Rattle.std.proofs.Common.{◌≡◌, ℕ, Bool, true, false, ◌&&◌, ◌||◌, refl, ap, ◌∙◌, if◌then◌else◌}
use Rattle.std.specs.Prelude.{◌==◌, nat_lt}
use Rattle.net_build.specs.declared.types.Wire.{Wire}
use Rattle.net_build.specs.Built.{Built}
use Rattle.net_build.specs.Values.{Adds, Means, Tells, high}

pub both_first : (mid new : Built) (x y w : Wire) (f : (ℕ → ℕ) → Bool) → Adds mid new → Tells mid x f → Tells new w (λ v. high v x && high v y) → Tells new w (λ v. f v && high v y)
both_first mid new x y w f g h t = record { at = λ v s. t.at v s ∙ ap (λ (b : Bool). b && high v y) (h.at v (g.later.back v s)) }

pub both_second : (mid new : Built) (x y w : Wire) (f : (ℕ → ℕ) → Bool) → Adds mid new → Tells mid y f → Tells new w (λ v. high v x && high v y) → Tells new w (λ v. high v x && f v)
both_second mid new x y w f g h t = record { at = λ v s. t.at v s ∙ ap (λ (b : Bool). high v x && b) (h.at v (g.later.back v s)) }

pub either_first : (mid new : Built) (x y w : Wire) (f : (ℕ → ℕ) → Bool) → Adds mid new → Tells mid x f → Tells new w (λ v. high v x || high v y) → Tells new w (λ v. f v || high v y)
either_first mid new x y w f g h t = record { at = λ v s. t.at v s ∙ ap (λ (b : Bool). b || high v y) (h.at v (g.later.back v s)) }

bit_of : (b : Bool) → ((if b then 1 else 0) == 1) ≡ b
bit_of true = refl
bit_of false = refl

pub below_tells : (mid new : Built) (x bound w : Wire) (n : ℕ) → Adds mid new → Means mid bound (λ v. n) → Means new w (λ v. if nat_lt (v x.number) (v bound.number) then 1 else 0) → Tells new w (λ v. nat_lt (v x.number) n)
below_tells mid new x bound w n g m t = record {
  at = λ v s. ap (λ k. k == 1) (t.at v s) ∙ bit_of (nat_lt (v x.number) (v bound.number)) ∙ ap (nat_lt (v x.number)) (m.at v (g.later.back v s));
}
