-- Wires of one bit made of two.
use Rattle.std.proofs.Common.{ℕ, Bool, ◌&&◌, ◌||◌, ap, ◌∙◌}
use Rattle.net_build.specs.declared.types.Wire.{Wire}
use Rattle.net_build.specs.Built.{Built}
use Rattle.net_build.specs.Values.{Adds, Tells, high}

pub either_tells : (old new : Built) (x y w : Wire) (f : (ℕ → ℕ) → Bool) → Adds old new → Tells old y f → Tells new w (λ v. high v x || high v y) → Tells new w (λ v. high v x || f v)
either_tells old new x y w f g m n = record { at = λ v s. n.at v s ∙ ap (λ (c : Bool). high v x || c) (m.at v (g.later.back v s)) }

pub both_tells : (old new : Built) (x y w : Wire) (f : (ℕ → ℕ) → Bool) → Adds old new → Tells old y f → Tells new w (λ v. high v x && high v y) → Tells new w (λ v. high v x && f v)
both_tells old new x y w f g m n = record { at = λ v s. n.at v s ∙ ap (λ (c : Bool). high v x && c) (m.at v (g.later.back v s)) }
