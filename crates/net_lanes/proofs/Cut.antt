-- Bits cut out of a wire.
use Rattle.std.proofs.Common.{◌≡◌, ℕ, ◌+◌, ◌-◌, ◌*◌, ◌/◌, ◌%◌, ◌^◌, ◌<◌, ◌≤◌, sym, ap, ◌∙◌, subst, arith}
use Rattle.std.proofs.Math.Nat.{pow-le-pow_right, mod-eq_of_lt}
use Rattle.net_build.specs.declared.types.Wire.{Wire}
use Rattle.net_build.specs.Built.{Built, IsWire}
use Rattle.net_build.specs.Values.{Adds, Means, Solves}
use Rattle.tl_pieces.specs.TwoBuses.{lanes_at}

pub fits_wire : (b : Built) (x : Wire) (v : ℕ → ℕ) → Solves b v → IsWire b x → v x.number < 2 ^ x.width
fits_wire b x v s h = subst (λ (w : ℕ). v x.number < 2 ^ w) h.has.1 (s.fits x.number h.has.0)

pub low_wide : (old mid new : Built) (x zeros w : Wire) (width : ℕ) → IsWire old x → x.width < width → Adds old mid → Adds mid new → Means mid zeros (λ v. 0) → Means new w (λ v. v zeros.number * 2 ^ x.width + v x.number) → Means new w (λ v. v x.number % 2 ^ width)
low_wide old mid new x zeros w width h l g k z m = record {
  at = λ v s.
      let s1 = k.later.back v s in
      let f : v x.number < 2 ^ x.width = fits_wire old x v (g.later.back v s1) h in
      let p : 2 ^ x.width ≤ 2 ^ width = pow-le-pow_right (omega arith) (omega arith) in
      let i : v x.number < 2 ^ width = omega arith in
      m.at v s ∙ ap (λ (n : ℕ). n * 2 ^ x.width + v x.number) (z.at v s1) ∙ omega (arith, sym (mod-eq_of_lt i));
}

pub low_cut : (b : Built) (x w : Wire) (width : ℕ) → 1 ≤ width → Means b w (λ v. v x.number / 2 ^ 0 % 2 ^ (width - 1 - 0 + 1)) → Means b w (λ v. v x.number % 2 ^ width)
low_cut b x w width o m = record {
  at = λ v s.
      let n : width - 1 - 0 + 1 ≡ width = omega arith in
      m.at v s ∙ ap (λ (k : ℕ). v x.number / 2 ^ 0 % 2 ^ k) n ∙ ap (λ (k : ℕ). k % 2 ^ width) (whole (v x.number));
}
  where
    whole : (n : ℕ) → n / 1 ≡ n
    whole n = omega arith

pub lane_cut : (b : Built) (x w : Wire) (unit place : ℕ) → 1 ≤ unit → Means b w (λ v. v x.number / 2 ^ (unit * place) % 2 ^ (unit * place + unit - 1 - unit * place + 1)) → Means b w (λ v. lanes_at 2 unit (unit * place) (v x.number))
lane_cut b x w unit place o m = record {
  at = λ v s.
      let n : unit * place + unit - 1 - unit * place + 1 ≡ unit = omega arith in
      m.at v s ∙ ap (λ (k : ℕ). v x.number / 2 ^ (unit * place) % 2 ^ k) n;
}
