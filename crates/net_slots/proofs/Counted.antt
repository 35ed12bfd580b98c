-- How many beats are left.
use Rattle.std.proofs.Common.{◌≡◌, ℕ, zero, suc, ◌+◌, ◌-◌, ◌%◌, ◌^◌, ◌<◌, Bool, true, false, [], ◌∷◌, refl, sym, ap, ◌∙◌, subst, arith, if◌then◌else◌}
use Rattle.std.specs.Prelude.{◌==◌}
use Rattle.std.proofs.Math.Nat.{add-mod_right, mod-eq_of_lt}
use Rattle.std.proofs.Math.Pow.{pow-lt}
use Rattle.net_build.specs.declared.types.Wire.{Wire}
use Rattle.net_build.specs.Built.{Built, IsUndriven, IsWire}
use Rattle.net_build.specs.Values.{Adds, Becomes, Drives, Later, Means, Opens, Tells, high}
use Rattle.net_build.proofs.DrivenLists.{drives_all_after, opened_all_driven}
use Rattle.net_build.proofs.Steps.{register_later}
use Rattle.net_slots.specs.declared.types.Counter.{Counter}
use Rattle.net_slots.specs.Slots.{left_then}
use Rattle.net_slots.specs.SlotWires.{IsCounter}

bit_of : (b : Bool) → ((if b then 1 else 0) == 1) ≡ b
bit_of true = refl
bit_of false = refl

pub none_tells : (old new : Built) (left none w : Wire) → Adds old new → Means old none (λ v. 0) → Means new w (λ v. if v left.number == v none.number then 1 else 0) → Tells new w (λ v. v left.number == 0)
none_tells old new left none w g n m = record { at = λ v s. ap (λ n. n == 1) (m.at v s) ∙ bit_of (v left.number == v none.number) ∙ ap (λ n. v left.number == n) (n.at v (g.later.back v s)) }

pub one_fits : (b : Built) (w : Wire) → IsWire b w → 1 < 2 ^ w.width
one_fits b w h = let l : 0 < w.width = omega (arith, h.sized.0) in let e : 2 ^ 0 < 2 ^ w.width = pow-lt l in e

less_one : (n m : ℕ) → n < m → (n == 0) ≡ false → (n + m - 1) % m ≡ n - 1
less_one zero m h e = absurd cc
less_one (suc n) m h e =
    let q : suc n + m - 1 ≡ n + m = omega arith in
    ap (λ k. k % m) q ∙ add-mod_right n m ∙ mod-eq_of_lt (omega arith) ∙ (omega arith)

pub left_means : (b0 b1 b2 b3 new : Built) (left idle go rest one less begun next : Wire) → Adds b0 b1 → Adds b1 b2 → Adds b2 b3 → Adds b3 new → IsWire b0 left
    → Tells b0 idle (λ v. v left.number == 0)
    → Means b1 one (λ v. 1) → Means b2 less (λ v. (v left.number + 2 ^ left.width - v one.number) % 2 ^ left.width)
    → Means b3 begun (λ v. if high v idle then v rest.number else v less.number) → Means new next (λ v. if high v go then v begun.number else v left.number)
    → Means new next (λ v. left_then (high v go) (v left.number) (v rest.number))
left_means b0 b1 b2 b3 new left idle go rest one less begun next g1 g2 g3 g4 wl o n l k m = record {
  at = λ v s.
      let s3 = g4.later.back v s in
      let s2 = g3.later.back v s3 in
      let s1 = g2.later.back v s2 in
      let s0 = g1.later.back v s1 in
      let fits : v left.number < 2 ^ left.width = subst (λ w. v left.number < 2 ^ w) wl.has.1 (s0.fits left.number wl.has.0) in
      let minus : v less.number ≡ (v left.number + 2 ^ left.width - 1) % 2 ^ left.width = l.at v s2 ∙ ap (λ x. (v left.number + 2 ^ left.width - x) % 2 ^ left.width) (n.at v s1) in
      m.at v s ∙ ap (λ x. if high v go then x else v left.number) (k.at v s3 ∙ ap (λ (c : Bool). if c then v rest.number else v less.number) (o.at v s0) ∙ at v (v left.number == 0) refl fits minus);
}
  where
    at : (v : ℕ → ℕ) (c : Bool) → (v left.number == 0) ≡ c → v left.number < 2 ^ left.width → v less.number ≡ (v left.number + 2 ^ left.width - 1) % 2 ^ left.width → (if c then v rest.number else v less.number) ≡ (if c then v rest.number else v left.number - 1)
    at v true e f q = refl
    at v false e f q = q ∙ less_one (v left.number) (2 ^ left.width) f e

pub alone_driven : (a b c d : Built) (w : Wire) → Opens a b (w.number ∷ []) → Adds b c → Drives c d w.number → Adds a d
alone_driven a b c d w o g k = opened_all_driven a b d (w.number ∷ []) o (drives_all_after b c d (w.number ∷ []) g (record { later = k.later; inputs = k.inputs; outputs = k.outputs; undriven = k.undriven }))

pub counts : (b1 b3 b4 new : Built) (go rest left next ends : Wire) → IsUndriven b1 left → Later b1 new → Later b3 new → Later b4 new
    → Means b3 next (λ v. left_then (high v go) (v left.number) (v rest.number)) → Tells b4 ends (λ v. v next.number == 0) → Becomes new left (λ v. v next.number)
    → IsCounter new go rest (record { left = left; ends = ends })
counts b1 b3 b4 new go rest left next ends u l1 l3 l4 m t k = record {
  starts = λ v a. a.holds left.number _ (register_later b1 new left l1 u.register).at refl;
  nexts = λ v w s q z. k.at v w s q z ∙ m.at v (l3.back v s);
  ends = λ v s. t.at v (l4.back v s) ∙ ap (λ n. n == 0) (m.at v (l3.back v s));
}
