-- Where narrow beats begin in their wide ones.
use Rattle.std.proofs.Common.{◌≡◌, ℕ, ◌+◌, ◌-◌, ◌*◌, ◌/◌, ◌%◌, ◌^◌, ◌<◌, ◌≤◌, sym, ap, ◌∙◌, subst, arith}
use Rattle.std.specs.Prelude.{◌==◌}
use Rattle.std.proofs.Math.Nat.{mod-eq_of_lt, mod-add-mod, add-mod-mod}
use Rattle.std.proofs.lemmas.Nat.{pow-add, shl-shr, shr_below, one_shl, pow_below}
use Rattle.net_build.specs.declared.types.Wire.{Wire}
use Rattle.net_build.specs.Built.{Built, IsWire}
use Rattle.net_build.specs.Values.{Adds, Means, Tells}
use Rattle.net_lanes.specs.declared.places.Buses.{Buses}
use Rattle.net_lanes.specs.Lanes.{AreTwo}
use Rattle.net_lanes.proofs.Cut.{fits_wire}

eightfold : (k n : ℕ) → n ≤ 3 → k * 2 ^ 3 ≡ k * 2 ^ n * 2 ^ (3 - n)
eightfold k n l =
    let e : n + (3 - n) ≡ 3 = omega arith in
    let p : 2 ^ 3 ≡ 2 ^ n * 2 ^ (3 - n) = ap (λ (i : ℕ). 2 ^ i) (sym e) ∙ pow-add 2 n (3 - n) in
    ap (λ (x : ℕ). k * x) p ∙ assoc k (2 ^ n) (2 ^ (3 - n))
  where
    assoc : (a b c : ℕ) → a * (b * c) ≡ a * b * c
    assoc a b c = omega arith

shifted : (k n w : ℕ) → n ≤ 3 → 1 ≤ w → (k * 2 ^ 3 + 0) / 2 ^ (3 - n) % 2 ^ (3 - n + w - 1 - (3 - n) + 1) ≡ k * 2 ^ n % 2 ^ w
shifted k n w l o =
    let e : 3 - n + w - 1 - (3 - n) + 1 ≡ w = omega arith in
    let p : k * 2 ^ 3 + 0 ≡ k * 2 ^ n * 2 ^ (3 - n) = omega (arith, eightfold k n l) in
    ap (λ (i : ℕ). (k * 2 ^ 3 + 0) / 2 ^ (3 - n) % 2 ^ i) e
    ∙ ap (λ (x : ℕ). x / 2 ^ (3 - n) % 2 ^ w) p
    ∙ ap (λ (x : ℕ). x % 2 ^ w) (shl-shr (k * 2 ^ n) (3 - n))

pub bytes_mean : (low mid new : Built) (done zeros wide w : Wire) (buses : Buses) → AreTwo buses → Adds low mid → Adds mid new → zeros.width ≡ 3 → Means low zeros (λ v. 0) → Means mid wide (λ v. v done.number * 2 ^ zeros.width + v zeros.number)
    → Means new w (λ v. v wide.number / 2 ^ (3 - buses.narrow) % 2 ^ (3 - buses.narrow + buses.wide - 1 - (3 - buses.narrow) + 1)) → Means new w (λ v. v done.number * 2 ^ buses.narrow % 2 ^ buses.wide)
bytes_mean low mid new done zeros wide w buses t g h z m k t2 = record {
  at = λ v s.
      let s1 = h.later.back v s in
      let e : v wide.number ≡ v done.number * 2 ^ 3 + 0 = k.at v s1 ∙ ap (λ (n : ℕ). v done.number * 2 ^ n + v zeros.number) z ∙ ap (λ (n : ℕ). v done.number * 2 ^ 3 + n) (m.at v (g.later.back v s1)) in
      t2.at v s
      ∙ ap (λ (n : ℕ). n / 2 ^ (3 - buses.narrow) % 2 ^ (3 - buses.narrow + buses.wide - 1 - (3 - buses.narrow) + 1)) e
      ∙ shifted (v done.number) buses.narrow buses.wide (omega (arith, t.order, t.small)) (omega (arith, t.order));
}

pub here_sum : (low mid new : Built) (first bytes address done w : Wire) (buses : Buses) → Adds low mid → Adds mid new → first.width ≡ buses.wide → Means low first (λ v. v address.number % 2 ^ buses.wide) → Means mid bytes (λ v. v done.number * 2 ^ buses.narrow % 2 ^ buses.wide)
    → Means new w (λ v. (v first.number + v bytes.number) % 2 ^ first.width) → Means new w (λ v. (v address.number + v done.number * 2 ^ buses.narrow) % 2 ^ buses.wide)
here_sum low mid new first bytes address done w buses g h e f m t = record {
  at = λ v s.
      let s1 = h.later.back v s in
      let a = v address.number in
      let d = v done.number * 2 ^ buses.narrow in
      t.at v s
      ∙ ap (λ (n : ℕ). (v first.number + v bytes.number) % 2 ^ n) e
      ∙ ap (λ (n : ℕ). (n + v bytes.number) % 2 ^ buses.wide) (f.at v (g.later.back v s1))
      ∙ ap (λ (n : ℕ). (a % 2 ^ buses.wide + n) % 2 ^ buses.wide) (m.at v s1)
      ∙ mod-add-mod a (2 ^ buses.wide) (d % 2 ^ buses.wide)
      ∙ add-mod-mod a d (2 ^ buses.wide);
}

pub index_means : (old new : Built) (here w : Wire) (buses : Buses) → AreTwo buses → IsWire old here → here.width ≡ buses.wide → Adds old new → Means new w (λ v. v here.number / 2 ^ buses.narrow % 2 ^ (buses.wide - 1 - buses.narrow + 1)) → Means new w (λ v. v here.number / 2 ^ buses.narrow)
index_means old new here w buses t h e g m = record {
  at = λ v s.
      let n : buses.wide - 1 - buses.narrow + 1 ≡ buses.wide - buses.narrow = omega (arith, t.order) in
      let f : v here.number < 2 ^ here.width = fits_wire old here v (g.later.back v s) h in
      let j : here.width ≡ buses.wide - buses.narrow + buses.narrow = omega (arith, t.order, e) in
      let l : v here.number < 2 ^ (buses.wide - buses.narrow + buses.narrow) = subst (λ (i : ℕ). v here.number < 2 ^ i) j f in
      m.at v s
      ∙ ap (λ (i : ℕ). v here.number / 2 ^ buses.narrow % 2 ^ i) n
      ∙ mod-eq_of_lt (shr_below (v here.number) (buses.wide - buses.narrow) buses.narrow l);
}

pub step_small : (buses : Buses) → AreTwo buses → 1 * 2 ^ buses.narrow % 2 ^ 64 < 2 ^ buses.wide
step_small buses t = omega (arith, one_shl buses.narrow 64 (omega (arith, t.order, t.small)), pow_below buses.narrow buses.wide t.order)

pub turns_tell : (low mid new : Built) (here step next w : Wire) (buses : Buses) → AreTwo buses → here.width ≡ buses.wide → Adds low mid → Adds mid new → Means low step (λ v. 1 * 2 ^ buses.narrow % 2 ^ 64) → Means mid next (λ v. (v here.number + v step.number) % 2 ^ here.width) → Tells new w (λ v. v next.number == 0)
    → Tells new w (λ v. (v here.number + 2 ^ buses.narrow) % 2 ^ buses.wide == 0)
turns_tell low mid new here step next w buses t e g h m k z = record {
  at = λ v s.
      let s1 = h.later.back v s in
      let p : v step.number ≡ 2 ^ buses.narrow = m.at v (g.later.back v s1) ∙ one_shl buses.narrow 64 (omega (arith, t.order, t.small)) in
      z.at v s
      ∙ ap (λ (n : ℕ). n == 0)
      (k.at v s1
      ∙ ap (λ (n : ℕ). (v here.number + v step.number) % 2 ^ n) e
      ∙ ap (λ (n : ℕ). (v here.number + n) % 2 ^ buses.wide) p);
}

one_more : (a k n w : ℕ) → ((a + k * n) % w + n) % w ≡ (a + (k + 1) * n) % w
one_more a k n w = mod-add-mod (a + k * n) w n ∙ ap (λ (x : ℕ). x % w) (sum a k n)
  where
    sum : (a k n : ℕ) → a + k * n + n ≡ a + (k + 1) * n
    sum a k n = omega arith

pub turn_placed : (low new : Built) (begin turn address done : Wire) (buses : Buses) → Adds low new → Means low begin (λ v. (v address.number + v done.number * 2 ^ buses.narrow) % 2 ^ buses.wide) → Tells new turn (λ v. (v begin.number + 2 ^ buses.narrow) % 2 ^ buses.wide == 0)
    → Tells new turn (λ v. (v address.number + (v done.number + 1) * 2 ^ buses.narrow) % 2 ^ buses.wide == 0)
turn_placed low new begin turn address done buses g m t = record {
  at = λ v s.
      t.at v s
      ∙ ap (λ (n : ℕ). (n + 2 ^ buses.narrow) % 2 ^ buses.wide == 0) (m.at v (g.later.back v s))
      ∙ ap (λ (n : ℕ). n == 0) (one_more (v address.number) (v done.number) (2 ^ buses.narrow) (2 ^ buses.wide));
}

pub lane_placed : (low new : Built) (begin lane address done : Wire) (buses : Buses) → Adds low new → Means low begin (λ v. (v address.number + v done.number * 2 ^ buses.narrow) % 2 ^ buses.wide) → Means new lane (λ v. v begin.number / 2 ^ buses.narrow)
    → Means new lane (λ v. (v address.number + v done.number * 2 ^ buses.narrow) % 2 ^ buses.wide / 2 ^ buses.narrow)
lane_placed low new begin lane address done buses g m t = record { at = λ v s. t.at v s ∙ ap (λ (n : ℕ). n / 2 ^ buses.narrow) (m.at v (g.later.back v s)) }
