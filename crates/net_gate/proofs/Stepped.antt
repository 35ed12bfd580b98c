-- The steps of one gate.
use Rattle.std.proofs.Common.{◌≡◌, ℕ, zero, suc, ◌+◌, ◌-◌, ◌%◌, ◌^◌, ◌<◌, Bool, true, false, List, [], ◌∷◌, length, get_or, replicate, refl, sym, ap, ◌∙◌, subst, arith, if◌then◌else◌}
use Rattle.std.specs.Prelude.{◌==◌}
use Rattle.std.proofs.Math.Nat.{add-mod_right, mod-eq_of_lt}
use Rattle.std.proofs.Math.Pow.{pow-lt}
use Rattle.std.proofs.lemmas.List.{length-map}
use Rattle.net_build.specs.declared.types.Wire.{Wire}
use Rattle.net_build.specs.Bits.{AreBits, TellsAll, highs, wire_values}
use Rattle.net_build.specs.Built.{Built, IsBit, IsWire}
use Rattle.net_build.specs.Folds.{AreOfOneWidth, chosen, first_width}
use Rattle.net_build.specs.Values.{Adds, Means, Tells, high}
use Rattle.net_build.proofs.Steps.{bit_made}
use Rattle.net_choice.specs.declared.rows.Pairing.TheVariants.{Both, Either}
use Rattle.net_choice.specs.Rows.{behind_of, paired, pairs}
use Rattle.net_gate.specs.Sides.{picked_rest}
use Rattle.net_table.specs.Tables.{AreEntries}

bit_of : (b : Bool) → ((if b then 1 else 0) == 1) ≡ b
bit_of true = refl
bit_of false = refl

pub open_tells : (old new : Built) (left none w : Wire) → Adds old new → Means old none (λ v. 0) → Means new w (λ v. if v left.number == v none.number then 1 else 0) → Tells new w (λ v. v left.number == 0)
open_tells old new left none w g n m = record { at = λ v s. ap (λ n. n == 1) (m.at v s) ∙ bit_of (v left.number == v none.number) ∙ ap (λ n. v left.number == n) (n.at v (g.later.back v s)) }

same_at : (b : Built) (n : ℕ) (w : Wire) → IsBit b w → (k : ℕ) (d : Wire) → k < length (replicate n w) → IsBit b (get_or (replicate n w) k d)
same_at b zero w h k d l = absurd (omega arith)
same_at b (suc n) w h zero d l = h
same_at b (suc n) w h (suc k) d l = same_at b n w h k d (omega arith)

pub same_bits : (b : Built) (n : ℕ) (w : Wire) (ws : List Wire) → ws ≡ replicate n w → IsBit b w → AreBits b ws
same_bits b n w ws e h = subst (AreBits b) (sym e) (record { each = same_at b n w h })

pub length_same : {A : Type 0} (n : ℕ) (x : A) → length (replicate n x) ≡ n
length_same zero x = refl
length_same (suc n) x = ap suc (length_same n x)

pub same_long : (n : ℕ) (w : Wire) (ws : List Wire) → ws ≡ replicate n w → length ws ≡ n
same_long n w ws e = ap length e ∙ length_same n w

pub highs_same : (v : ℕ → ℕ) (n : ℕ) (w : Wire) (ws : List Wire) → ws ≡ replicate n w → highs v ws ≡ replicate n (high v w)
highs_same v n w ws e = ap (highs v) e ∙ from n
  where
    from : (n : ℕ) → highs v (replicate n w) ≡ replicate n (high v w)
    from zero = refl
    from (suc n) = ap (λ bs. high v w ∷ bs) (from n)

pub may_tells : (b1 new : Built) (unlocked : Wire) (mine wants opens free may fs os : List Wire) → Adds b1 new
    → opens ≡ replicate (length mine) unlocked → os ≡ opens → fs ≡ free
    → TellsAll b1 free (λ v. pairs (paired Either) (highs v os) (highs v mine))
    → TellsAll new may (λ v. pairs (paired Both) (highs v wants) (highs v fs))
    → TellsAll new may (λ v. pairs (paired Both) (highs v wants) (pairs (paired Either) (replicate (length (highs v mine)) (high v unlocked)) (highs v mine)))
may_tells b1 new unlocked mine wants opens free may fs os g o p q f m = record {
  at = λ v s.
      let lm : length (highs v mine) ≡ length mine = length-map mine (high v) in
      m.at v s
      ∙ ap (λ zs. pairs (paired Both) (highs v wants) (highs v zs)) q
      ∙ ap (pairs (paired Both) (highs v wants)) (f.at v (g.later.back v s) ∙ ap (λ zs. pairs (paired Either) zs (highs v mine)) (highs_same v (length mine) unlocked os (p ∙ o) ∙ ap (λ n. replicate n (high v unlocked)) (sym lm)));
}

pub one_fits : (b : Built) (w : Wire) → IsWire b w → 1 < 2 ^ w.width
one_fits b w h = let l : 0 < w.width = omega (arith, h.sized.0) in let e : 2 ^ 0 < 2 ^ w.width = pow-lt l in e

less_one : (n m : ℕ) → n < m → (n == 0) ≡ false → (n + m - 1) % m ≡ n - 1
less_one zero m h e = absurd cc
less_one (suc n) m h e =
    let q : suc n + m - 1 ≡ n + m = omega arith in
    ap (λ k. k % m) q ∙ add-mod_right n m ∙ mod-eq_of_lt (omega arith) ∙ (omega arith)

pub left_means : (b0 b1 b2 b3 new : Built) (left unlocked go rest one less begun next : Wire) → Adds b0 b1 → Adds b1 b2 → Adds b2 b3 → Adds b3 new → IsWire b0 left
    → Tells b0 unlocked (λ v. v left.number == 0)
    → Means b1 one (λ v. 1) → Means b2 less (λ v. (v left.number + 2 ^ left.width - v one.number) % 2 ^ left.width)
    → Means b3 begun (λ v. if high v unlocked then v rest.number else v less.number) → Means new next (λ v. if high v go then v begun.number else v left.number)
    → Means new next (λ v. if high v go then (if v left.number == 0 then v rest.number else v left.number - 1) else v left.number)
left_means b0 b1 b2 b3 new left unlocked go rest one less begun next g1 g2 g3 g4 wl o n l k m = record {
  at = λ v s.
      let s3 = g4.later.back v s in
      let s2 = g3.later.back v s3 in
      let s1 = g2.later.back v s2 in
      let s0 = g1.later.back v s1 in
      let fits : v left.number < 2 ^ left.width = subst (λ w. v left.number < 2 ^ w) wl.has.1 (s0.fits left.number wl.has.0) in
      let minus : v less.number ≡ (v left.number + 2 ^ left.width - 1) % 2 ^ left.width = l.at v s2 ∙ ap (λ x. (v left.number + 2 ^ left.width - x) % 2 ^ left.width) (n.at v s1) in
      m.at v s ∙ ap (λ x. if high v go then x else v left.number) (k.at v s3 ∙ ap (λ (c : Bool). if c then v rest.number else v less.number) (o.at v s0) ∙ at v (v left.number == 0) refl fits minus);
}
  where
    at : (v : ℕ → ℕ) (c : Bool) → (v left.number == 0) ≡ c → v left.number < 2 ^ left.width → v less.number ≡ (v left.number + 2 ^ left.width - 1) % 2 ^ left.width → (if c then v rest.number else v less.number) ≡ (if c then v rest.number else v left.number - 1)
    at v true e f q = refl
    at v false e f q = q ∙ less_one (v left.number) (2 ^ left.width) f e

pub late_tells : (b1 new : Built) (begins : Wire) (grants late behinds next bs : List Wire) → Adds b1 new
    → TellsAll b1 behinds (λ v. behind_of false (highs v grants)) → bs ≡ behinds
    → TellsAll new next (λ v. if high v begins then highs v bs else highs v late)
    → TellsAll new next (λ v. if high v begins then behind_of false (highs v grants) else highs v late)
late_tells b1 new begins grants late behinds next bs h d e n = record {
  at = λ v s. n.at v s ∙ ap (λ zs. if high v begins then zs else highs v late) (ap (highs v) e ∙ d.at v (h.later.back v s));
}

pub chosen_picked : (v : ℕ → ℕ) (picks ws : List Wire) → chosen v picks ws ≡ picked_rest (highs v picks) (wire_values v ws)
chosen_picked v [] ws = refl
chosen_picked v (p ∷ picks) [] = refl
chosen_picked v (p ∷ picks) (w ∷ ws) = ap (λ x. if high v p then v w.number else x) (chosen_picked v picks ws)

first_wide : (ws : List Wire) (d : Wire) → 0 < length ws → first_width ws ≡ (get_or ws 0 d).width
first_wide [] d b = absurd (omega arith)
first_wide (w ∷ ws) d b = refl

no_wire : Wire
no_wire = record { number = 0; width = 0 }

pub one_width : (b : Built) (width : ℕ) (ws : List Wire) → 0 < length ws → AreEntries b width ws → AreOfOneWidth b ws
one_width b width ws l h k d c = let x = h.each k d c in (x.0, x.1 ∙ sym (first_wide ws no_wire l ∙ (h.each 0 no_wire l).1))

pub one_width_is : (b : Built) (width : ℕ) (ws : List Wire) → 0 < length ws → AreEntries b width ws → first_width ws ≡ width
one_width_is b width ws l h = first_wide ws no_wire l ∙ (h.each 0 no_wire l).1

pub rest_means : (b : Built) (w : Wire) (picks ws : List Wire) → Means b w (λ v. chosen v picks ws) → Means b w (λ v. picked_rest (highs v picks) (wire_values v ws))
rest_means b w picks ws m = record { at = λ v s. m.at v s ∙ chosen_picked v picks ws }

pub none_tells : (b : Built) (late out : List Wire) → length late ≡ 0 → out ≡ [] → TellsAll b out (λ v. highs v late)
none_tells b [] out l e = record { at = λ v s. ap (highs v) e }
none_tells b (w ∷ late) out l e = absurd (omega (arith, l))

pub late_is : (b : Built) (round : Bool) (begins : Wire) (grants late out : List Wire) → round ≡ true
    → TellsAll b out (λ v. if high v begins then behind_of false (highs v grants) else highs v late)
    → TellsAll b out (λ v. if round then (if high v begins then behind_of false (highs v grants) else highs v late) else highs v late)
late_is b true begins grants late out e t = t
late_is b false begins grants late out e t = absurd cc

pub ruleset spread_same = (same_bits, same_long)

pub ruleset left_steps = (one_fits, bit_made)
