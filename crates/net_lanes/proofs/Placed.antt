-- A wire as one lane of many.
use Rattle.std.proofs.Common.{◌≡◌, ◌≢◌, ℕ, ◌+◌, ◌*◌, ◌^◌, ◌<◌, ◌≤◌, Bool, true, false, refl, sym, ap, ◌∙◌, subst, arith, inl, inr, if◌then◌else◌}
use Rattle.std.specs.Prelude.{◌==◌, nat_lt, bit_or}
use Rattle.std.proofs.Math.Nat.{mul-zero}
use Rattle.std.proofs.lemmas.Bool.{cases_lt, cases_eq}
use Rattle.std.proofs.lemmas.Bool.Decides.{nat_tests}
use Rattle.net_build.specs.declared.types.Wire.{Wire}
use Rattle.net_build.specs.Built.{Built, IsWire}
use Rattle.net_build.specs.Values.{Adds, Means, Tells}
use Rattle.net_lanes.proofs.Cut.{fits_wire}

pub here_means : (low mid new : Built) (at none x index w : Wire) (place : ℕ) → Adds low mid → Adds mid new → Tells low at (λ v. v index.number == place) → Means mid none (λ v. 0) → Means new w (λ v. if v at.number == 1 then v x.number else v none.number) → Means new w (λ v. if v index.number == place then v x.number else 0)
here_means low mid new at none x index w place g h t z m = record {
  at = λ v s.
      let s1 = h.later.back v s in
      m.at v s
      ∙ ap (λ (c : Bool). if c then v x.number else v none.number) (t.at v (g.later.back v s1))
      ∙ ap (λ (n : ℕ). if v index.number == place then v x.number else n) (z.at v s1);
}

-- the lanes below a place
abbrev pub lanes_below : ℕ → ℕ → ℕ → ℕ → ℕ
lanes_below unit place index x = if nat_lt index place then x * 2 ^ (unit * index) else 0

lt_yes : (a b : ℕ) → a < b → nat_lt a b ≡ true
lt_yes a b l = grind (arith, nat_tests)

lt_no : (a b : ℕ) → b ≤ a → nat_lt a b ≡ false
lt_no a b l = grind (arith, nat_tests)

eq_yes : (a b : ℕ) → a ≡ b → (a == b) ≡ true
eq_yes a b e = grind (arith, nat_tests)

eq_no : (a b : ℕ) → a ≢ b → (a == b) ≡ false
eq_no a b e = grind (arith, nat_tests)

pub lanes_more : (unit place index x : ℕ) → (if index == place then x else 0) * 2 ^ (unit * place) + lanes_below unit place index x ≡ lanes_below unit (place + 1) index x
lanes_more unit place index x = elim (cases_eq index place) [
  | inl e ↦ rw (eq_yes index place e, lt_no index place (omega (arith, e)), lt_yes index (place + 1) (omega (arith, e)), e) (omega arith)
  | inr n ↦ elim (cases_lt index place) [
    | inl l ↦ rw (eq_no index place n, lt_yes index place l, lt_yes index (place + 1) (omega arith)) (omega arith)
    | inr g ↦ rw (eq_no index place n, lt_no index place g, lt_no index (place + 1) (omega arith)) (omega arith)
  ]
]

first_lane : (unit index x : ℕ) → (if index == 0 then x else 0) ≡ lanes_below unit 1 index x
first_lane unit index x = elim (cases_eq index 0) [
  | inl e ↦ rw (eq_yes index 0 e, lt_yes index 1 (omega (arith, e)), e, mul-zero unit) (omega arith)
  | inr n ↦ rw (eq_no index 0 n, lt_no index 1 (omega arith)) refl
]

pub first_below : (b : Built) (w x index : Wire) → Means b w (λ v. if v index.number == 0 then v x.number else 0) → Means b w (λ v. lanes_below x.width 1 (v index.number) (v x.number))
first_below b w x index m = record { at = λ v s. m.at v s ∙ first_lane x.width (v index.number) (v x.number) }

pub more_below : (mid new : Built) (lanes w x index : Wire) (place : ℕ) → Adds mid new → lanes.width ≡ x.width * place → Means mid lanes (λ v. lanes_below x.width place (v index.number) (v x.number))
    → Means new w (λ v. (if v index.number == place then v x.number else 0) * 2 ^ lanes.width + v lanes.number) → Means new w (λ v. lanes_below x.width (place + 1) (v index.number) (v x.number))
more_below mid new lanes w x index place g e h m = record {
  at = λ v s.
      m.at v s
      ∙ ap (λ (n : ℕ). (if v index.number == place then v x.number else 0) * 2 ^ n + v lanes.number) e
      ∙ ap (λ (n : ℕ). (if v index.number == place then v x.number else 0) * 2 ^ (x.width * place) + n) (h.at v (g.later.back v s))
      ∙ lanes_more x.width place (v index.number) (v x.number);
}

pub all_below : (b c : Built) (w x index : Wire) (count : ℕ) → Adds b c → IsWire b index → count ≡ 2 ^ index.width → Means c w (λ v. lanes_below x.width count (v index.number) (v x.number)) → Means c w (λ v. v x.number * 2 ^ (x.width * v index.number))
all_below b c w x index count g h e m = record {
  at = λ v s.
      let l : v index.number < count = subst (λ (n : ℕ). v index.number < n) (sym e) (fits_wire b index v (g.later.back v s) h) in
      m.at v s ∙ ap (λ (t : Bool). if t then v x.number * 2 ^ (x.width * v index.number) else 0) (lt_yes (v index.number) count l);
}

pub placed_means : (mid new : Built) (lane lanes w x index : Wire) (place : ℕ) → Adds mid new → lane.width ≡ x.width → Means mid lane (λ v. if v index.number == place then v x.number else 0) → Means new w (λ v. v lane.number * 2 ^ lanes.width + v lanes.number) → Means new w (λ v. (if v index.number == place then v x.number else 0) * 2 ^ lanes.width + v lanes.number)
placed_means mid new lane lanes w x index place g e m t = record {
  at = λ v s. t.at v s ∙ ap (λ (n : ℕ). n * 2 ^ lanes.width + v lanes.number) (m.at v (g.later.back v s));
}

pub collected_means : (mid new : Built) (collected lane w x index : Wire) → Adds mid new → Means mid lane (λ v. v x.number * 2 ^ (x.width * v index.number)) → Means new w (λ v. bit_or (v collected.number) (v lane.number)) → Means new w (λ v. bit_or (v collected.number) (v x.number * 2 ^ (x.width * v index.number)))
collected_means mid new collected lane w x index g m t = record { at = λ v s. t.at v s ∙ ap (bit_or (v collected.number)) (m.at v (g.later.back v s)) }
