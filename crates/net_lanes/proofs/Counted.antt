-- Narrow beats counted, and entries of kept addresses.
use Rattle.std.proofs.Common.{◌≡◌, ◌≢◌, ℕ, inl, inr, ◌+◌, ◌-◌, ◌*◌, ◌/◌, ◌%◌, ◌^◌, ◌<◌, ◌≤◌, Bool, true, false, List, get_or, refl, sym, ap, ◌∙◌, subst, arith, if◌then◌else◌}
use Rattle.std.specs.Prelude.{◌==◌, nat_le, cond}
use Rattle.std.proofs.Math.Nat.{mod-eq_of_lt, pow-le-pow_right, div-le_self}
use Rattle.std.proofs.lemmas.Bool.{cases_lt}
use Rattle.std.proofs.lemmas.Bool.Decides.{nat_tests}
use Rattle.tl_edge.specs.Beats.{data_beats}
use Rattle.net_build.specs.declared.types.Wire.{Wire}
use Rattle.net_build.specs.Bits.{wire_values}
use Rattle.net_build.specs.Built.{Built, IsWire}
use Rattle.net_build.specs.Values.{Adds, Means, Tells, high}
use Rattle.flow_core.specs.Turning.{number_after}
use Rattle.net_lanes.specs.Lanes.{AreTabled, MeansWhere, TellsWhere}
use Rattle.net_lanes.proofs.Cut.{fits_wire}
use Rattle.net_lanes.proofs.Tabled.{tabled_at}

pub last_means : (low mid new : Built) (size index w : Wire) (numbers rows : List Wire) (narrow : ℕ) → Adds low mid → Adds mid new → Means low index (λ v. v size.number % 2 ^ 4) → AreTabled mid 8 9 (λ v size. data_beats size narrow - 1) numbers → rows ≡ numbers
    → Means new w (λ v. get_or (wire_values v rows) (v index.number) 0) → MeansWhere new (λ v. v size.number ≤ 8) w (λ v. data_beats (v size.number) narrow - 1)
last_means low mid new size index w numbers rows narrow g h m t e k = record {
  at = λ v s l.
      let s1 = h.later.back v s in
      let small : v size.number < 2 ^ 4 = omega arith in
      let i : v index.number ≡ v size.number = m.at v (g.later.back v s1) ∙ mod-eq_of_lt small in
      k.at v s
      ∙ ap (λ (ws : List Wire). get_or (wire_values v ws) (v index.number) 0) e
      ∙ ap (λ (n : ℕ). get_or (wire_values v numbers) n 0) i
      ∙ tabled_at mid 8 9 (λ v size. data_beats size narrow - 1) numbers v (v size.number) t s1 (omega arith);
}

pub next_means : (a b c d : Built) (done one none more last w : Wire) → done.width ≡ 8 → Adds a b → Adds b c → Adds c d → Means a one (λ v. 1) → Means b none (λ v. 0) → Means c more (λ v. (v done.number + v one.number) % 2 ^ done.width) → Means d w (λ v. if v last.number == 1 then v none.number else v more.number)
    → Means d w (λ v. if high v last then 0 else (v done.number + 1) % 256)
next_means a b c d done one none more last w e g h k m z p t = record {
  at = λ v s.
      let s1 = k.later.back v s in
      let s2 = h.later.back v s1 in
      let s3 = g.later.back v s2 in
      let q : v more.number ≡ (v done.number + 1) % 256 = p.at v s1 ∙ ap (λ (n : ℕ). (v done.number + v one.number) % 2 ^ n) e ∙ ap (λ (n : ℕ). (v done.number + n) % 256) (m.at v s3) in
      t.at v s
      ∙ ap (λ (n : ℕ). if high v last then n else v more.number) (z.at v s2)
      ∙ ap (λ (n : ℕ). if high v last then 0 else n) q;
}

pub entry_means : (old new : Built) (one address w : Wire) → address.width ≡ 3 → Adds old new → Means old one (λ v. 1) → Means new w (λ v. v one.number * 2 ^ address.width + v address.number) → Means new w (λ v. 8 + v address.number)
entry_means old new one address w e g m t = record {
  at = λ v s.
      t.at v s
      ∙ ap (λ (n : ℕ). v one.number * 2 ^ n + v address.number) e
      ∙ ap (λ (n : ℕ). n * 8 + v address.number) (m.at v (g.later.back v s));
}

eq_yes : (a b : ℕ) → a ≡ b → (a == b) ≡ true
eq_yes a b e = grind (arith, nat_tests)

eq_no : (a b : ℕ) → a ≢ b → (a == b) ≡ false
eq_no a b e = grind (arith, nat_tests)

le_yes : (a b : ℕ) → a ≤ b → nat_le a b ≡ true
le_yes a b l = grind (arith, nat_tests)

le_no : (a b : ℕ) → b < a → nat_le a b ≡ false
le_no a b l = grind (arith, nat_tests)

high_of : (x : ℕ) → x < 16 → (x / 8 % 2 == 1) ≡ nat_le 8 x
high_of x l = elim (cases_lt x 8) [
  | inl s ↦ eq_no (x / 8 % 2) 1 (omega arith) ∙ sym (le_no 8 x s)
  | inr g ↦ eq_yes (x / 8 % 2) 1 (omega arith) ∙ sym (le_yes 8 x g)
]

pub known_tells : (low mid new : Built) (entry known : Wire) (f : (ℕ → ℕ) → ℕ) → IsWire low entry → entry.width ≡ 4 → Adds low mid → Adds mid new → Means low entry f → Means mid known (λ v. v entry.number / 2 ^ 3 % 2 ^ (3 - 3 + 1)) → Tells new known (λ v. nat_le 8 (f v))
known_tells low mid new entry known f h e g k m t = record {
  at = λ v s.
      let s1 = k.later.back v s in
      let s2 = g.later.back v s1 in
      let b : v entry.number < 16 = subst (λ (w : ℕ). v entry.number < 2 ^ w) e (fits_wire low entry v s2 h) in
      ap (λ (n : ℕ). n == 1) (t.at v s1) ∙ high_of (v entry.number) b ∙ ap (nat_le 8) (m.at v s2);
}

pub kept_means : (low mid new : Built) (entry address : Wire) (f : (ℕ → ℕ) → ℕ) → Adds low mid → Adds mid new → Means low entry f → Means new address (λ v. v entry.number / 2 ^ 0 % 2 ^ (2 - 0 + 1)) → Means new address (λ v. f v % 8)
kept_means low mid new entry address f g k m t = record {
  at = λ v s.
      t.at v s ∙ ap (λ (n : ℕ). n % 8) (whole (v entry.number) ∙ m.at v (g.later.back v (k.later.back v s)));
}
  where
    whole : (n : ℕ) → n / 1 ≡ n
    whole n = omega arith

-- ---- the last of a message's narrow beats

some_beats : (size narrow : ℕ) → 1 ≤ data_beats size narrow
some_beats size narrow = omega arith

few_beats : (size narrow : ℕ) → size ≤ 8 → data_beats size narrow ≤ 256
few_beats size narrow l =
    let p : 2 ^ size ≤ 2 ^ 8 = pow-le-pow_right (omega arith) l in
    omega (arith, p, div-le_self (2 ^ size) narrow)

is_last : (k n : ℕ) → 1 ≤ n → (k == n - 1) ≡ (k + 1 == n)
is_last k n o = grind (arith, nat_tests)

pub last_tells : (mid new : Built) (size done number last : Wire) (narrow bytes : ℕ) → bytes ≡ narrow → Adds mid new → MeansWhere mid (λ v. v size.number ≤ 8) number (λ v. data_beats (v size.number) bytes - 1) → Tells new last (λ v. v done.number == v number.number)
    → TellsWhere new (λ v. v size.number ≤ 8) last (λ v. v done.number + 1 == data_beats (v size.number) narrow)
last_tells mid new size done number last narrow bytes e g m t = record {
  at = λ v s l.
      t.at v s
      ∙ ap (λ (n : ℕ). v done.number == n) (m.at v (g.later.back v s) l ∙ ap (λ (n : ℕ). data_beats (v size.number) n - 1) e)
      ∙ is_last (v done.number) (data_beats (v size.number) narrow) (some_beats (v size.number) narrow);
}

pub tells_where_adds : (old new : Built) (P : (ℕ → ℕ) → Type 0) (w : Wire) (f : (ℕ → ℕ) → Bool) → Adds old new → TellsWhere old P w f → TellsWhere new P w f
tells_where_adds old new P w f g t = record { at = λ v s p. t.at v (g.later.back v s) p }

pub means_where_adds : (old new : Built) (P : (ℕ → ℕ) → Type 0) (w : Wire) (f : (ℕ → ℕ) → ℕ) → Adds old new → MeansWhere old P w f → MeansWhere new P w f
means_where_adds old new P w f g t = record { at = λ v s p. t.at v (g.later.back v s) p }

after_last : (c : Bool) (k n : ℕ) → (k + 1 == n) ≡ c → k < n → n ≤ 256 → (if c then 0 else (k + 1) % 256) ≡ cond c 0 (k + 1)
after_last true k n e l h = refl
after_last false k n e l h =
    let m : k + 1 < 256 = grind (arith, nat_tests) in
    mod-eq_of_lt m

pub next_after : (mid new : Built) (size done last next : Wire) (narrow : ℕ) → Adds mid new → TellsWhere mid (λ v. v size.number ≤ 8) last (λ v. v done.number + 1 == data_beats (v size.number) narrow) → Means new next (λ v. if high v last then 0 else (v done.number + 1) % 256)
    → MeansWhere new (λ v. (v size.number ≤ 8) × (v done.number < data_beats (v size.number) narrow)) next (λ v. number_after (data_beats (v size.number) narrow) (v done.number))
next_after mid new size done last next narrow g t m = record {
  at = λ v s p.
      let n = data_beats (v size.number) narrow in
      let k = v done.number in
      m.at v s
      ∙ ap (λ (c : Bool). if c then 0 else (k + 1) % 256) (t.at v (g.later.back v s) p.0)
      ∙ after_last (k + 1 == n) k n refl p.1 (few_beats (v size.number) narrow p.0);
}
