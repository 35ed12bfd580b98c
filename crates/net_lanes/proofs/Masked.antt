-- The active lanes of a message without data.
use Rattle.std.proofs.Common.{◌≡◌, ℕ, ◌+◌, ◌-◌, ◌/◌, ◌%◌, ◌^◌, ◌<◌, ◌≤◌, Bool, true, cond, List, get_or, sym, ap, ◌∙◌, arith, inl, inr, if◌then◌else◌}
use Rattle.std.specs.Prelude.{◌==◌, IsTrue, nat_le, replicate}
use Rattle.std.proofs.lemmas.Bool.{cases_lt}
use Rattle.std.proofs.lemmas.Nat.{mod-pow-add, mod-mul-add, mod_below, pow_pos}
use Rattle.tl_edge.proofs.Active.{IsBus, bus_of}
use Rattle.std.proofs.Math.Nat.{mod-eq_of_lt}
use Rattle.std.proofs.lemmas.Bool.Decides.{nat_tests}
use Rattle.tl_params.specs.Arguments.{is_width}
use Rattle.tl_edge.specs.Beats.{active_mask, lane_count, on_lanes}
use Rattle.tl_edge.specs.Messages.{bytes_of}
use Rattle.tl_edge.proofs.Widths.{exponents-lt}
use Rattle.net_build.specs.declared.types.Wire.{Wire}
use Rattle.net_build.specs.Bits.{wire_values}
use Rattle.net_build.specs.Built.{Built}
use Rattle.net_build.specs.Values.{Adds, Means}
use Rattle.net_lanes.specs.Lanes.{AreTabled, MeansWhere, mask_where}
use Rattle.net_lanes.proofs.Tabled.{tabled_at}

eq_yes : (a b : ℕ) → a ≡ b → (a == b) ≡ true
eq_yes a b e = grind (arith, nat_tests)

from_yes : (a b : ℕ) → (a == b) ≡ true → a ≡ b
from_yes a b e = grind (arith, nat_tests)

pub mask_is : (width size address : ℕ) → address % bytes_of size ≡ 0 → mask_where width size address ≡ active_mask width size address
mask_is width size address e = ap (λ (c : Bool). if c then active_mask width size address else 0) (eq_yes (address % bytes_of size) 0 e)

pub masks_read : (low mid new : Built) (width : ℕ) (size address place index w : Wire) (ws rows : List Wire) → Adds low mid → Adds mid new → Means low place (λ v. v address.number % 2 ^ 3) → Means mid index (λ v. v size.number % 2 ^ 4)
    → AreTabled low width 9 (λ v size. mask_where width size (v place.number)) ws → rows ≡ ws → Means new w (λ v. get_or (wire_values v rows) (v index.number) 0)
    → ((v : ℕ → ℕ) → v address.number % bytes_of (v size.number) ≡ 0 → mask_where width (v size.number) (v address.number % 8) ≡ active_mask width (v size.number) (v address.number))
    → MeansWhere new (λ v. (v size.number ≤ 8) × (v address.number % bytes_of (v size.number) ≡ 0)) w (λ v. active_mask width (v size.number) (v address.number))
masks_read low mid new width size address place index w ws rows g h p i t e m f = record {
  at = λ v s q.
      let s1 = h.later.back v s in
      let s2 = g.later.back v s1 in
      let small : v size.number < 2 ^ 4 = omega (arith, q.0) in
      let n : v index.number ≡ v size.number = i.at v s1 ∙ mod-eq_of_lt small in
      m.at v s
      ∙ ap (λ (xs : List Wire). get_or (wire_values v xs) (v index.number) 0) e
      ∙ ap (λ (k : ℕ). get_or (wire_values v ws) k 0) n
      ∙ tabled_at low width 9 (λ v size. mask_where width size (v place.number)) ws v (v size.number) t s2 (omega (arith, q.0))
      ∙ ap (mask_where width (v size.number)) (p.at v s2)
      ∙ f v q.1;
}

low_low : (n j k : ℕ) → n % 2 ^ (j + k) % 2 ^ k ≡ n % 2 ^ k
low_low n j k = ap (λ (x : ℕ). x % 2 ^ k) (mod-pow-add n j k) ∙ mod-mul-add (n / 2 ^ k % 2 ^ j) (2 ^ k) (n % 2 ^ k) (mod_below n (2 ^ k) (pow_pos k))

none_of : (k : ℕ) → 0 % 2 ^ k ≡ 0
none_of k = mod-eq_of_lt (pow_pos k)

on_eight : (address size : ℕ) → address % 2 ^ size ≡ 0 → address % 8 % 2 ^ size ≡ 0
on_eight address size e = elim (cases_lt 3 size) [
  | inl l ↦
      let p : size - 3 + 3 ≡ size = omega arith in
      let z : address % 2 ^ (size - 3 + 3) ≡ 0 = ap (λ (k : ℕ). address % 2 ^ k) p ∙ e in
      let o : address % 8 ≡ 0 = sym (low_low address (size - 3) 3) ∙ ap (λ (x : ℕ). x % 8) z in
      ap (λ (x : ℕ). x % 2 ^ size) o ∙ none_of size
  | inr g ↦
      let p : 3 ≡ 3 - size + size = omega arith in
      ap (λ (k : ℕ). address % 2 ^ k % 2 ^ size) p ∙ low_low address (3 - size) size ∙ e
]

bus_low : (address width : ℕ) → IsBus width → address % 8 % width ≡ address % width
bus_low address width b =
    let few : b.exponent < 4 = exponents-lt b.exponent 4 (omega (arith, b.small, b.power)) in
    let p : 3 ≡ 3 - b.exponent + b.exponent = omega (arith, few) in
    ap (λ (w : ℕ). address % 8 % w) b.power
    ∙ ap (λ (k : ℕ). address % 2 ^ k % 2 ^ b.exponent) p
    ∙ low_low address (3 - b.exponent) b.exponent
    ∙ ap (λ (w : ℕ). address % w) (sym b.power)

-- the lanes go by the address on 8 lanes alone
pub mask_apart : (width size address : ℕ) → IsTrue (is_width width) → address % bytes_of size ≡ 0 → mask_where width size (address % 8) ≡ active_mask width size address
mask_apart width size address w e =
    mask_is width size (address % 8) (on_eight address size e)
    ∙ ap (λ (x : ℕ). on_lanes 2 (cond (nat_le width (bytes_of size)) 0 x) (replicate (lane_count width size) 1)) (bus_low address width (bus_of width w))
