-- Wires at places, one further, and one of them read.
use Rattle.std.proofs.Common.{◌≡◌, ℕ, ◌+◌, ◌^◌, ◌<◌, List, [], ◌∷◌, ◌++◌, length, get_or, refl, sym, ap, ◌∙◌, subst, arith, inl, inr}
use Rattle.std.proofs.lemmas.Bool.{cases_lt}
use Rattle.std.proofs.lemmas.List.{get_or_append_left, get_or_push, length_push, get_or-map}
use Rattle.net_build.specs.declared.types.Wire.{Wire}
use Rattle.net_build.specs.Bits.{wire_values}
use Rattle.net_build.specs.Built.{Built, IsWire}
use Rattle.net_build.specs.Values.{Adds, Later, Means, Solves}
use Rattle.net_table.proofs.Indexed.{entries_more}
use Rattle.net_lanes.specs.Lanes.{AreTabled}
use Rattle.net_lanes.proofs.Cut.{fits_wire}

pub tabled_none : (b : Built) (width : ℕ) (f : (ℕ → ℕ) → ℕ → ℕ) → AreTabled b width 0 f []
tabled_none b width f = record {
  long = refl;
  entries = record { each = λ k d l. absurd (omega (arith, l)) };
  each = λ v k d s l. absurd (omega (arith, l));
}

pub tabled_more : (mid new : Built) (width count : ℕ) (f : (ℕ → ℕ) → ℕ → ℕ) (ws more : List Wire) (w : Wire) → Later mid new → AreTabled mid width count f ws → IsWire new w → w.width ≡ width → ((v : ℕ → ℕ) → Solves new v → v w.number ≡ f v count) → more ≡ ws ++ w ∷ [] → AreTabled new width (count + 1) f more
tabled_more mid new width count f ws more w l h u n m e = record {
  long = ap length e ∙ length_push ws w ∙ ap (λ i. i + 1) h.long;
  entries = entries_more mid new width ws more w l h.entries u n e;
  each = λ v k d s b. subst (λ (xs : List Wire). v (get_or xs k d).number ≡ f v k) (sym e) (elim (cases_lt k (length ws)) [
    | inl i ↦ ap (λ (x : Wire). v x.number) (get_or_append_left ws (w ∷ []) d k i) ∙ h.each v k d (l.back v s) (omega (arith, h.long))
    | inr j ↦
        let q : length ws ≡ k = omega (arith, h.long) in
        let c : count ≡ k = omega (arith, h.long) in
        ap (λ (x : Wire). v x.number) (get_or_push ws w d k q) ∙ m v s ∙ ap (f v) c
  ]);
}

-- the one at an index
pub tabled_at : (b : Built) (width count : ℕ) (f : (ℕ → ℕ) → ℕ → ℕ) (ws : List Wire) (v : ℕ → ℕ) (k : ℕ) → AreTabled b width count f ws → Solves b v → k < count → get_or (wire_values v ws) k 0 ≡ f v k
tabled_at b width count f ws v k h s l =
    let none : Wire = record { number = 0; width = 0 } in
    get_or-map (λ (w : Wire). v w.number) ws k none 0 (omega (arith, h.long)) ∙ h.each v k none s l

pub picked_means : (mid new : Built) (width count : ℕ) (f : (ℕ → ℕ) → ℕ → ℕ) (ws rows : List Wire) (w index : Wire) → Adds mid new → AreTabled mid width count f ws → rows ≡ ws → IsWire mid index → count ≡ 2 ^ index.width → Means new w (λ v. get_or (wire_values v rows) (v index.number) 0) → Means new w (λ v. f v (v index.number))
picked_means mid new width count f ws rows w index g h e i p m = record {
  at = λ v s.
      let s1 = g.later.back v s in
      let l : v index.number < count = subst (λ (n : ℕ). v index.number < n) (sym p) (fits_wire mid index v s1 i) in
      m.at v s ∙ ap (λ (xs : List Wire). get_or (wire_values v xs) (v index.number) 0) e ∙ tabled_at mid width count f ws v (v index.number) h s1 l;
}
