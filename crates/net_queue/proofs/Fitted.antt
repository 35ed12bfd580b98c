-- Wires of another width with the same values.
use Rattle.std.proofs.Common.{◌≡◌, ℕ, suc, ◌+◌, ◌-◌, ◌*◌, ◌/◌, ◌%◌, ◌^◌, ◌<◌, ◌≤◌, List, [], ◌∷◌, ◌++◌, length, get_or, refl, sym, ap, ◌∙◌, subst, arith, inl, inr}
use Rattle.std.proofs.lemmas.Bool.{cases_lt}
use Rattle.std.proofs.lemmas.List.{get_or_append_left, get_or_push, length_push, get_or_default}
use Rattle.tl_edge.specs.Wires.{FitWires}
use Rattle.net_build.specs.declared.types.Wire.{Wire}
use Rattle.net_build.specs.Bits.{wire_values}
use Rattle.net_build.specs.Built.{Built}
use Rattle.net_build.specs.Registers.{AreWires}
use Rattle.net_build.specs.Values.{Adds, Later, Means, Solves}
use Rattle.net_build.proofs.OpenedLists.{later_same}
use Rattle.net_queue.specs.Rows.{KeepsRow, KeepsValue}

pub adds_same : (b : Built) → Adds b b
adds_same b = record { later = later_same b; inputs = refl; outputs = refl; undriven = refl }

pub keeps_later : (old new : Built) (x y : Wire) → Later old new → KeepsValue old x y → KeepsValue new x y
keeps_later old new x y g h = record { at = λ v s l. h.at v (g.back v s) l }

pub keeps_wide : (old new : Built) (x zeros w : Wire) → Adds old new → Means old zeros (λ v. 0) → Means new w (λ v. v zeros.number * 2 ^ x.width + v x.number) → KeepsValue new x w
keeps_wide old new x zeros w g z m = record {
  at = λ v s l.
      m.at v s ∙ ap (λ (n : ℕ). n * 2 ^ x.width + v x.number) (z.at v (g.later.back v s)) ∙ omega arith;
}

low_bits : (x n : ℕ) → x < n → x / 1 % n ≡ x
low_bits x n l = grind arith

pub keeps_low : (b : Built) (x w : Wire) (width : ℕ) → 1 ≤ width → w.width ≡ width → Means b w (λ v. v x.number / 2 ^ 0 % 2 ^ (width - 1 - 0 + 1)) → KeepsValue b x w
keeps_low b x w width o e m = record {
  at = λ v s l.
      let n : width - 1 - 0 + 1 ≡ width = omega arith in
      m.at v s ∙ ap (λ (k : ℕ). v x.number / 2 ^ 0 % 2 ^ k) n ∙ low_bits (v x.number) (2 ^ width) (subst (λ (k : ℕ). v x.number < 2 ^ k) e l);
}

pub keeps_itself : (b : Built) (x : Wire) → KeepsValue b x x
keeps_itself b x = record { at = λ v s l. refl }

-- ---- rows

pub record AllKeep (b : Built) (xs ws : List Wire) : Type 0 where
  pub each : (k : ℕ) (d e : Wire) → k < length ws → KeepsValue b (get_or xs k d) (get_or ws k e)

pub keep_more : (mid new : Built) (xs ws more : List Wire) (w : Wire) (k : ℕ) (d : Wire) → Later mid new → length ws ≡ k → k < length xs → AllKeep mid xs ws → KeepsValue new (get_or xs k d) w → more ≡ ws ++ w ∷ [] → AllKeep new xs more
keep_more mid new xs ws more w k d g n b h u e = subst (AllKeep new xs) (sym e) (record {
  each = λ j c f r.
      elim (cases_lt j (length ws)) [
        | inl s ↦ rw (get_or_append_left ws (w ∷ []) f j s) (keeps_later mid new (get_or xs j c) (get_or ws j f) g (h.each j c f s))
        | inr t ↦
            let q : length ws ≡ j = omega (arith, length_push ws w) in
            let i : k ≡ j = omega arith in
            rw (get_or_push ws w f j q) (subst (λ (x : Wire). KeepsValue new x w) (subst (λ (i : ℕ). get_or xs k d ≡ get_or xs i c) i (get_or_default xs k d c b)) u)
      ];
})

pub row_kept : (b : Built) (xs ws : List Wire) (widths : List ℕ) → length ws ≡ length widths → length xs ≡ length widths → AreWires b widths ws → AllKeep b xs ws → KeepsRow b xs widths ws
row_kept b xs ws widths l m h g = record { at = λ v s f. same v s xs ws widths l m h g f }
  where
    same : (v : ℕ → ℕ) → Solves b v → (xs ws : List Wire) (widths : List ℕ) → length ws ≡ length widths → length xs ≡ length widths → AreWires b widths ws → AllKeep b xs ws → FitWires (wire_values v xs) widths → wire_values v ws ≡ wire_values v xs
    same v s [] [] [] l m h g f = refl
    same v s (x ∷ xs) [] widths l m h g f = absurd (omega (arith, l, m))
    same v s [] (w ∷ ws) widths l m h g f = absurd (omega (arith, l, m))
    same v s (x ∷ xs) (w ∷ ws) [] l m h g f = absurd (omega (arith, l))
    same v s [] [] (n ∷ widths) l m h g f = absurd (omega (arith, l))
    same v s (x ∷ xs) (w ∷ ws) (n ∷ widths) l m h g f =
        ap (λ (y : ℕ). y ∷ wire_values v ws) ((g.each 0 x w (omega arith)).at v s (subst (λ (k : ℕ). v x.number < 2 ^ k) (sym (h.each 0 w (omega arith)).1) f.0))
        ∙ ap (λ (ys : List ℕ). v x.number ∷ ys)
        (same v s xs ws widths (omega (arith, l)) (omega (arith, m))
        (record { each = λ k d j. h.each (suc k) d (omega (arith, j)) })
        (record { each = λ k d e j. g.each (suc k) d e (omega (arith, j)) })
        f.1)
